use Rattle.std.proofs.Common.{◌≡◌, ℕ, ◌==◌, true, false, subst, rules, tests}
use Rattle.std.proofs.lemmas.Iterator.{first_from_Range}
use Rattle.model.specs.Lists.{some}
use Rattle.model.specs.State.{is_job}
use Rattle.jobs.specs.Rows.{at, row_at}
use Rattle.jobs.specs.Tables.{FoundAt, job_at, job_from_lem}
use Rattle.jobs.specs.Values.{name_of}
use Rattle.jobs.proofs.Ranges.{found_in_range}
use Rattle.jobs.proofs.finding.find_job.Goals as goal

pub returns : goal.returns
returns c =
    let home = c.args.home.now in
    let p = is_job (name_of c.args.name.now) in
    let f = first_from_Range _ _ _ _ (λ i. some p (job_at home i) ≡ true) (λ i. some p (job_at home i) ≡ false) c.find.ensures.ran (λ x q k. search (rules, tests)) (λ x q k. (search rules, search (rules, tests))) in
    subst (λ (n : ℕ). FoundAt p (job_at home) n c.find.result) c.in_use.ensures.is
    (found_in_range p (λ i. at (row_at 8 26 home i) 0 == 0) (λ i. job_from_lem (row_at 8 26 home i)) c.in_use.result c.find.result f)
