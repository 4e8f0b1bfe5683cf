use Rattle.std.proofs.Common.{◌≡◌, ℕ, ◌==◌, true, false, refl, subst, rules, tests}
use Rattle.std.proofs.lemmas.Iterator.{first_from_Range}
use Rattle.model.specs.Lists.{some}
use Rattle.model.specs.State.{is_machine}
use Rattle.jobs.specs.Rows.{at, row_at}
use Rattle.jobs.specs.Tables.{FoundAt, machine_at, machine_from, machine_slot}
use Rattle.jobs.proofs.Ranges.{found_as, found_in_range, some_as}
use Rattle.jobs.proofs.finding.find_machine.Goals as goal

pub returns : goal.returns
returns c = λ live.
    let home = c.args.home.now in
    let p = is_machine c.args.num.0 in
    let r = row_at 6664 24 home in
    let same' : (i : ℕ) → some p (machine_at home live i) ≡ some p (machine_slot (r i) 0) = λ i. some_as p _ (machine_from (r i) (at live i)) (machine_from (r i) 0) refl in
    let f = first_from_Range _ _ _ _ (λ i. some p (machine_slot (r i) 0) ≡ true) (λ i. some p (machine_slot (r i) 0) ≡ false) c.find.ensures.ran (λ x q k. search (rules, tests)) (λ x q k. (search rules, search (rules, tests))) in
    subst (λ (n : ℕ). FoundAt p (machine_at home live) n c.find.result) c.in_use.ensures.is
    (found_in_range p (λ i. at (r i) 0 == 0) (λ i. machine_from (r i) (at live i)) c.in_use.result c.find.result (found_as _ same' c.find.result f))
