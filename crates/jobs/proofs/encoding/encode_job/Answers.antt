use Rattle.std.proofs.Common.{ℕ, List, ap, ◌∙◌, arith, rules}
use Rattle.jobs.specs.Rows.{at}
use Rattle.jobs.specs.Tables.{job_from_lem}
use Rattle.jobs.proofs.Back.{Sized, job_back, version_there}
use Rattle.jobs.proofs.encoding.encode_job.Goals as goal

pub returns : goal.returns
returns c =
    let s : Sized c.args.job = search rules in
    record { back = ap job_from_lem c.job_words.ensures ∙ job_back c.args.job s; there = let e = ap (λ (l : List ℕ). at l 0) c.job_words.ensures in let h = version_there c.args.job.version.0 in omega (arith, e, h) }
