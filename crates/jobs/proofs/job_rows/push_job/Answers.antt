use Rattle.std.proofs.Common.{◌≡◌, length, arith, rules}
use Rattle.jobs.specs.Values.{job_of}
use Rattle.jobs.proofs.JobLaws.{job_pushed}
use Rattle.jobs.proofs.job_rows.push_job.Goals as goal

pub returns : goal.returns
returns c =
    let l : length c.encode_job.result ≡ 26 = search rules in
    let p = c.push.ensures.pushed in
    rw p.counted (job_pushed c.args.home.now c.requires.words p.mid c.encode_job.result c.push.result (job_of c.args.job) c.push.ensures.row (omega (arith, c.push.ensures.row)) l c.encode_job.ensures.back (λ e. omega (arith, e, c.encode_job.ensures.there)) p.put)
