use Rattle.std.proofs.Common.{◌≡◌, length, arith, rules}
use Rattle.jobs.specs.Values.{job_of}
use Rattle.jobs.proofs.JobLaws.{job_put}
use Rattle.jobs.proofs.job_rows.put_job.Goals as goal

pub returns : goal.returns
returns c =
    let l : length c.encode_job.result ≡ 26 = search rules in
    job_put c.args.home.now c.requires.words c.put.new.home c.encode_job.result c.args.i (job_of c.args.job) c.requires.within l c.encode_job.ensures.back (λ e. omega (arith, e, c.encode_job.ensures.there)) c.put.ensures
