use Rattle.jobs.proofs.JobLaws.{job_gone}
use Rattle.jobs.proofs.job_rows.remove_job.Goals as goal

pub returns : goal.returns
returns c = rw c.remove.ensures (job_gone c.args.home.now c.requires.words c.args.i c.requires.within)
