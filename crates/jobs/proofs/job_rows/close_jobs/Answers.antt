use Rattle.std.proofs.Common.{refl}
use Rattle.jobs.proofs.JobLaws.{jobs_closed}
use Rattle.jobs.proofs.job_rows.close_jobs.Goals as goal

pub returns : goal.returns
returns c =
    let s = c.close.ensures in
    let q = jobs_closed c.args.home.now c.requires _ s.mid c.close.new.flags _ s.to refl s.closed in
    rw s.counted (record { now = q.0; rows = q.1 })
