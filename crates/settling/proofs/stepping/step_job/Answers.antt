use Rattle.jobs.specs.Values.{job_of}
use Rattle.settling.proofs.Steps.{became_job, became_none}
use Rattle.jobs.proofs.Ranges.{hole, no_hole}
use Rattle.settling.proofs.stepping.step_job.Goals as goal

pub returns-then-is_hole : goal.returns-then-is_hole
returns-then-is_hole c = became_none c.args.home.now c.args.live.now c.args.time c.args.j c.row-row.result.words.now c.row-row.ensures (hole c.is_hole.ensures c.if-is_hole.true)

pub returns : goal.returns
returns c =
    became_job c.args.home.now c.args.live.now c.step_for.new.home c.step_for.new.live c.args.time c.args.j c.row-row.result.words.now (job_of c.job-job.result) c.row-row.ensures (no_hole c.is_hole.ensures c.if-is_hole.false) c.job-job.ensures c.step_for.ensures
