use Rattle.jobs.specs.Tables.{task_at, state_of}
use Rattle.jobs.specs.Values.{job_of}
use Rattle.settling.specs.Scan.{Tallied}
use Rattle.settling.proofs.counting.tally_of.Given as goal

abbrev pub invariant-loop-i : goal.invariant-loop-i
invariant-loop-i l = Tallied (job_of l.job) (state_of l.home l.live l.time) (task_at l.home l.live) l.i l.tally
