use Rattle.settling.proofs.Sweeps.{Stepped}
use Rattle.settling.proofs.sweeping.step_jobs.Given as goal

abbrev pub invariant-loop-j : goal.invariant-loop-j
invariant-loop-j l = Stepped l.initial.home l.initial.live l.time l.j l.home l.live
