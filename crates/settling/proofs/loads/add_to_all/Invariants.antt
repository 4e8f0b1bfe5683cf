use Rattle.settling.proofs.Weighs.{Adding}
use Rattle.settling.proofs.loads.add_to_all.Given as goal

abbrev pub invariant-loop-r : goal.invariant-loop-r
invariant-loop-r l = Adding l.home l.w l.initial.load-items l.r l.load-items
