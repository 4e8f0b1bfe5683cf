use Rattle.settling.proofs.Weighs.{Weighed}
use Rattle.settling.proofs.loads.weigh_all.Given as goal

-- each load is that of the weights so far
abbrev pub invariant-loop-w : goal.invariant-loop-w
invariant-loop-w l = (goal.iterator-loop-w).can_next l.w-iterator × (goal.iterator-loop-w).is_finite l.w-iterator × Weighed l.home l.yielded l.loads
