use Rattle.settling.proofs.Placements.{Placing}
use Rattle.settling.proofs.placing.place_all.Given as goal

abbrev pub invariant-loop-i : goal.invariant-loop-i
invariant-loop-i l = Placing l.initial.home l.initial.live l.time l.i l.home l.live
