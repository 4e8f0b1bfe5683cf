use Rattle.std.proofs.Common.{ℕ, List}
use Rattle.settling.proofs.Sweeps.{Sweeping}
use Rattle.settling.proofs.sweeping.end_orphans.Given as goal

abbrev pub invariant-loop-i : goal.invariant-loop-i
invariant-loop-i l = (live : List ℕ) → Sweeping l.initial.home live l.i l.home
