use Rattle.std.proofs.Common.{ℕ, List}
use Rattle.settling.proofs.Numbers.{Risen}
use Rattle.settling.proofs.tests.is_numbered.Given as goal

abbrev pub invariant-loop-i : goal.invariant-loop-i
invariant-loop-i l = (live : List ℕ) → Risen l.home live l.i l.last
