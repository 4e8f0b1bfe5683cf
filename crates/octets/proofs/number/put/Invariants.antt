use Rattle.std.proofs.Common.{◌≡◌, ◌++◌, length, drop}
use Rattle.model.specs.Wire.{bytes_of}
use Rattle.octets.proofs.number.put.Given as goal

-- what is written stands behind the bytes of what is left
abbrev pub invariant-loop-i : goal.invariant-loop-i
invariant-loop-i l = bytes_of l.i l.n ++ drop l.i l.out ≡ bytes_of (length l.initial.out) l.number
