use Rattle.std.proofs.Common.{◌≡◌, take}
use Rattle.model.specs.Wire.{value_of}
use Rattle.octets.proofs.number.value.Given as goal

-- what was read so far
abbrev pub invariant-loop-b : goal.invariant-loop-b
invariant-loop-b l = l.n ≡ value_of (take l.b-index l.bytes)
