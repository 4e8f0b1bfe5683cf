use Rattle.std.proofs.Common.{take}
use Rattle.lines.specs.Held.{Holds}
use Rattle.lines.proofs.line.Line.set.Given as goal

-- the front of the line is there
abbrev pub invariant-loop-byte : goal.invariant-loop-byte
invariant-loop-byte l = Holds l.self.bytes l.self.count (take l.byte-index l.line)
