use Rattle.std.proofs.Common.{◌+◌, drop}
use Rattle.device.specs.Halves.{copies}
use Rattle.device.proofs.Doings.{Leads}
use Rattle.device.proofs.halves.copy.Given as goal

abbrev pub invariant-loop-i : goal.invariant-loop-i
invariant-loop-i g l = Leads (copies l.from l.home) (g.K.Kept.word l.initial.words) (copies (l.from + l.i) (drop l.i l.home)) (g.K.Kept.word l.words)
