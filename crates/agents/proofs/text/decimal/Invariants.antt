use Rattle.std.proofs.Common.{◌≡◌, drop}
use Rattle.model.specs.Wire.{garbled}
use Rattle.lines.specs.Text.{decimal_on}
use Rattle.lines.specs.Resume.{number_in}
use Rattle.agents.proofs.text.decimal.Given as goal

-- what is left goes on from the number so far
abbrev pub invariant-loop-c : goal.invariant-loop-c
invariant-loop-c l = decimal_on (number_in l.number) (drop l.c-index l.text) ≡ decimal_on garbled l.text
