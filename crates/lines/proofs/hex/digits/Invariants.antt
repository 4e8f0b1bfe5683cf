use Rattle.std.proofs.Common.{◌≡◌, ◌+◌, ◌*◌, ◌++◌, take}
use Rattle.lines.specs.Text.{hex_text}
use Rattle.lines.proofs.hex.digits.Given as goal

-- the digits of the bytes so far stand behind the first four characters
abbrev pub invariant-loop-i : goal.invariant-loop-i
invariant-loop-i l = take (4 + 2 * l.i) l.text ≡ take 4 l.initial.text ++ hex_text (take l.i l.bytes)
