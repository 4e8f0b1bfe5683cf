use Rattle.std.proofs.Common.{◌≡◌, ◌++◌, take, vec_items}
use Rattle.lines.specs.Text.{hex_text}
use Rattle.agents.proofs.text.push_hex.Given as goal

-- the digits so far
abbrev pub invariant-loop-byte : goal.invariant-loop-byte
invariant-loop-byte l = vec_items l.text ≡ vec_items l.initial.text ++ hex_text (take l.byte-index l.bytes)
