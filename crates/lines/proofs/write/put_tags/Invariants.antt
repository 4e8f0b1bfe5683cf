use Rattle.std.proofs.Common.{◌≡◌, ◌+◌, ◌*◌, take}
use Rattle.model.specs.Wire.{tag_bytes}
use Rattle.lines.specs.Puts.{Puts}
use Rattle.lines.proofs.write.put_tags.Given as goal

-- the tags so far are written
abbrev pub invariant-loop-tag : goal.invariant-loop-tag
invariant-loop-tag l = Puts (tag_bytes (take l.tag-index l.tags)) l.initial.out l.out l.at l.end × (l.end ≡ l.at + 4 * l.tag-index)
