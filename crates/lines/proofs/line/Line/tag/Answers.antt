use Rattle.std.proofs.Common.{◌∙◌}
use Rattle.lines.proofs.Holding.{tag_short, tag_held}
use Rattle.lines.proofs.line.Line.tag.Goals as goal

pub returns-then-self-lt8 : goal.returns-then-self-lt8
returns-then-self-lt8 c = λ line h. tag_short _ _ line h c.if-self-lt8.true

pub returns : goal.returns
returns c = λ line h. c.number_at.ensures ∙ tag_held _ _ line h c.if-self-lt8.false
