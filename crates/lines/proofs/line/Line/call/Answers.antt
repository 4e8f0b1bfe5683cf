use Rattle.std.proofs.Common.{◌∙◌, arith}
use Rattle.lines.proofs.Holding.{call_short, call_misframed, call_held}
use Rattle.lines.proofs.line.Line.call.Goals.{then-self-lt8-via-then-self-lt8, then-self-lt8-via-else-self-lt8+then-from-self}
use Rattle.lines.proofs.line.Line.call.Goals as goal

pub returns-then-self-lt8 : goal.returns-then-self-lt8
returns-then-self-lt8 c = λ line h.
    elim c.then-self-lt8.branch [
      | then-self-lt8-via-then-self-lt8 w ↦ call_short _ _ line h w.if-self-lt8.true
      | then-self-lt8-via-else-self-lt8+then-from-self w ↦ call_misframed _ _ line h w.from.result (w.from.ensures ∙ w.number_at.ensures) (omega (arith, w.from.ensures, w.number_at.type_inv)) w.if-self-lt8.false w.if-from-self.true
    ]

pub returns : goal.returns
returns c = λ line h.
    call_held _ _ line h c.from.result c.min.result (c.from.ensures ∙ c.number_at.ensures) (omega (arith, c.from.ensures, c.number_at.type_inv)) c.if-self-lt8.false c.if-from-self.false c.min.ensures
