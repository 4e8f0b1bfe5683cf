use Rattle.std.proofs.Common.{◌∷◌, ◌∙◌}
use Rattle.lines.proofs.Reading.{hex_first, hex_first_no, hex_second_no}
use Rattle.agents.proofs.Texts.{byte_read}
use Rattle.agents.proofs.text.byte_of.Goals as goal

pub returns-in_err-high : goal.returns-in_err-high
returns-in_err-high c = rw c.from_residual.ensures (λ bs ts. hex_first_no bs c.args.high (c.args.low ∷ ts) c.in_err-high.ensures.value)

pub returns-in_err-low : goal.returns-in_err-low
returns-in_err-low c = rw c.from_residual-in_err-low.ensures (λ bs ts. hex_first bs c.args.high (c.args.low ∷ ts) c.in_ok-high.ensures.value.0 ∙ hex_second_no bs _ c.args.low ts c.in_err-low.ensures.value)

pub returns : goal.returns
returns c = λ bs ts. let h = c.in_ok-high.ensures.value in let l = c.in_ok-low.ensures.value in byte_read bs c.args.high c.args.low ts _ _ h.0 h.1 l.0 l.1
