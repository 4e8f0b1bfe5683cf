use Rattle.std.proofs.Common.{ℕ, sym, ap, ◌∙◌}
use Rattle.lines.specs.Text.{hex_on, second, bytes_or}
use Rattle.lines.proofs.Reading.{hex_first, hex_first_no}
use Rattle.lines.proofs.step.high.Goals as goal

pub returns-in-Some : goal.returns-in-Some
returns-in-Some c = λ bs ts. let d = c.in-Some.ensures in ap (λ (n : ℕ). bytes_or (hex_on bs (second n) ts)) d.1 ∙ ap bytes_or (sym (hex_first bs c.args.c ts d.0))

pub returns-in-None : goal.returns-in-None
returns-in-None c = λ bs ts. ap bytes_or (sym (hex_first_no bs c.args.c ts c.in-None.ensures))
