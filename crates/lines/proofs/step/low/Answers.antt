use Rattle.std.proofs.Common.{ℕ, ◌+◌, ◌*◌, [], ◌∷◌, ◌++◌, sym, ap, ◌∙◌}
use Rattle.lines.specs.Text.{hex_on, first, bytes_or}
use Rattle.lines.proofs.Reading.{hex_second, hex_second_no}
use Rattle.lines.proofs.step.low.Goals as goal

pub returns-in-Some : goal.returns-in-Some
returns-in-Some c = λ bs ts.
    let d = c.in-Some.ensures in
    ap (λ (n : ℕ). bytes_or (hex_on (bs ++ ((c.args.high.value * 16 + n) ∷ [])) first ts)) d.1 ∙ ap bytes_or (sym (hex_second bs c.args.high.value c.args.c ts d.0))

pub returns-in-None : goal.returns-in-None
returns-in-None c = λ bs ts. ap bytes_or (sym (hex_second_no bs c.args.high.value c.args.c ts c.in-None.ensures))
