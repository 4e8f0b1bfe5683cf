use Rattle.std.proofs.Common.{ℕ, ◌-◌, length, take, drop, sym, ap, ◌∙◌, subst}
use Rattle.model.specs.Calls.{Call}
use Rattle.model.specs.Wire.{Read, read_kind_lem}
use Rattle.lines.specs.Reads.{ReadAs}
use Rattle.lines.proofs.Parsing.{call_read}
use Rattle.lines.proofs.read.read.Goals as goal

pub returns-in_ok-of-in-len1-up : goal.returns-in_ok-of-in-len1-up
returns-in_ok-of-in-len1-up c =
    let bs = c.args.bytes.now in
    subst (λ (x : Read Call). ReadAs x c.read_kind.result)
    (ap (λ (k : ℕ). read_kind_lem k (take (length bs - 1) (drop 1 bs))) (sym c.in_ok-of-in-len1-up.ensures) ∙ call_read bs c.in-len1-up.len_at_least) c.read_kind.ensures
