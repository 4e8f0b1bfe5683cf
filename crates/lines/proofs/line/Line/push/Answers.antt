use Rattle.std.proofs.Common.{◌≡◌, ℕ, ◌+◌, min, List, [], ◌∷◌, ◌++◌, length, sym, subst, rules}
use Rattle.lines.specs.Held.{Holds}
use Rattle.lines.specs.declared.line.Line.{Line}
use Rattle.lines.proofs.Holding.{holds_more, holds_past}
use Rattle.lines.proofs.line.Line.push.Goals.{then-self, else-self}
use Rattle.lines.proofs.line.Line.push.Goals as goal

-- the line after its count went up
abbrev Counts : List ℕ → ℕ → Line → Type 0
Counts line b l = Holds l.bytes (min (l.count + 1) 18446744073709551615) (line ++ (b ∷ []))

pub returns : goal.returns
returns c = λ line h.
    let whole : length c.args.self.now.bytes ≡ 18461 = search rules in
    let counts : Counts line c.args.byte c.if-self.self =
    elim c.if-self.branch [
      | then-self w ↦ subst (Counts line c.args.byte) (sym w.self-is) (holds_more _ _ line c.args.byte whole h w.if-self.true)
      | else-self w ↦ subst (Counts line c.args.byte) (sym w.self-is) (holds_past _ _ line c.args.byte h w.if-self.false)
    ] in
    subst (λ (n : ℕ). Holds c.if-self.self.bytes n (line ++ (c.args.byte ∷ []))) (sym c.saturating_add-self.ensures) counts
