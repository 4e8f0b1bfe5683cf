-- A digit that was read.
-- Assumes nothing.
use Rattle.std.specs.Prelude.{◌≡◌, ℕ, ◌<◌, ◌∷◌, Some, None, Option, MatchOption}
use Rattle.std.specs.Char.{digit_value}
use Rattle.model.specs.Wire.{garbled, meant}
use Rattle.lines.specs.Text.{Text, decimal_on}
use Rattle.lines.specs.Resume.{number_in}
use Rattle.lines.specs.declared.stage.Nibble.{Nibble}

abbrev pub Digit : ℕ → Option Nibble → Type 0
Digit c r = MatchOption r (digit_value c < 16 → ⊥) (λ n. (digit_value c < 16) × (n.value ≡ digit_value c))

-- one digit more of a number
abbrev pub More : Option ℕ → ℕ → Option ℕ → Type 0
More n c None = (ts : Text) → decimal_on (number_in n) (c ∷ ts) ≡ garbled
More n c (Some m) = (ts : Text) → decimal_on (number_in n) (c ∷ ts) ≡ decimal_on (meant m) ts
