-- Reading a text character by character.
-- Assumes nothing.
use Rattle.std.proofs.Common.{◌≡◌, ℕ, ◌+◌, ◌*◌, ◌<◌, ◌≤◌, false, ltb, [], ◌∷◌, ◌++◌, Some, None, Option, unwrap_or, refl, arith}
use Rattle.std.specs.Char.{digit_value}
use Rattle.std.proofs.lemmas.Bool.{lt-ltb, le-ltb}
use Rattle.model.specs.Wire.{Bytes, Read, garbled, meant}
use Rattle.lines.specs.declared.stage.Stage.{Stage}
use Rattle.lines.specs.declared.stage.Stage.TheVariants.{Start, I, In, T, Ti, Tim, Time, High, Low, Clock, Bad}
use Rattle.lines.specs.Resume.{number_in, resume}
use Rattle.lines.specs.Text.{Text, first, second, hex_on, so_far, longer, decimal_on, time_line_lem}

-- a test of a digit that fails
no_digit : (n k : ℕ) → (n < k → ⊥) → ltb n k ≡ false
no_digit n k f = le-ltb n k (omega (arith, f))

pub hex_first : (bs : Bytes) (c : ℕ) (ts : Text) → digit_value c < 16 → hex_on bs first (c ∷ ts) ≡ hex_on bs (second (digit_value c)) ts
unfolding hex_on
hex_first bs c ts h = rw (lt-ltb (digit_value c) 16 h)

pub hex_first_no : (bs : Bytes) (c : ℕ) (ts : Text) → (digit_value c < 16 → ⊥) → hex_on bs first (c ∷ ts) ≡ garbled
unfolding hex_on
hex_first_no bs c ts h = rw (no_digit (digit_value c) 16 h)

pub hex_second : (bs : Bytes) (d c : ℕ) (ts : Text) → digit_value c < 16 → hex_on bs (second d) (c ∷ ts) ≡ hex_on (bs ++ ((d * 16 + digit_value c) ∷ [])) first ts
unfolding hex_on
hex_second bs d c ts h = rw (lt-ltb (digit_value c) 16 h)

pub hex_second_no : (bs : Bytes) (d c : ℕ) (ts : Text) → (digit_value c < 16 → ⊥) → hex_on bs (second d) (c ∷ ts) ≡ garbled
unfolding hex_on
hex_second_no bs d c ts h = rw (no_digit (digit_value c) 16 h)

pub decimal_more : (r : Read ℕ) (c : ℕ) (ts : Text) → digit_value c < 10 → longer r c < 18446744073709551616 → decimal_on r (c ∷ ts) ≡ decimal_on (meant (longer r c)) ts
unfolding decimal_on
decimal_more r c ts h k = rw (lt-ltb (digit_value c) 10 h, lt-ltb (longer r c) 18446744073709551616 k)

pub decimal_no : (r : Read ℕ) (c : ℕ) (ts : Text) → (digit_value c < 10 → ⊥) → decimal_on r (c ∷ ts) ≡ garbled
unfolding decimal_on
decimal_no r c ts h = rw (no_digit (digit_value c) 10 h)

pub decimal_full : (r : Read ℕ) (c : ℕ) (ts : Text) → digit_value c < 10 → 18446744073709551616 ≤ longer r c → decimal_on r (c ∷ ts) ≡ garbled
unfolding decimal_on
decimal_full r c ts h k = rw (lt-ltb (digit_value c) 10 h, le-ltb (longer r c) 18446744073709551616 k)

pub so_far_lem : (o : Option ℕ) → so_far (number_in o) ≡ unwrap_or o 0
so_far_lem None = refl
so_far_lem (Some n) = refl

-- a text that ends in the midst of a word or of a byte has said nothing
pub ends_rest : (s : Stage) → (s ≡ High → ⊥) → ((o : Option ℕ) → s ≡ Clock o → ⊥) → (bs : Bytes) → resume s bs [] ≡ []
unfolding hex_on
ends_rest Start f g bs = refl
ends_rest I f g bs = refl
ends_rest In f g bs = refl
ends_rest T f g bs = refl
ends_rest Ti f g bs = refl
ends_rest Tim f g bs = refl
ends_rest Time f g bs = refl
ends_rest High f g bs = absurd (f refl)
ends_rest (Low h) f g bs = refl
ends_rest (Clock o) f g bs = absurd (g o refl)
ends_rest Bad f g bs = refl

pub ends_high : (bs : Bytes) → resume High bs [] ≡ bs
unfolding hex_on
ends_high bs = refl

pub ends_clock : (o : Option ℕ) (bs : Bytes) → resume (Clock o) bs [] ≡ time_line_lem (number_in o)
unfolding decimal_on
ends_clock o bs = refl
