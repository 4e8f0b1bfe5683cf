-- Bytes in hexadecimal, one by one.
-- Assumes nothing.
use Rattle.std.proofs.Common.{◌≡◌, ℕ, ◌+◌, ◌*◌, ◌/◌, ◌%◌, ◌<◌, ◌≤◌, Bool, true, false, cond, ltb, [], ◌∷◌, ◌++◌, length, get_or, take, drop, sym, refl, ap, ◌∙◌, append_assoc, append-nil, arith}
use Rattle.std.specs.Char.{digit_char, digit_value}
use Rattle.std.proofs.lemmas.List.{take_more, take_all, drop_all}
use Rattle.model.specs.Wire.{Bytes, Read, garbled, meant}
use Rattle.lines.specs.Text.{Text, first, hex_on, hex_text, decimal_on}
use Rattle.lines.proofs.Reading.{hex_first, hex_second}
use Rattle.lines.proofs.Hexing.{hex_text_push}

pub hex_none : (base : Text) (bs : Bytes) → base ≡ base ++ hex_text (take 0 bs)
unfolding hex_text
hex_none base bs = sym (append-nil base)

pub hex_more : (base : Text) (bs : Bytes) (i : ℕ) (acc acc' : Text) → i < length bs → acc ≡ base ++ hex_text (take i bs) → acc' ≡ acc ++ (digit_char (get_or bs i 0 / 16) ∷ digit_char (get_or bs i 0 % 16) ∷ []) → acc' ≡ base ++ hex_text (take (i + 1) bs)
hex_more base bs i acc acc' l inv e =
    e ∙ ap (λ (ts : Text). ts ++ (digit_char (get_or bs i 0 / 16) ∷ digit_char (get_or bs i 0 % 16) ∷ [])) inv ∙ append_assoc base (hex_text (take i bs)) (digit_char (get_or bs i 0 / 16) ∷ digit_char (get_or bs i 0 % 16) ∷ []) ∙
    ap (λ (ts : Text). base ++ ts) (sym (hex_text_push (take i bs) (get_or bs i 0)) ∙ ap hex_text (sym (take_more bs i 0 l)))

pub hex_all : (base : Text) (bs : Bytes) (i : ℕ) (acc : Text) → length bs ≤ i → acc ≡ base ++ hex_text (take i bs) → acc ≡ base ++ hex_text bs
hex_all base bs i acc l inv = inv ∙ ap (λ (xs : Bytes). base ++ hex_text xs) (take_all i bs l)

-- READING

pub byte_read : (bs : Bytes) (h l : ℕ) (ts : Text) (x y : ℕ) → digit_value h < 16 → x ≡ digit_value h → digit_value l < 16 → y ≡ digit_value l → hex_on bs first (h ∷ l ∷ ts) ≡ hex_on (bs ++ ((x * 16 + y) ∷ [])) first ts
byte_read bs h l ts x y p e q f = rw (hex_first bs h (l ∷ ts) p, hex_second bs (digit_value h) l ts q, e, f)

-- a digit that is left over
pub hex_odd : (rest ts : Text) (xs : Bytes) → length rest < 2 → length rest % 2 ≡ length ts % 2 → (length ts % 2 ≡ 0 → ⊥) → hex_on xs first rest ≡ hex_on [] first ts → hex_on [] first ts ≡ garbled
unfolding hex_on
hex_odd [] ts xs l o n e = absurd (n (omega (arith, o)))
hex_odd (c ∷ []) ts xs l o n e = sym e ∙ pick (ltb (digit_value c) 16)
  where
    pick : (b : Bool) → ◌≡◌ {A = Read Bytes} (cond b garbled garbled) garbled
    pick true = refl
    pick false = refl
hex_odd (c ∷ d ∷ rest) ts xs l o n e = absurd (omega arith)

pub hex_even : (rest ts : Text) (xs : Bytes) → length rest < 2 → length rest % 2 ≡ length ts % 2 → length ts % 2 ≡ 0 → hex_on xs first rest ≡ hex_on [] first ts → hex_on [] first ts ≡ meant xs
unfolding hex_on
hex_even [] ts xs l o n e = sym e
hex_even (c ∷ rest) ts xs l o n e = absurd (omega (arith, l, o, n))

pub decimal_end : (ts : Text) (i : ℕ) (r : Read ℕ) → length ts ≤ i → r ≡ decimal_on r (drop i ts)
unfolding decimal_on
decimal_end ts i r l = sym (ap (decimal_on r) (drop_all i ts l))
