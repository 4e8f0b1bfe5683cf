-- Bytes in hexadecimal, written byte by byte, and read back.
-- Assumes nothing.
use Rattle.std.proofs.Common.{◌≡◌, ℕ, ◌+◌, ◌*◌, ◌/◌, ◌%◌, ◌<◌, [], ◌∷◌, ◌++◌, length, get_or, take, set, sym, refl, ap, ◌∙◌, append_assoc, append-nil, arith, length-set}
use Rattle.std.specs.Char.{digit_value, digit_char}
use Rattle.std.specs.Int.Digits.{AllBelowBase}
use Rattle.std.proofs.lemmas.List.{take_more, take_more_set}
use Rattle.std.proofs.lemmas.Str.{digit_value-digit_char}
use Rattle.model.specs.Wire.{Bytes, meant}
use Rattle.lines.specs.Text.{Text, first, hex_on, hex_text, HexBack}
use Rattle.lines.proofs.Reading.{hex_first, hex_second}

pub hex_text_push : (bs : Bytes) (b : ℕ) → hex_text (bs ++ (b ∷ [])) ≡ hex_text bs ++ (digit_char (b / 16) ∷ digit_char (b % 16) ∷ [])
unfolding hex_text
hex_text_push [] b = refl
hex_text_push (a ∷ bs) b = let h = hex_text_push bs b in ap (λ (t : Text). digit_char (a / 16) ∷ digit_char (a % 16) ∷ t) h

-- behind the bytes that were read
hex_on_lem : (xs bs : Bytes) → AllBelowBase 256 bs → hex_on xs first (hex_text bs) ≡ meant (xs ++ bs)
unfolding hex_on hex_text
hex_on_lem xs [] u = ap meant (sym (append-nil xs))
hex_on_lem xs (b ∷ bs) u =
    let h : b / 16 < 16 = omega (arith, u.0) in
    let hi = digit_value-digit_char (b / 16) (omega arith) in let lo = digit_value-digit_char (b % 16) (omega arith) in
    let p = hex_first xs (digit_char (b / 16)) (digit_char (b % 16) ∷ hex_text bs) (omega (arith, hi)) in
    let q = hex_second xs (digit_value (digit_char (b / 16))) (digit_char (b % 16)) (hex_text bs) (omega (arith, lo)) in
    let v : digit_value (digit_char (b / 16)) * 16 + digit_value (digit_char (b % 16)) ≡ b = omega (arith, hi, lo) in
    p ∙ q ∙ ap (λ (x : ℕ). hex_on (xs ++ (x ∷ [])) first (hex_text bs)) v ∙ hex_on_lem (xs ++ (b ∷ [])) bs u.1 ∙ ap meant (append_assoc xs (b ∷ []) bs)

pub hex_back_lem : HexBack
hex_back_lem bs u = hex_on_lem [] bs u

-- two places written one behind the other
two_more : (text : Text) (n x y : ℕ) → n + 1 < length text → take (n + 1 + 1) (set (set text n x) (n + 1) y) ≡ take n text ++ (x ∷ y ∷ [])
two_more text n x y h =
    take_more_set (set text n x) (n + 1) y (simp length-set (omega arith)) ∙ ap (λ (t : Text). t ++ (y ∷ [])) (take_more_set text n x (omega arith)) ∙ append_assoc (take n text) (x ∷ []) (y ∷ [])

-- one byte more is two digits more
pub hex_more : (bytes text front : Bytes) (i : ℕ) → i < length bytes → 4 + 2 * i + 1 < length text → take (4 + 2 * i) text ≡ front ++ hex_text (take i bytes) → (x y : ℕ) → x ≡ digit_char (get_or bytes i 0 / 16) → y ≡ digit_char (get_or bytes i 0 % 16) →
    take (4 + 2 * (i + 1)) (set (set text (4 + 2 * i) x) (4 + 2 * i + 1) y) ≡ front ++ hex_text (take (i + 1) bytes)
hex_more bytes text front i h l e x y p q =
    let n : 4 + 2 * (i + 1) ≡ 4 + 2 * i + 1 + 1 = omega arith in
    rw (n, take_more bytes i 0 h, hex_text_push (take i bytes) (get_or bytes i 0), ← p, ← q) (two_more text (4 + 2 * i) x y l ∙ ap (λ (t : Text). t ++ (x ∷ y ∷ [])) e ∙ append_assoc front (hex_text (take i bytes)) (x ∷ y ∷ []))
