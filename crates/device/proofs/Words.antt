-- A word as octets reads it.
-- Assumes nothing.
use Rattle.std.proofs.Common.{◌≡◌, ℕ, suc, ◌+◌, ◌*◌, ◌<◌, ◌≤◌, [], ◌∷◌, length, get_or, take, drop, refl, ◌∙◌, arith}
use Rattle.std.proofs.lemmas.List.{get_or-drop, get_or-take, length-drop, length-take-le}
use Rattle.model.specs.Wire.{Bytes, field, value_of}
use Rattle.device.specs.Bytes.{word_at}

-- eight bytes, one by one
value_of_eight : (xs : Bytes) → length xs ≡ 8 →
    value_of xs ≡ get_or xs 0 0 * 72057594037927936 + get_or xs 1 0 * 281474976710656 + get_or xs 2 0 * 1099511627776 + get_or xs 3 0 * 4294967296 + get_or xs 4 0 * 16777216 + get_or xs 5 0 * 65536 + get_or xs 6 0 * 256 + get_or xs 7 0
value_of_eight [] h = absurd (omega (arith, h))
value_of_eight (a ∷ []) h = absurd (omega (arith, h))
value_of_eight (a ∷ b ∷ []) h = absurd (omega (arith, h))
value_of_eight (a ∷ b ∷ c ∷ []) h = absurd (omega (arith, h))
value_of_eight (a ∷ b ∷ c ∷ d ∷ []) h = absurd (omega (arith, h))
value_of_eight (a ∷ b ∷ c ∷ d ∷ e ∷ []) h = absurd (omega (arith, h))
value_of_eight (a ∷ b ∷ c ∷ d ∷ e ∷ f ∷ []) h = absurd (omega (arith, h))
value_of_eight (a ∷ b ∷ c ∷ d ∷ e ∷ f ∷ g ∷ []) h = absurd (omega (arith, h))
value_of_eight (a ∷ b ∷ c ∷ d ∷ e ∷ f ∷ g ∷ i ∷ []) h = omega arith
value_of_eight (a ∷ b ∷ c ∷ d ∷ e ∷ f ∷ g ∷ i ∷ j ∷ js) h = let z : suc (suc (suc (suc (suc (suc (suc (suc (suc (length js))))))))) ≡ 8 = h in absurd (omega arith)

module _ (bs : Bytes) (o : ℕ) where
  byte : (k : ℕ) → k < 8 → get_or (take 8 (drop o bs)) k 0 ≡ get_or bs (o + k) 0
  byte k h = get_or-take 8 (drop o bs) k 0 h ∙ get_or-drop o bs k 0

pub field_word : (bs : Bytes) (i : ℕ) → 8 * i + 8 ≤ length bs → field 8 (8 * i) bs ≡ word_at bs i
field_word bs i h =
    let o = 8 * i in
    let xs = drop o bs in
    let l : length (take 8 xs) ≡ 8 = length-take-le 8 xs (omega (arith, length-drop o bs)) in
    let z : o + 0 ≡ o = omega arith in
    let b = byte bs o in
    value_of_eight (take 8 xs) l ∙ rw (b 0 (omega arith), b 1 (omega arith), b 2 (omega arith), b 3 (omega arith), b 4 (omega arith), b 5 (omega arith), b 6 (omega arith), b 7 (omega arith), z) refl
