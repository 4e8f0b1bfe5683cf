-- What was read is written back: numbers, tags and tasks.
-- Assumes nothing.
use Rattle.std.proofs.Common.{◌≡◌, ℕ, zero, suc, ◌+◌, ◌*◌, ◌^◌, ◌<◌, ◌≤◌, [], ◌∷◌, ◌++◌, length, get_or, take, drop, sym, refl, ap, ◌∙◌, arith, length-drop, length-take, drop-drop, take-add, drop-cons, add-one}
use Rattle.std.proofs.lemmas.List.{take-append-drop, take_all}
use Rattle.std.proofs.ByRecursion.{All-take}
use Rattle.std.specs.Int.Digits.{AllBelowBase}
use Rattle.model.specs.Wire.{Bytes, bytes_of, field, byte_at, tags_in_lem, tag_bytes}
use Rattle.octets.proofs.Numbers.{length_take_under, bytes_of_value, value_lt}

pub below_drop : (n : ℕ) (bs : Bytes) → AllBelowBase 256 bs → AllBelowBase 256 (drop n bs)
below_drop zero bs u = u
below_drop (suc n) [] u = u
below_drop (suc n) (b ∷ bs) u = below_drop n bs u.1

-- a number at a place
pub field_again : (w at : ℕ) (bs : Bytes) → at + w ≤ length bs → AllBelowBase 256 bs → bytes_of w (field w at bs) ≡ take w (drop at bs)
field_again w at bs l u = bytes_of_value w (take w (drop at bs)) (length_take_under w (drop at bs) (let d = length-drop at bs in omega arith)) (All-take (λ d. d < 256) w (drop at bs) (below_drop at bs u))

-- and what stands behind it
pub field_on : (w at : ℕ) (bs : Bytes) → at + w ≤ length bs → AllBelowBase 256 bs → bytes_of w (field w at bs) ++ drop (at + w) bs ≡ drop at bs
field_on w at bs l u = ap (λ (xs : Bytes). xs ++ drop (at + w) bs) (field_again w at bs l u) ∙ ap (λ (xs : Bytes). take w (drop at bs) ++ xs) (sym (drop-drop w at bs)) ∙ take-append-drop w (drop at bs)

-- the same, where the next place is known by another name
pub field_to : (w at next : ℕ) (bs : Bytes) → next ≡ at + w → next ≤ length bs → AllBelowBase 256 bs → bytes_of w (field w at bs) ++ drop next bs ≡ drop at bs
field_to w at next bs e l u = ap (λ (n : ℕ). bytes_of w (field w at bs) ++ drop n bs) e ∙ field_on w at bs (omega arith) u

pub field_last : (w at : ℕ) (bs : Bytes) → length bs ≡ at + w → AllBelowBase 256 bs → bytes_of w (field w at bs) ≡ drop at bs
field_last w at bs l u = field_again w at bs (omega arith) u ∙ take_all w (drop at bs) (let d = length-drop at bs in omega arith)

pub byte_on : (at : ℕ) (bs : Bytes) → at < length bs → byte_at at bs ∷ drop (at + 1) bs ≡ drop at bs
byte_on at bs l = sym (drop-cons bs at 0 l ∙ ap (λ (n : ℕ). get_or bs at 0 ∷ drop n bs) (sym (add-one at)))

pub byte_to : (at next : ℕ) (bs : Bytes) → next ≡ at + 1 → at < length bs → byte_at at bs ∷ drop next bs ≡ drop at bs
byte_to at next bs e l = ap (λ (n : ℕ). byte_at at bs ∷ drop n bs) e ∙ byte_on at bs l

-- and they are in range
below_at : (i : ℕ) (bs : Bytes) → AllBelowBase 256 bs → get_or bs i 0 < 256
below_at i [] u = omega arith
below_at zero (b ∷ bs) u = u.0
below_at (suc i) (b ∷ bs) u = below_at i bs u.1

pub byte_small : (at : ℕ) (bs : Bytes) → AllBelowBase 256 bs → byte_at at bs < 256
byte_small at bs u = below_at at bs u

pub field_lt : (w at : ℕ) (bs : Bytes) → AllBelowBase 256 bs → field w at bs < 256 ^ w
field_lt w at bs u = value_lt (take w (drop at bs)) w (let l = length-take w (drop at bs) in omega arith) (All-take (λ d. d < 256) w (drop at bs) (below_drop at bs u))

pub tags_again : (n : ℕ) (bs : Bytes) → 4 * n ≤ length bs → AllBelowBase 256 bs → tag_bytes (tags_in_lem n bs) ≡ take (4 * n) bs
unfolding tag_bytes tags_in_lem
tags_again zero bs l u = refl
tags_again (suc n) bs l u =
    let e : 4 * suc n ≡ 4 + 4 * n = omega arith in let d = length-drop 4 bs in
    let h = tags_again n (drop 4 bs) (omega (arith, l, d)) (below_drop 4 bs u) in
    let f : bytes_of 4 (field 4 0 bs) ≡ take 4 bs = field_again 4 0 bs (omega (arith, l)) u in
    rw (e, f, h) (sym (take-add 4 (4 * n) bs))
