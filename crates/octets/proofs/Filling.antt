-- Numbers of four bytes, read one behind the other.
-- Assumes nothing.
use Rattle.std.proofs.Common.{◌≡◌, ℕ, zero, suc, ◌+◌, ◌*◌, ◌/◌, ◌<◌, ◌≤◌, List, [], ◌∷◌, ◌++◌, length, take, drop, set, sym, refl, ap, ◌∙◌, append_assoc, append-nil, arith, length-append, length-drop, take-take}
use Rattle.std.proofs.lemmas.List.{take_at, drop_at, take_all, take_more_set, drop-take}
use Rattle.model.specs.Wire.{Bytes, value_of, field, tags_in_lem}

-- the first number, and the others
pub tags_front : (piece rest : Bytes) → length piece ≡ 4 → tags_in_lem (length (piece ++ rest) / 4) (piece ++ rest) ≡ field 4 0 piece ∷ tags_in_lem (length rest / 4) rest
unfolding tags_in_lem
tags_front piece rest l =
    let a = length-append piece rest in let n : length (piece ++ rest) / 4 ≡ suc (length rest / 4) = omega (arith, a, l) in
    let f : field 4 0 (piece ++ rest) ≡ field 4 0 piece = ap value_of (take_at piece rest 4 l ∙ sym (take_all 4 piece (omega (arith, l)))) in
    let d : drop 4 (piece ++ rest) ≡ rest = drop_at piece rest 4 l in rw (n, f, d)

pub fill_more : (out : List ℕ) (i k next v : ℕ) (piece rest left : Bytes) (all : List ℕ) → i < length out → i ≡ k → next ≡ k + 1 → length piece ≡ 4 → rest ≡ piece ++ left → v ≡ field 4 0 piece → take k out ++ tags_in_lem (length rest / 4) rest ≡ all →
    take next (set out i v) ++ tags_in_lem (length left / 4) left ≡ all
fill_more out i k next v piece rest left all b e f l r w inv =
    let t : take next (set out i v) ≡ take k out ++ (field 4 0 piece ∷ []) = rw (f, ← e) (take_more_set out i v b ∙ ap (λ (n : ℕ). take i out ++ (n ∷ [])) w) in
    ap (λ (xs : List ℕ). xs ++ tags_in_lem (length left / 4) left) t ∙ append_assoc (take k out) (field 4 0 piece ∷ []) (tags_in_lem (length left / 4) left) ∙
    ap (λ (xs : List ℕ). take k out ++ xs) (sym (ap (λ (bs : Bytes). tags_in_lem (length bs / 4) bs) r ∙ tags_front piece left l)) ∙ inv

pub fill_done : (out : List ℕ) (k n : ℕ) (rest : Bytes) (all : List ℕ) → length rest < 4 → k + length rest / 4 ≡ n → take k out ++ tags_in_lem (length rest / 4) rest ≡ all → take n out ≡ all
unfolding tags_in_lem
fill_done out k n rest all l e inv = let z : length rest / 4 ≡ 0 = omega (arith, l) in let m : n ≡ k = omega (arith, e, z) in ap (λ (j : ℕ). take j out) m ∙ sym (append-nil (take k out)) ∙ ap (λ (j : ℕ). take k out ++ tags_in_lem j rest) (sym z) ∙ inv

-- as many as are wanted, from a slice that holds no more
pub tags_within : (n : ℕ) (bs : Bytes) → 4 * n ≤ length bs → tags_in_lem n (take (4 * n) bs) ≡ tags_in_lem n bs
unfolding tags_in_lem
tags_within zero bs l = refl
tags_within (suc n) bs l =
    let e : 4 * suc n ≡ 4 + 4 * n = omega arith in let d = length-drop 4 bs in
    let f : take 4 (take (4 + 4 * n) bs) ≡ take 4 bs = take-take 4 (4 + 4 * n) bs (omega arith) in
    let g : drop 4 (take (4 + 4 * n) bs) ≡ take (4 * n) (drop 4 bs) = drop-take 4 (4 * n) bs in
    let h = tags_within n (drop 4 bs) (omega (arith, l, d)) in rw (e, f, g, h)
