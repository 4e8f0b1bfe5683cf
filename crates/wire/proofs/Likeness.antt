-- A likeness and its tags in bytes, written and read back, and read and written again.
-- Assumes nothing.
use Rattle.std.proofs.Common.{◌≡◌, ℕ, zero, suc, ◌+◌, ◌*◌, ◌≤◌, Bool, true, false, ◌&&◌, eqb, List, [], ◌∷◌, ◌++◌, length, drop, sym, refl, ap, ◌∙◌, append_assoc, arith, length-append, length-drop, drop-drop, ltb-true}
use Rattle.std.specs.Int.Digits.{AllBelowBase}
use Rattle.std.proofs.lemmas.List.{drop_at, take-append-drop}
use Rattle.std.proofs.lemmas.Bool.{and_parts, lt-ltb}
use Rattle.model.specs.Lists.{every}
use Rattle.model.specs.State.{Spec}
use Rattle.model.specs.Calls.{small}
use Rattle.model.specs.Wire.{Bytes, bytes_of, field, byte_at, flag_of, tags_in_lem, spec_in_lem, tag_bytes, spec_bytes}
use Rattle.calls.proofs.Ranges.{length_tags}
use Rattle.lines.proofs.Writing.{length_tag_bytes}
use Rattle.wire.specs.Fits.{spec_numbers}
use Rattle.wire.proofs.Fields.{field_front, field_at, drop_front, drop_next, byte_at_lem, length_front}
use Rattle.wire.proofs.Again.{below_drop, field_to, field_lt, byte_to, tags_again}

pub flag_small : (b : Bool) → flag_of b ≤ 1
flag_small true = omega arith
flag_small false = omega arith

pub flag_back : (b : Bool) → eqb (flag_of b) 1 ≡ b
flag_back true = refl
flag_back false = refl

pub flag_again : (n : ℕ) → n ≤ 1 → flag_of (eqb n 1) ≡ n
flag_again zero l = refl
flag_again (suc zero) l = refl
flag_again (suc (suc n)) l = absurd (omega arith)

-- WRITTEN AND READ BACK

pub tags_back : (ts : List ℕ) (rest : Bytes) → every small ts ≡ true → tags_in_lem (length ts) (tag_bytes ts ++ rest) ≡ ts
unfolding tags_in_lem tag_bytes every
tags_back [] rest e = refl
tags_back (t ∷ ts) rest e =
    let p = and_parts (small t) (every small ts) e in let h = tags_back ts rest p.1 in let l = ltb-true t 4294967296 p.0 in
    rw (append_assoc (bytes_of 4 t) (tag_bytes ts) rest, field_front 4 t (tag_bytes ts ++ rest) l, drop_front 4 t (tag_bytes ts ++ rest), h)

-- a likeness and what stands behind it
abbrev pub spec_on : Spec → Bytes → Bytes
spec_on a rest = bytes_of 4 a.image ++ (bytes_of 4 a.cpu ++ (bytes_of 4 a.mem ++ (length a.tags ∷ (tag_bytes a.tags ++ (flag_of a.apart ∷ rest)))))

pub spec_on_lem : (a : Spec) (rest : Bytes) → spec_bytes a ++ rest ≡ spec_on a rest
spec_on_lem a rest = simp append_assoc

module _ (a : Spec) (rest : Bytes) where
  pub front12 : drop 12 (spec_on a rest) ≡ length a.tags ∷ (tag_bytes a.tags ++ (flag_of a.apart ∷ rest))
  front12 = drop_next 4 8 a.mem (spec_on a rest) _ (drop_next 4 4 a.cpu (spec_on a rest) _ (drop_front 4 a.image _))

  front13 : drop 13 (spec_on a rest) ≡ tag_bytes a.tags ++ (flag_of a.apart ∷ rest)
  front13 = sym (drop-drop 1 12 (spec_on a rest)) ∙ ap (drop 1) front12

  pub behind : drop (13 + 4 * length a.tags) (spec_on a rest) ≡ flag_of a.apart ∷ rest
  behind = sym (drop-drop (4 * length a.tags) 13 (spec_on a rest)) ∙ ap (drop (4 * length a.tags)) front13 ∙ drop_at (tag_bytes a.tags) (flag_of a.apart ∷ rest) (4 * length a.tags) (length_tag_bytes a.tags)

  pub long_on : length (spec_on a rest) ≡ 14 + 4 * length a.tags + length rest
  long_on =
      let t = length-append (tag_bytes a.tags) (flag_of a.apart ∷ rest) in let u = length_tag_bytes a.tags in
      let x = length_front 4 a.image (bytes_of 4 a.cpu ++ (bytes_of 4 a.mem ++ (length a.tags ∷ (tag_bytes a.tags ++ (flag_of a.apart ∷ rest))))) in
      let y = length_front 4 a.cpu (bytes_of 4 a.mem ++ (length a.tags ∷ (tag_bytes a.tags ++ (flag_of a.apart ∷ rest)))) in
      let z = length_front 4 a.mem (length a.tags ∷ (tag_bytes a.tags ++ (flag_of a.apart ∷ rest))) in x ∙ omega arith

  pub spec_back : spec_numbers a ≡ true → spec_in_lem (length a.tags) (spec_on a rest) ≡ a
  spec_back f =
      let p2 = and_parts (small a.image && small a.cpu && small a.mem) (every small a.tags) f in
      let p3 = and_parts (small a.image && small a.cpu) (small a.mem) p2.0 in
      let p4 = and_parts (small a.image) (small a.cpu) p3.0 in
      let i = field_front 4 a.image (bytes_of 4 a.cpu ++ (bytes_of 4 a.mem ++ (length a.tags ∷ (tag_bytes a.tags ++ (flag_of a.apart ∷ rest))))) (ltb-true a.image 4294967296 p4.0) in
      let c = field_at 4 4 a.cpu (spec_on a rest) _ (drop_front 4 a.image _) (ltb-true a.cpu 4294967296 p4.1) in
      let m = field_at 4 8 a.mem (spec_on a rest) _ (drop_next 4 4 a.cpu (spec_on a rest) _ (drop_front 4 a.image _)) (ltb-true a.mem 4294967296 p3.1) in
      let t = ap (tags_in_lem (length a.tags)) front13 ∙ tags_back a.tags (flag_of a.apart ∷ rest) p2.1 in
      let b = ap (λ (n : ℕ). eqb n 1) (byte_at_lem (13 + 4 * length a.tags) (flag_of a.apart) (spec_on a rest) rest behind) ∙ flag_back a.apart in
      λ j. record { image = i j; cpu = c j; mem = m j; tags = t j; apart = b j }

-- READ AND WRITTEN AGAIN

-- so many tags, and what stands behind them
pub tags_on : (n : ℕ) (bs : Bytes) → 4 * n ≤ length bs → AllBelowBase 256 bs → tag_bytes (tags_in_lem n bs) ++ drop (4 * n) bs ≡ bs
tags_on n bs l u = ap (λ (xs : Bytes). xs ++ drop (4 * n) bs) (tags_again n bs l u) ∙ take-append-drop (4 * n) bs

pub tags_small : (n : ℕ) (bs : Bytes) → AllBelowBase 256 bs → every small (tags_in_lem n bs) ≡ true
unfolding tags_in_lem every
tags_small zero bs u = refl
tags_small (suc n) bs u = rw (lt-ltb (field 4 0 bs) 4294967296 (field_lt 4 0 bs u)) (tags_small n (drop 4 bs) (below_drop 4 bs u))

module _ (t : ℕ) (bs : Bytes) (u : AllBelowBase 256 bs) where
  -- every number of it is one of four bytes
  pub spec_in_small : spec_numbers (spec_in_lem t bs) ≡ true
  spec_in_small =
      rw (lt-ltb (field 4 0 bs) 4294967296 (field_lt 4 0 bs u), lt-ltb (field 4 4 bs) 4294967296 (field_lt 4 4 bs u), lt-ltb (field 4 8 bs) 4294967296 (field_lt 4 8 bs u))
      (tags_small t (drop 13 bs) (below_drop 13 bs u))

  module _ (l : 14 + 4 * t ≤ length bs) (k : byte_at 12 bs ≡ t) (f : byte_at (13 + 4 * t) bs ≤ 1) where
    end : flag_of (eqb (byte_at (13 + 4 * t) bs) 1) ∷ drop (14 + 4 * t) bs ≡ drop (13 + 4 * t) bs
    end = ap (λ (n : ℕ). n ∷ drop (14 + 4 * t) bs) (flag_again (byte_at (13 + 4 * t) bs) f) ∙ byte_to (13 + 4 * t) (14 + 4 * t) bs (omega arith) (omega arith)

    tags : tag_bytes (tags_in_lem t (drop 13 bs)) ++ drop (13 + 4 * t) bs ≡ drop 13 bs
    tags = ap (λ (xs : Bytes). tag_bytes (tags_in_lem t (drop 13 bs)) ++ xs) (sym (drop-drop (4 * t) 13 bs)) ∙ tags_on t (drop 13 bs) (let d = length-drop 13 bs in omega arith) (below_drop 13 bs u)

    many : length (tags_in_lem t (drop 13 bs)) ∷ drop 13 bs ≡ drop 12 bs
    many = ap (λ (n : ℕ). n ∷ drop 13 bs) (length_tags t (drop 13 bs) ∙ sym k) ∙ byte_to 12 13 bs refl (omega arith)

    pub spec_again : spec_bytes (spec_in_lem t bs) ++ drop (14 + 4 * t) bs ≡ bs
    spec_again =
        spec_on_lem (spec_in_lem t bs) (drop (14 + 4 * t) bs) ∙
        rw (end, tags, many) (ap (λ (xs : Bytes). bytes_of 4 (field 4 0 bs) ++ (bytes_of 4 (field 4 4 bs) ++ xs)) (field_to 4 8 12 bs refl (omega arith) u) ∙
        ap (λ (xs : Bytes). bytes_of 4 (field 4 0 bs) ++ xs) (field_to 4 4 8 bs refl (omega arith) u) ∙ field_to 4 0 4 bs refl (omega arith) u)
