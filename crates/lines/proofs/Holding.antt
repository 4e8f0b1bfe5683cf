-- A line that comes byte by byte: what is held of it.
-- Assumes nothing.
use Rattle.std.proofs.Common.{◌≡◌, ℕ, suc, ◌+◌, ◌-◌, ◌<◌, ◌≤◌, min, true, false, eqb, ltb, [], ◌∷◌, ◌++◌, length, get_or, take, drop, set, sym, refl, ap, ◌∙◌, arith, take-take}
use Rattle.std.proofs.lemmas.Bool.{lt-ltb, le-ltb, eq-eqb, ne_eqb}
use lib.Seq.{take-append-le}
use Rattle.std.proofs.lemmas.List.{length_push, take_more_set, take_all, drop-take}
use Rattle.model.specs.Wire.{Bytes, value_of, field}
use Rattle.model.specs.Lines.{tag_in, call_in, kind_in}
use Rattle.lines.specs.Held.{room, call_room, counted, Holds}

module _ (r : ℕ) (bytes : Bytes) (count : ℕ) (line : Bytes) (b : ℕ) (long : count ≡ counted (length line)) (front : take (min count r) bytes ≡ take r line) where
  long_more : min (count + 1) 18446744073709551615 ≡ counted (length (line ++ (b ∷ [])))
  long_more = let p = length_push line b in omega (arith, p, long)

  -- a byte that is held
  front_more : length bytes ≡ r → r < 18446744073709551615 → count < r → take (min (min (count + 1) 18446744073709551615) r) (set bytes count b) ≡ take r (line ++ (b ∷ []))
  front_more e s l =
      let short : length line ≡ count = omega (arith, long) in let all : length (line ++ (b ∷ [])) ≤ r = let p = length_push line b in omega arith in
      let n : min (min (count + 1) 18446744073709551615) r ≡ count + 1 = omega arith in let k : min count r ≡ count = omega arith in
      let in' : count < length bytes = omega arith in let some : length line ≤ r = omega arith in
      let f : take count bytes ≡ line = (rw k at front) ∙ take_all r line some in
      rw n (take_more_set bytes count b in' ∙ ap (λ (xs : Bytes). xs ++ (b ∷ [])) f ∙ sym (take_all r (line ++ (b ∷ [])) all))

  -- a byte behind those
  front_past : r < 18446744073709551615 → r ≤ count → take (min (min (count + 1) 18446744073709551615) r) bytes ≡ take r (line ++ (b ∷ []))
  front_past s l =
      let n : min (min (count + 1) 18446744073709551615) r ≡ r = omega arith in let k : min count r ≡ r = omega arith in
      let long' : r ≤ length line = omega (arith, long) in
      rw n ((rw k at front) ∙ sym (take-append-le r line (b ∷ []) long'))

pub holds_more : (bytes : Bytes) (count : ℕ) (line : Bytes) (b : ℕ) → length bytes ≡ room → Holds bytes count line → count < room → Holds (set bytes count b) (min (count + 1) 18446744073709551615) (line ++ (b ∷ []))
holds_more bytes count line b e h l = record { long = long_more room bytes count line b h.long h.front; front = front_more room bytes count line b h.long h.front e (omega arith) l }

pub holds_past : (bytes : Bytes) (count : ℕ) (line : Bytes) (b : ℕ) → Holds bytes count line → room ≤ count → Holds bytes (min (count + 1) 18446744073709551615) (line ++ (b ∷ []))
holds_past bytes count line b h l = record { long = long_more room bytes count line b h.long h.front; front = front_past room bytes count line b h.long h.front (omega arith) l }

-- a part that is held is that part of the line
part_same : (r a w count : ℕ) (bytes line : Bytes) → a + w ≤ min count r → take (min count r) bytes ≡ take r line → take w (drop a bytes) ≡ take w (drop a line)
part_same r a w count bytes line h front =
    let s : a + w ≤ r = omega arith in
    sym (drop-take a w bytes) ∙ ap (drop a) (sym (take-take (a + w) (min count r) bytes h) ∙ ap (take (a + w)) front ∙ take-take (a + w) r line s) ∙ drop-take a w line

-- what is held behind the frame
behind_same : (r c held count : ℕ) (bytes line : Bytes) → r ≡ 8 + c → 8 ≤ count → held ≡ min count r → count ≡ length line → take (min count r) bytes ≡ take r line → take (held - 8) (drop 8 bytes) ≡ take c (drop 8 line)
behind_same r c held count bytes line e l k n front =
    let a : held ≡ 8 + (held - 8) = omega arith in
    let b : take (8 + (held - 8)) bytes ≡ take r line = rw (← a, k) front in
    sym (drop-take 8 (held - 8) bytes) ∙ ap (drop 8) b ∙ rw e (drop-take 8 c line)

pub held_part : (bytes : Bytes) (count : ℕ) (line : Bytes) (a w : ℕ) → Holds bytes count line → a + w ≤ min count room → take w (drop a bytes) ≡ take w (drop a line)
held_part bytes count line a w h l = part_same room a w count bytes line l h.front

module _ (bytes : Bytes) (count : ℕ) (line : Bytes) (h : Holds bytes count line) where
  -- the test of the count is the test of the length
  short_same : count < 8 → ltb (length line) 8 ≡ true
  short_same l = lt-ltb _ _ (let q = h.long in omega arith)

  long_same : 8 ≤ count → ltb (length line) 8 ≡ false
  long_same l = le-ltb _ _ (let q = h.long in omega arith)

  pub tag_short : count < 8 → 0 ≡ tag_in line
  tag_short l = rw (short_same l)

  pub tag_held : 8 ≤ count → value_of (take 4 (drop 4 bytes)) ≡ tag_in line
  tag_held l = rw (long_same l) (ap value_of (held_part bytes count line 4 4 h (omega arith)))

  pub call_short : count < 8 → [] ≡ take call_room (call_in line)
  call_short l = rw (short_same l)

  -- the length that the frame says
  head_same : 8 ≤ count → field 4 0 line ≡ value_of (take 4 bytes)
  head_same l = sym (ap value_of (held_part bytes count line 0 4 h (omega arith)))

  small : (x : ℕ) → x ≡ counted (length line) → x < 18446744073709551615 → x ≡ length line
  small x e l = omega arith

  -- where the length that the frame says, v, is not that of the rest
  pub call_misframed : (v : ℕ) → v ≡ value_of (take 4 bytes) → v < 4294967296 → 8 ≤ count → (v + 4 ≡ count → ⊥) → [] ≡ take call_room (call_in line)
  call_misframed v g s l n =
      let f = head_same l in let q = h.long in
      let e : eqb (field 4 0 line + 4) (length line) ≡ false = ne_eqb _ _ (λ (p : field 4 0 line + 4 ≡ length line). n (omega (arith, p, f, q, g))) in
      rw (long_same l, e)

  -- and where it is: what is held behind the frame
  pub call_held : (v held : ℕ) → v ≡ value_of (take 4 bytes) → v < 4294967296 → 8 ≤ count → v + 4 ≡ count → held ≡ min count room → take (held - 8) (drop 8 bytes) ≡ take call_room (call_in line)
  call_held v held g s l e k =
      let f = head_same l in let q = h.long in
      let t : eqb (field 4 0 line + 4) (length line) ≡ true = eq-eqb _ _ (omega (arith, f, q, g)) in
      rw (long_same l, t) (behind_same room call_room held count bytes line refl l k (small count q (omega arith)) h.front)

-- the first byte of what is held is the first of all
pub kind_none : (n : ℕ) (xs bs : Bytes) → xs ≡ take (suc n) bs → length xs ≡ 0 → 0 ≡ kind_in bs
kind_none n xs [] e l = refl
kind_none n xs (b ∷ bs) e l = absurd (let p = ap length e in let q : length (b ∷ take n bs) ≡ 0 = sym p ∙ l in omega arith)

pub kind_first : (n : ℕ) (xs bs : Bytes) → xs ≡ take (suc n) bs → 0 < length xs → get_or xs 0 0 ≡ kind_in bs
kind_first n xs [] e l = absurd (let p = ap length e in omega arith)
kind_first n xs (b ∷ bs) e l = ap (λ (ys : Bytes). get_or ys 0 0) e
