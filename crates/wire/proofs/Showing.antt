-- A showing's lines in bytes, one by one.
-- Assumes nothing.
use Rattle.std.proofs.Common.{◌≡◌, ℕ, suc, ◌+◌, ◌-◌, ◌*◌, ◌/◌, ◌<◌, ◌≤◌, true, false, ◌&&◌, leb, List, [], ◌∷◌, ◌++◌, length, take, drop, sym, ap, ◌∙◌, append_assoc, append-nil, arith, length-append, length-drop}
use Rattle.std.proofs.lemmas.List.{drop_at, take-append-le, drop-append-le, get_or_append_left, take_rest}
use Rattle.std.proofs.lemmas.Bool.{eq-eqb}
use Rattle.model.specs.Calls.{Line}
use Rattle.model.specs.Wire.{Bytes, garbled, meant, value_of, field, byte_at, Shown}
use Rattle.model.specs.Answers.{lines_in, phases_in, read_shown}
use Rattle.wire.specs.Answering.{line_in}

-- a number that stands in the first of two parts
field_left : (w at : ℕ) (xs ys : Bytes) → at + w ≤ length xs → field w at (xs ++ ys) ≡ field w at xs
field_left w at xs ys l =
    let d = length-drop at xs in ap value_of (ap (take w) (drop-append-le at xs ys (omega arith)) ∙ take-append-le w (drop at xs) ys (omega arith))

module _ (piece left : Bytes) (l : length piece ≡ 15) where
  count : length (piece ++ left) / 15 ≡ suc (length left / 15)
  count = let a = length-append piece left in omega arith

  phase_byte : byte_at 12 (piece ++ left) ≡ byte_at 12 piece
  phase_byte = get_or_append_left piece left 0 12 (omega arith)

  phases_front : phases_in (length (piece ++ left) / 15) (piece ++ left) ≡ (leb (byte_at 12 piece) 3 && phases_in (length left / 15) left)
  unfolding phases_in
  phases_front = rw (count, phase_byte, drop_at piece left 15 l)

  lines_front : lines_in (length (piece ++ left) / 15) (piece ++ left) ≡ line_in piece ∷ lines_in (length left / 15) left
  unfolding lines_in
  lines_front = rw (count, phase_byte, drop_at piece left 15 l, field_left 8 0 piece left (omega arith), field_left 4 8 piece left (omega arith), field_left 2 13 piece left (omega arith))

-- these bytes are left, behind the lines so far
pub record Listing (bs rest : Bytes) (ls : List Line) : Type 0 where
  pub fits : phases_in (length rest / 15) rest ≡ phases_in (length bs / 15) bs
  pub value : ls ++ lines_in (length rest / 15) rest ≡ lines_in (length bs / 15) bs

pub listing_begins : (bs rest : Bytes) → rest ≡ bs → Listing bs rest []
listing_begins bs rest e = record { fits = ap (λ (xs : Bytes). phases_in (length xs / 15) xs) e; value = ap (λ (xs : Bytes). lines_in (length xs / 15) xs) e }

module _ (bs rest piece left : Bytes) (ls : List Line) (h : Listing bs rest ls) (l : length piece ≡ 15) (r : rest ≡ piece ++ left) where
  fits_step : phases_in (length bs / 15) bs ≡ (leb (byte_at 12 piece) 3 && phases_in (length left / 15) left)
  fits_step = sym h.fits ∙ ap (λ (xs : Bytes). phases_in (length xs / 15) xs) r ∙ phases_front piece left l

  -- no line is next
  pub listing_bad : leb (byte_at 12 piece) 3 ≡ false → phases_in (length bs / 15) bs ≡ false
  listing_bad e = fits_step ∙ rw e

  pub listing_more : (x : Line) → leb (byte_at 12 piece) 3 ≡ true → x ≡ line_in piece → (ls' : List Line) → ls' ≡ ls ++ (x ∷ []) → Listing bs left ls'
  listing_more x e f ls' q = record {
    fits = sym (fits_step ∙ rw e);
    value = rw (q, f) (append_assoc ls (line_in piece ∷ []) (lines_in (length left / 15) left)) ∙ ap (λ (ys : List Line). ls ++ ys) (sym (ap (λ (xs : Bytes). lines_in (length xs / 15) xs) r ∙ lines_front piece left l)) ∙ h.value;
  }

module _ (bs rest : Bytes) (ls : List Line) (h : Listing bs rest ls) (l : length rest < 15) where
  none_left : length rest / 15 ≡ 0
  none_left = omega arith

  pub listing_ends : phases_in (length bs / 15) bs ≡ true
  unfolding phases_in
  listing_ends = sym h.fits ∙ rw none_left

  pub listing_all : ls ≡ lines_in (length bs / 15) bs
  unfolding lines_in
  listing_all = sym (append-nil ls) ∙ ap (λ (ys : List Line). ls ++ ys) (sym (let z : lines_in (length rest / 15) rest ≡ [] = rw none_left in z)) ∙ h.value

-- all of a showing
module _ (bs : Bytes) (n : ℕ) (k : n ≡ field 2 0 bs) (l : length bs ≡ 2 + 15 * n) where
  test : (length bs ≡ 2 + 15 * field 2 0 bs)
  test = l ∙ ap (λ (x : ℕ). 2 + 15 * x) k

  many : length (take (length bs - 2) (drop 2 bs)) / 15 ≡ n
  many = let a = ap length (take_rest bs 2) in let d = length-drop 2 bs in omega arith

  pub shown_read : (ls : List Line) → phases_in (length (take (length bs - 2) (drop 2 bs)) / 15) (take (length bs - 2) (drop 2 bs)) ≡ true → ls ≡ lines_in (length (take (length bs - 2) (drop 2 bs)) / 15) (take (length bs - 2) (drop 2 bs)) →
      read_shown bs ≡ meant (Shown ls)
  shown_read ls f v =
      let g : phases_in (field 2 0 bs) (drop 2 bs) ≡ true = ap (λ (x : ℕ). phases_in x (drop 2 bs)) (sym k) ∙ sym (λ i. phases_in (many i) (take_rest bs 2 i)) ∙ f in
      let o : lines_in (field 2 0 bs) (drop 2 bs) ≡ ls = ap (λ (x : ℕ). lines_in x (drop 2 bs)) (sym k) ∙ sym (v ∙ (λ i. lines_in (many i) (take_rest bs 2 i))) in
      rw (eq-eqb _ _ test, g, o)

  pub shown_bad : phases_in (length (take (length bs - 2) (drop 2 bs)) / 15) (take (length bs - 2) (drop 2 bs)) ≡ false → read_shown bs ≡ garbled
  shown_bad f =
      let g : phases_in (field 2 0 bs) (drop 2 bs) ≡ false = ap (λ (x : ℕ). phases_in x (drop 2 bs)) (sym k) ∙ sym (λ i. phases_in (many i) (take_rest bs 2 i)) ∙ f in
      rw (eq-eqb _ _ test, g)
