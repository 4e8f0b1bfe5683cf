-- Closing holes: rows move down, the entries stay.
-- Assumes nothing.
use Rattle.std.proofs.Common.{◌≡◌, ℕ, ◌+◌, ◌*◌, ◌<◌, ◌≤◌, true, false, cond, eqb, List, [], ◌∷◌, ◌++◌, length, drop, set, sym, refl, ap, ◌∙◌, inl, inr, arith}
use borrow.Rule.Slice.PartMut.{put_mid}
use Rattle.std.proofs.lemmas.List.{ext_get_or, length-take, length-drop, get_or-take, get_or-drop, get_or-set_same, get_or-set_other, length-set, append-nil, length-append}
use Rattle.std.proofs.lemmas.Bool.{eq-eqb, ne_eqb, cases_lt}
use Rattle.jobs.specs.Rows.{at, row_at, span, Only, WordsPut, Moved, Entry, entry_at, Closed}
use Rattle.jobs.proofs.Words.{row_before, only_row, only_none, only_wide, only_then, put_only, put_row_lem}
use Rattle.jobs.proofs.Spans.{span_none, span_more, span_same}

pub puts_words : (p k : ℕ) (ws r : List ℕ) → k ≡ length r → p + length r ≤ length ws → WordsPut p r ws (put_mid p k ws r)
puts_words p k ws r e h = rw e (record { here = put_row_lem (length r) p (length r) ws r (omega arith) refl; only = put_only p (length r) ws r h refl })

-- n words were copied down
pub moved : (h0 : List ℕ) (from to n : ℕ) (home : List ℕ) → to ≤ from → from + n ≤ length h0 → ((j : ℕ) → j < n → at home (to + j) ≡ at h0 (from + j)) → Only to (to + n) home h0 → Moved from to n h0 home
moved h0 from to n home d l m o =
    let long = o.long in
    record {
      here = ext_get_or 0 _ _ (simp (length-take, length-drop) (omega arith)) (λ j h. let k : j < n = omega (arith, length-take n (drop to home)) in get_or-take n (drop to home) j 0 k ∙ get_or-drop to home j 0 ∙ m j k ∙ sym (get_or-take n (drop from h0) j 0 k ∙ get_or-drop from h0 j 0));
      only = o;
    }

-- CLOSING

module _ (b w n : ℕ) where
  -- rows up to i are closed up to `to`
  pub record Closing (h0 f0 : List ℕ) (i to : ℕ) (home fs : List ℕ) : Type 0 where
    pub low : to ≤ i
    pub list : span (entry_at b w home fs) 0 to ≡ span (entry_at b w h0 f0) 0 i
    pub count : length (span (entry_at b w h0 f0) 0 i) ≡ to
    pub ahead : (k : ℕ) → i ≤ k → k < n → entry_at b w home fs k ≡ entry_at b w h0 f0 k
    pub only : Only b (b + n * w) home h0
    pub long : length fs ≡ length f0

  pub closing_none : (h0 f0 : List ℕ) → Closing h0 f0 0 0 h0 f0
  closing_none h0 f0 = record { low = omega arith; list = refl; count = ap length (span_none (entry_at b w h0 f0) 0); ahead = λ k l h. refl; only = only_none b (b + n * w) h0; long = refl }

  module _ (h0 f0 : List ℕ) (i to : ℕ) (home fs : List ℕ) (within : i < n) (c : Closing h0 f0 i to home fs) where
    pub closing_hole : at (row_at b w home i) 0 ≡ 0 → Closing h0 f0 (i + 1) to home fs
    closing_hole e =
        let z : eqb (at (row_at b w home i) 0) 0 ≡ true = eq-eqb _ 0 e in
        let none : entry_at b w h0 f0 i ≡ [] = sym (c.ahead i (omega arith) within) ∙ rw z in
        let same' : span (entry_at b w h0 f0) 0 (i + 1) ≡ span (entry_at b w h0 f0) 0 i = span_more (entry_at b w h0 f0) i ∙ ap (λ (xs : List Entry). span (entry_at b w h0 f0) 0 i ++ xs) none ∙ append-nil _ in
        record { low = (let l = c.low in omega arith); list = c.list ∙ sym same'; count = ap length same' ∙ c.count; ahead = λ k l h. c.ahead k (omega arith) h; only = c.only; long = c.long }

    pub closing_move : (home' : List ℕ) → b + n * w ≤ length home → n ≤ length fs → (at (row_at b w home i) 0 ≡ 0 → ⊥) → Moved (b + i * w) (b + to * w) w home home' → Closing h0 f0 (i + 1) (to + 1) home' (set fs to (at fs i))
    closing_move home' fit fl ne m =
        let l = c.low in
        let fs' = set fs to (at fs i) in
        let z : eqb (at (row_at b w home i) 0) 0 ≡ false = ne_eqb _ 0 ne in
        let one : length (entry_at b w home fs i) ≡ 1 = rw z in
        let under : (k : ℕ) → k < n → k * w + w ≤ n * w = λ k h. row_before w k n h in
        let other : (k : ℕ) → k < n → (k ≡ to → ⊥) → row_at b w home' k ≡ row_at b w home k = λ k h q.
        only_row (b + to * w) (b + to * w + w) (b + k * w) w home' home m.only (let u = under k h in omega arith)
        (elim (cases_lt k to) [ inl lt ↦ inl (let u = row_before w k to lt in omega arith) | inr ge ↦ inr (let u = row_before w to k (past k ge q) in omega arith) ]) in
        let moved : entry_at b w home' fs' to ≡ entry_at b w home fs i =
        ap (λ (r : List ℕ). cond (eqb (at r 0) 0) [] (record { row = r; flag = at fs' to } ∷ [])) m.here ∙ ap (λ (v : ℕ). cond (eqb (at (row_at b w home i) 0) 0) [] (record { row = row_at b w home i; flag = v } ∷ [])) (get_or-set_same fs to (at fs i) 0 (omega arith)) in
        let kept : (k : ℕ) → k < n → (k ≡ to → ⊥) → entry_at b w home' fs' k ≡ entry_at b w home fs k = λ k h q.
        ap (λ (r : List ℕ). cond (eqb (at r 0) 0) [] (record { row = r; flag = at fs' k } ∷ [])) (other k h q) ∙ ap (λ (v : ℕ). cond (eqb (at (row_at b w home k) 0) 0) [] (record { row = row_at b w home k; flag = v } ∷ [])) (get_or-set_other fs to k (at fs i) 0 q) in
        let here : entry_at b w h0 f0 i ≡ entry_at b w home fs i = sym (c.ahead i (omega arith) within) in
        let more' : span (entry_at b w h0 f0) 0 (i + 1) ≡ span (entry_at b w h0 f0) 0 i ++ entry_at b w home fs i = span_more (entry_at b w h0 f0) i ∙ ap (λ (xs : List Entry). span (entry_at b w h0 f0) 0 i ++ xs) here in
        let front : span (entry_at b w home' fs') 0 to ≡ span (entry_at b w home fs) 0 to = span_same (entry_at b w home' fs') (entry_at b w home fs) 0 to (λ k a q. kept k (omega arith) (λ e. omega arith)) in
        record {
          low = omega arith;
          list = span_more (entry_at b w home' fs') to ∙ ap (λ (xs : List Entry). xs ++ entry_at b w home' fs' to) (front ∙ c.list) ∙ ap (λ (xs : List Entry). span (entry_at b w h0 f0) 0 i ++ xs) moved ∙ sym more';
          count = ap length more' ∙ length-append (span (entry_at b w h0 f0) 0 i) (entry_at b w home fs i) ∙ omega (arith, c.count, one);
          ahead = λ k a q. kept k q (λ e. omega arith) ∙ c.ahead k (omega arith) q;
          only = only_then b (b + n * w) home' home h0 (only_wide (b + to * w) (b + to * w + w) b (b + n * w) home' home (omega arith) (let u = row_before w to n (omega arith) in omega arith) m.only) c.only;
          long = length-set fs to (at fs i) ∙ c.long;
        }
      where
        past : (k : ℕ) → to ≤ k → (k ≡ to → ⊥) → to < k
        past k g q = omega arith

  pub closing_all : (h0 f0 : List ℕ) (i to : ℕ) (home fs : List ℕ) → i ≡ n → Closing h0 f0 i to home fs → Closed b w n h0 f0 home fs to
  closing_all h0 f0 i to home fs e c = record {
    list = c.list ∙ ap (span (entry_at b w h0 f0) 0) e;
    count = ap (λ (k : ℕ). length (span (entry_at b w h0 f0) 0 k)) (sym e) ∙ c.count;
    low = (let l = c.low in omega arith);
    only = c.only;
    long = c.long;
  }

-- the first word of a row
pub first_word : (b w : ℕ) (ws : List ℕ) (i : ℕ) → 0 < w → at (row_at b w ws i) 0 ≡ at ws (b + i * w)
first_word b w ws i h = get_or-take w (drop (b + i * w) ws) 0 0 h ∙ get_or-drop (b + i * w) ws 0 0 ∙ (let e : b + i * w + 0 ≡ b + i * w = omega arith in ap (at ws) e)
