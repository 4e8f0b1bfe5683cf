-- Answers, read and written as the same bytes.
-- Assumes nothing.
use Rattle.std.proofs.Common.{◌≡◌, ℕ, zero, suc, ◌+◌, ◌*◌, ◌<◌, ◌≤◌, true, ◌&&◌, inl, inr, eqb, leb, [], ◌∷◌, ◌++◌, length, drop, sym, refl, ap, ◌∙◌, subst, arith, length-drop, drop-drop, get_or-drop, leb-true}
use Rattle.std.specs.Int.Digits.{AllBelowBase}
use Rattle.std.proofs.lemmas.Bool.{and_parts, eqb-true, lt-ltb, le-leb}
use Rattle.model.specs.Lists.{every}
use Rattle.model.specs.Calls.{small}
use Rattle.model.specs.Wire.{Bytes, Read, garbled, meant, bytes_of, field, byte_at, tags_in_lem, spec_in_lem, spec_bytes, order_bytes, phase_of, line_bytes, Answer, Runs, Shown, answer_bytes}
use Rattle.model.specs.Answers.{tags_at, order_width, order_in, is_order_in, orders_in_lem, are_orders_in, phase_in, lines_in, phases_in, read_refused, read_done, read_runs, read_shown, read_answer_kind, read_answer_lem, order_fits}
use Rattle.calls.proofs.Ranges.{length_tags}
use Rattle.wire.specs.Fits.{line_fits, answer_fits, AnswersAgain, NoOtherAnswers}
use Rattle.wire.proofs.Again.{below_drop, field_to, field_lt, byte_to, byte_small}
use Rattle.wire.proofs.CallsAgain.{let_through, either, not_garbled}
use Rattle.wire.proofs.Likeness.{spec_in_small, spec_again}
use Rattle.wire.proofs.Ordered.{length_orders_in}

pub record Rewritten (bs : Bytes) (a : Answer) : Type 0 where
  pub bytes : answer_bytes a ≡ bs
  pub fits : answer_fits a ≡ true

rewritten : (bs : Bytes) (a b : Answer) → a ≡ b → Rewritten bs a → Rewritten bs b
rewritten bs a b e r = subst (Rewritten bs) e r

-- ORDERS

module _ (bs : Bytes) (u : AllBelowBase 256 bs) (f : is_order_in bs ≡ true) where
  parts : ((leb (order_width bs) (length bs) && leb (tags_at bs) 8) ≡ true) × (leb (byte_at (21 + 4 * tags_at bs) bs) 1 ≡ true)
  parts = and_parts (leb (order_width bs) (length bs) && leb (tags_at bs) 8) (leb (byte_at (21 + 4 * tags_at bs) bs) 1) f

  wide : (leb (order_width bs) (length bs) ≡ true) × (leb (tags_at bs) 8 ≡ true)
  wide = and_parts (leb (order_width bs) (length bs)) (leb (tags_at bs) 8) parts.0

  within : 22 + 4 * tags_at bs ≤ length bs
  within = leb-true (order_width bs) (length bs) wide.0

  few : tags_at bs ≤ 8
  few = leb-true (tags_at bs) 8 wide.1

  byte_from8 : (k : ℕ) → byte_at k (drop 8 bs) ≡ byte_at (8 + k) bs
  byte_from8 k = get_or-drop 8 bs k 0 ∙ ap (λ (i : ℕ). byte_at i bs) (omega arith)

  order_on : bytes_of 8 (order_in bs).id ++ (spec_bytes (order_in bs).spec ++ drop (order_width bs) bs) ≡ bs
  order_on =
      let t = tags_at bs in let d = length-drop 8 bs in let w = within in
      let g : drop (14 + 4 * t) (drop 8 bs) ≡ drop (order_width bs) bs = drop-drop (14 + 4 * t) 8 bs ∙ ap (λ (i : ℕ). drop i bs) (omega arith) in
      let s = spec_again t (drop 8 bs) (below_drop 8 bs u) (omega arith) (byte_from8 12) (let h = byte_from8 (13 + 4 * t) in let e : 8 + (13 + 4 * t) ≡ 21 + 4 * t = omega arith in let i = ap (λ (i : ℕ). byte_at i bs) e in let l = leb-true _ _ parts.1 in omega arith) in
      ap (λ (xs : Bytes). bytes_of 8 (field 8 0 bs) ++ xs) (ap (λ (xs : Bytes). spec_bytes (spec_in_lem t (drop 8 bs)) ++ xs) (sym g) ∙ s) ∙ field_to 8 0 8 bs refl (omega arith) u

  order_fits_at : order_fits (order_in bs) ≡ true
  order_fits_at =
      let t = tags_at bs in let v = below_drop 8 bs u in
      let p1 = and_parts (small (field 4 0 (drop 8 bs)) && small (field 4 4 (drop 8 bs)) && small (field 4 8 (drop 8 bs))) (every small (tags_in_lem t (drop 13 (drop 8 bs)))) (spec_in_small t (drop 8 bs) v) in
      let k : leb (length (tags_in_lem t (drop 13 (drop 8 bs)))) 8 ≡ true = le-leb _ _ (let a = length_tags t (drop 13 (drop 8 bs)) in let w = few in omega arith) in
      rw (lt-ltb (field 8 0 bs) 18446744073709551616 (field_lt 8 0 bs u), p1.0, k, p1.1)

orders_again : (n : ℕ) (bs : Bytes) → AllBelowBase 256 bs → are_orders_in n bs ≡ true → order_bytes (orders_in_lem n bs) ≡ bs
unfolding order_bytes orders_in_lem are_orders_in
orders_again zero [] u f = refl
orders_again zero (b ∷ bs) u f = absurd (let e = eqb-true (length (b ∷ bs)) 0 f in omega arith)
orders_again (suc n) bs u f =
    let p = and_parts (is_order_in bs) (are_orders_in n (drop (order_width bs) bs)) f in
    rw (orders_again n (drop (order_width bs) bs) (below_drop (order_width bs) bs u) p.1) (order_on bs u p.0)

orders_fit : (n : ℕ) (bs : Bytes) → AllBelowBase 256 bs → are_orders_in n bs ≡ true → every order_fits (orders_in_lem n bs) ≡ true
unfolding every orders_in_lem are_orders_in
orders_fit zero bs u f = refl
orders_fit (suc n) bs u f =
    let p = and_parts (is_order_in bs) (are_orders_in n (drop (order_width bs) bs)) f in
    rw (order_fits_at bs u p.0) (orders_fit n (drop (order_width bs) bs) (below_drop (order_width bs) bs u) p.1)

runs_all : (bs : Bytes) (a : Answer) → AllBelowBase 256 bs → read_runs bs ≡ meant a → Rewritten (2 ∷ bs) a
runs_all bs a u e = rewritten (2 ∷ bs) _ a p.1 record {
  bytes = ap (λ (xs : Bytes). 2 ∷ (bytes_of 2 (field 2 0 bs) ++ (bytes_of 8 (field 8 2 bs) ++ (bytes_of 8 (field 8 10 bs) ++ xs)))) orders ∙ ap (λ (xs : Bytes). 2 ∷ (bytes_of 2 (field 2 0 bs) ++ (bytes_of 8 (field 8 2 bs) ++ xs))) (field_to 8 10 18 bs refl (omega (arith, l)) u) ∙
      ap (λ (xs : Bytes). 2 ∷ (bytes_of 2 (field 2 0 bs) ++ xs)) (field_to 8 2 10 bs refl (omega (arith, l)) u) ∙ ap (λ (xs : Bytes). 2 ∷ xs) (field_to 2 0 2 bs refl (omega (arith, l)) u);
  fits = rw (lt-ltb (field 2 0 bs) 65536 (field_lt 2 0 bs u), lt-ltb (field 8 2 bs) 18446744073709551616 (field_lt 8 2 bs u), lt-ltb (field 8 10 bs) 18446744073709551616 (field_lt 8 10 bs u), lt-ltb (length (orders_in_lem n (drop 20 bs))) 65536 many) (orders_fit n (drop 20 bs) (below_drop 20 bs u) q.1);
}
  where
    n : ℕ
    n = field 2 18 bs

    p : ((leb 20 (length bs) && are_orders_in n (drop 20 bs)) ≡ true) × (Runs (field 2 0 bs) (field 8 2 bs) (field 8 10 bs) (orders_in_lem n (drop 20 bs)) ≡ a)
    p = let_through (leb 20 (length bs) && are_orders_in n (drop 20 bs)) _ a e

    q : (leb 20 (length bs) ≡ true) × (are_orders_in n (drop 20 bs) ≡ true)
    q = and_parts (leb 20 (length bs)) (are_orders_in n (drop 20 bs)) p.0

    l : 20 ≤ length bs
    l = leb-true 20 (length bs) q.0

    many : length (orders_in_lem n (drop 20 bs)) < 65536
    many = let h = length_orders_in n (drop 20 bs) in let b = field_lt 2 18 bs u in omega arith

    orders : bytes_of 2 (length (orders_in_lem n (drop 20 bs))) ++ order_bytes (orders_in_lem n (drop 20 bs)) ≡ drop 18 bs
    orders =
        ap (λ (k : ℕ). bytes_of 2 k ++ order_bytes (orders_in_lem n (drop 20 bs))) (length_orders_in n (drop 20 bs)) ∙
        ap (λ (xs : Bytes). bytes_of 2 n ++ xs) (orders_again n (drop 20 bs) (below_drop 20 bs u) q.1) ∙ field_to 2 18 20 bs refl (omega (arith, l)) u

-- A SHOWING

phase_again : (n : ℕ) → n ≤ 3 → phase_of (phase_in n) ≡ n
phase_again zero l = refl
phase_again (suc zero) l = refl
phase_again (suc (suc zero)) l = refl
phase_again (suc (suc (suc zero))) l = refl
phase_again (suc (suc (suc (suc n)))) l = absurd (omega arith)

lines_again : (n : ℕ) (bs : Bytes) → length bs ≡ 15 * n → phases_in n bs ≡ true → AllBelowBase 256 bs → line_bytes (lines_in n bs) ≡ bs
unfolding line_bytes lines_in phases_in
lines_again zero [] l f u = refl
lines_again zero (b ∷ bs) l f u = absurd (omega arith)
lines_again (suc n) bs l f u =
    let p = and_parts (leb (byte_at 12 bs) 3) (phases_in n (drop 15 bs)) f in
    let h = lines_again n (drop 15 bs) (let d = length-drop 15 bs in omega arith) p.1 (below_drop 15 bs u) in
    rw (h, phase_again (byte_at 12 bs) (leb-true _ _ p.0), field_to 2 13 15 bs refl (omega arith) u, byte_to 12 13 bs refl (omega arith), field_to 4 8 12 bs refl (omega arith) u) (field_to 8 0 8 bs refl (omega arith) u)

lines_fit : (n : ℕ) (bs : Bytes) → AllBelowBase 256 bs → every line_fits (lines_in n bs) ≡ true
unfolding every lines_in
lines_fit zero bs u = refl
lines_fit (suc n) bs u =
    rw (lt-ltb (field 8 0 bs) 18446744073709551616 (field_lt 8 0 bs u), lt-ltb (field 4 8 bs) 4294967296 (field_lt 4 8 bs u), lt-ltb (field 2 13 bs) 65536 (field_lt 2 13 bs u)) (lines_fit n (drop 15 bs) (below_drop 15 bs u))

length_lines_in : (n : ℕ) (bs : Bytes) → length (lines_in n bs) ≡ n
unfolding lines_in
length_lines_in zero bs = refl
length_lines_in (suc n) bs = ap suc (length_lines_in n (drop 15 bs))

shown_all : (bs : Bytes) (a : Answer) → AllBelowBase 256 bs → read_shown bs ≡ meant a → Rewritten (3 ∷ bs) a
shown_all bs a u e = rewritten (3 ∷ bs) _ a p.1 record {
  bytes = ap (λ (xs : Bytes). 3 ∷ xs) (ap (λ (k : ℕ). bytes_of 2 k ++ line_bytes (lines_in n (drop 2 bs))) (length_lines_in n (drop 2 bs)) ∙ ap (λ (xs : Bytes). bytes_of 2 n ++ xs) (lines_again n (drop 2 bs) (let d = length-drop 2 bs in omega (arith, l, d)) q.1 (below_drop 2 bs u)) ∙ field_to 2 0 2 bs refl (omega (arith, l)) u);
  fits = rw (lt-ltb (length (lines_in n (drop 2 bs))) 65536 many) (lines_fit n (drop 2 bs) (below_drop 2 bs u));
}
  where
    n : ℕ
    n = field 2 0 bs

    p : ((eqb (length bs) (2 + 15 * n) && phases_in n (drop 2 bs)) ≡ true) × (Shown (lines_in n (drop 2 bs)) ≡ a)
    p = let_through (eqb (length bs) (2 + 15 * n) && phases_in n (drop 2 bs)) _ a e

    q : (eqb (length bs) (2 + 15 * n) ≡ true) × (phases_in n (drop 2 bs) ≡ true)
    q = and_parts (eqb (length bs) (2 + 15 * n)) (phases_in n (drop 2 bs)) p.0

    l : length bs ≡ 2 + 15 * n
    l = eqb-true _ _ q.0

    many : length (lines_in n (drop 2 bs)) < 65536
    many = let h = length_lines_in n (drop 2 bs) in let b = field_lt 2 0 bs u in omega arith

-- ALL, by their kinds

refused_all : (bs : Bytes) (a : Answer) → AllBelowBase 256 bs → read_refused bs ≡ meant a → Rewritten (0 ∷ bs) a
refused_all bs a u e =
    let p = let_through (eqb (length bs) 1) _ a e in
    rewritten (0 ∷ bs) _ a p.1 record { bytes = ap (λ (xs : Bytes). 0 ∷ xs) (alone bs (eqb-true (length bs) 1 p.0)); fits = lt-ltb (byte_at 0 bs) 256 (byte_small 0 bs u) }
  where
    alone : (bs : Bytes) → length bs ≡ 1 → byte_at 0 bs ∷ [] ≡ bs
    alone [] l = absurd (omega arith)
    alone (b ∷ []) l = refl
    alone (b ∷ c ∷ bs) l = absurd (omega arith)

done_all : (bs : Bytes) (a : Answer) → read_done bs ≡ meant a → Rewritten (1 ∷ bs) a
done_all bs a e =
    let p = let_through (eqb (length bs) 0) _ a e in
    rewritten (1 ∷ bs) _ a p.1 record { bytes = ap (λ (xs : Bytes). 1 ∷ xs) (nothing bs (eqb-true (length bs) 0 p.0)); fits = refl }
  where
    nothing : (bs : Bytes) → length bs ≡ 0 → [] ≡ bs
    nothing [] l = refl
    nothing (b ∷ bs) l = absurd (omega arith)

module _ (bs : Bytes) (a : Answer) (u : AllBelowBase 256 bs) where
  of_kind : (k j : ℕ) → eqb k j ≡ true → Rewritten (j ∷ bs) a → Rewritten (k ∷ bs) a
  of_kind k j e r = subst (λ (i : ℕ). Rewritten (i ∷ bs) a) (sym (eqb-true k j e)) r

  kind_all : (k : ℕ) → read_answer_kind k bs ≡ meant a → Rewritten (k ∷ bs) a
  kind_all k e0 =
      elim (either (eqb k 0) _ _ a e0) [
        | inl p ↦ of_kind k 0 p.0 (refused_all bs a u p.1)
        | inr e1 ↦ elim (either (eqb k 1) _ _ a e1.1) [
          | inl p ↦ of_kind k 1 p.0 (done_all bs a p.1)
          | inr e2 ↦ elim (either (eqb k 2) _ _ a e2.1) [
            | inl p ↦ of_kind k 2 p.0 (runs_all bs a u p.1)
            | inr e3 ↦ elim (either (eqb k 3) _ _ a e3.1) [ inl p ↦ of_kind k 3 p.0 (shown_all bs a u p.1) | inr p ↦ absurd (not_garbled a p.1) ]
          ]
        ]
      ]

pub answers_again : AnswersAgain
answers_again [] a u e = absurd (not_garbled a e)
answers_again (k ∷ bs) a u e = let r = kind_all bs a u.1 k e in (r.bytes, r.fits)

pub no_other_answers : NoOtherAnswers
no_other_answers bs u f = pick (read_answer_lem bs) refl
  where
    pick : (x : Read Answer) → read_answer_lem bs ≡ x → x ≡ garbled
    pick garbled e = refl
    pick (meant a) e = let r = answers_again bs a u e in absurd (f a r.1 r.0)
