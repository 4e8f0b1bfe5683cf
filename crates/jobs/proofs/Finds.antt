-- The first row that passes a test.
-- Assumes nothing.
use Rattle.std.proofs.Common.{◌≡◌, ℕ, ◌+◌, ◌-◌, ◌<◌, Bool, true, false, cond, eqb, List, [], ◌∷◌, ◌++◌, Some, sym, refl, ap, ◌∙◌, inl, inr, arith}
use Rattle.std.proofs.lemmas.Bool.{cases_Bool, eq-eqb, ne_eqb}
use Rattle.model.specs.Lists.{find}
use Rattle.jobs.specs.Rows.{span}
use Rattle.jobs.specs.Tables.{FoundAt}
use Rattle.jobs.proofs.Spans.{span_none, span_more, span_at}

module _ {X : Type 0} (p : X → Bool) where
  find_append : (xs ys : List X) → find p xs ≡ [] → find p (xs ++ ys) ≡ find p ys
  unfolding find
  find_append [] ys e = refl
  find_append (x ∷ xs) ys e = elim (cases_Bool (p x)) [ inl t ↦ absurd (let z : x ∷ [] ≡ [] = sym (rw t) ∙ e in (let w : ◌≡◌ {A = ℕ} 0 1 = cc in omega arith)) | inr n ↦ rw n (find_append xs ys (sym (rw n) ∙ e)) ]

  pub find_none : find p [] ≡ []
  unfolding find
  find_none = refl

  find_one : (x : X) (ys : List X) → p x ≡ true → find p (x ∷ ys) ≡ x ∷ []
  unfolding find
  find_one x ys e = rw e

  find_not : (x : X) → p x ≡ false → find p (x ∷ []) ≡ []
  unfolding find
  find_not x e = rw e

  module _ (f : ℕ → List X) (i : ℕ) (before : find p (span f 0 i) ≡ []) where
    next : (find p (f i) ≡ []) → find p (span f 0 (i + 1)) ≡ []
    next e = ap (find p) (span_more f i) ∙ find_append (span f 0 i) (f i) before ∙ e

    pub find_hole : f i ≡ [] → find p (span f 0 (i + 1)) ≡ []
    find_hole e = next (ap (find p) e ∙ find_none)

    pub find_other : (x : X) → f i ≡ x ∷ [] → p x ≡ false → find p (span f 0 (i + 1)) ≡ []
    find_other x e n = next (ap (find p) e ∙ find_not x n)

    pub find_this : (n : ℕ) (x : X) → i < n → f i ≡ x ∷ [] → p x ≡ true → FoundAt p f n (Some i)
    find_this n x h e t =
        (x, h, e, ap (find p) (span_at f i n h) ∙ find_append (span f 0 i) (f i ++ span f (i + 1) (n - (i + 1))) before ∙ ap (λ (ys : List X). find p (ys ++ span f (i + 1) (n - (i + 1)))) e ∙ find_one x (span f (i + 1) (n - (i + 1))) t, t, before)

  pub find_start : (f : ℕ → List X) → find p (span f 0 0) ≡ []
  find_start f = ap (find p) (span_none f 0) ∙ find_none

pub slot_hole : {X : Type 0} (a : ℕ) (x : X) → a ≡ 0 → cond (eqb a 0) [] (x ∷ []) ≡ []
slot_hole a x e = let z : eqb a 0 ≡ true = eq-eqb a 0 e in rw z

pub slot_full : {X : Type 0} (a : ℕ) (x : X) → (a ≡ 0 → ⊥) → cond (eqb a 0) [] (x ∷ []) ≡ x ∷ []
slot_full a x e = let z : eqb a 0 ≡ false = ne_eqb a 0 e in rw z
