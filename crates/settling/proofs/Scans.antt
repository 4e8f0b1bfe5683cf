-- Scans of rows from the first on: what is found, counted and picked.
-- Assumes nothing.
use Rattle.std.proofs.Common.{◌≡◌, ℕ, zero, suc, ◌+◌, ◌≤◌, Bool, true, false, cond, ◌&&◌, ◌||◌, eqb, List, [], ◌∷◌, ◌++◌, length, sym, refl, ap, ◌∙◌, inl, inr, arith}
use Rattle.std.specs.List.{list_any, range_with_len}
use Rattle.std.proofs.lemmas.List.{append-nil, length_push}
use Rattle.std.proofs.lemmas.Bool.{cases_Bool, eq-eqb, ne_eqb}
use Rattle.model.specs.Lists.{some, keep, last_of}
use Rattle.model.specs.State as s
use Rattle.jobs.specs.Rows.{at, span}
use Rattle.jobs.specs.Tables.{machine_from, machine_slot}

or_nil : (b : Bool) → (b || false) ≡ b
or_nil true = refl
or_nil false = refl

or_assoc : (a b c : Bool) → (a || (b || c)) ≡ ((a || b) || c)
or_assoc true b c = refl
or_assoc false b c = refl

module _ {X : Type 0} where
  pub hole : (b : Bool) (x : X) → b ≡ true → cond b [] (x ∷ []) ≡ []
  hole b x e = rw e

  pub full : (b : Bool) (x : X) → b ≡ false → cond b [] (x ∷ []) ≡ x ∷ []
  full b x e = rw e

  pub some_none : (f : X → Bool) → some f [] ≡ false
  unfolding some
  some_none f = refl

  pub some_one : (f : X → Bool) (x : X) → some f (x ∷ []) ≡ f x
  unfolding some
  some_one f x = or_nil (f x)

  -- a test with another beside it, of what a row stands for
  pub both : (a q : X → Bool) (h b : Bool) (x y : X) → a x ≡ a y → b ≡ some a (cond h [] (y ∷ [])) → (b && q x) ≡ some (λ z. a z && q z) (cond h [] (x ∷ []))
  both a q true b x y e s = (let z : b ≡ false = s ∙ some_none a in rw z refl) ∙ sym (some_none (λ z. a z && q z))
  both a q false b x y e s = (let z : b ≡ a x = s ∙ some_one a y ∙ sym e in rw z refl) ∙ sym (some_one (λ z. a z && q z) x)

  pub some_append : (f : X → Bool) (xs ys : List X) → some f (xs ++ ys) ≡ (some f xs || some f ys)
  unfolding some
  some_append f [] ys = refl
  some_append f (x ∷ xs) ys = rw (some_append f xs ys) (or_assoc (f x) (some f xs) (some f ys))

  pub keep_none : (p : X → Bool) → keep p [] ≡ []
  unfolding keep
  keep_none p = refl

  pub keep_append : (p : X → Bool) (xs ys : List X) → keep p (xs ++ ys) ≡ keep p xs ++ keep p ys
  unfolding keep
  keep_append p [] ys = refl
  keep_append p (x ∷ xs) ys = elim (cases_Bool (p x)) [ inl t ↦ rw (t, keep_append p xs ys) | inr n ↦ rw (n, keep_append p xs ys) ]

  pub keep_one : (p : X → Bool) (y : X) → keep p (y ∷ []) ≡ cond (p y) (y ∷ []) []
  unfolding keep
  keep_one p y = refl

  pub keep_yes : (p : X → Bool) (xs : List X) (y : X) → p y ≡ true → keep p (xs ++ y ∷ []) ≡ keep p xs ++ y ∷ []
  keep_yes p xs y e = keep_append p xs (y ∷ []) ∙ ap (λ (zs : List X). keep p xs ++ zs) (keep_one p y ∙ rw e)

  pub keep_no : (p : X → Bool) (xs : List X) (y : X) → p y ≡ false → keep p (xs ++ y ∷ []) ≡ keep p xs
  keep_no p xs y e = keep_append p xs (y ∷ []) ∙ ap (λ (zs : List X). keep p xs ++ zs) (keep_one p y ∙ rw e) ∙ append-nil (keep p xs)

  pub length_keep_push : (p : X → Bool) (xs : List X) (y : X) → length (keep p (xs ++ y ∷ [])) ≡ length (keep p xs) + cond (p y) 1 0
  length_keep_push p xs y =
      elim (cases_Bool (p y)) [ inl t ↦ rw (keep_yes p xs y t, t) (length_push (keep p xs) y) | inr n ↦ rw (keep_no p xs y n, n) (omega arith) ]

  pub length_keep : (p : X → Bool) (xs : List X) → length (keep p xs) ≤ length xs
  unfolding keep
  length_keep p [] = omega arith
  length_keep p (x ∷ xs) = elim (cases_Bool (p x)) [ inl t ↦ rw t (omega (arith, length_keep p xs)) | inr n ↦ rw n (omega (arith, length_keep p xs)) ]

  pub last_push : (xs : List X) (y : X) → last_of (xs ++ y ∷ []) ≡ y ∷ []
  unfolding last_of
  last_push [] y = refl
  last_push (x ∷ []) y = refl
  last_push (x ∷ z ∷ zs) y = last_push (z ∷ zs) y

-- A MACHINE'S ROW

module _ (p : s.Machine → Bool) (r : List ℕ) (heard : ℕ) where
  pub machine_hole : at r 0 ≡ 0 → some p (machine_slot r heard) ≡ false
  machine_hole e = ap (some p) (hole (eqb (at r 0) 0) (machine_from r heard) (eq-eqb (at r 0) 0 e)) ∙ some_none p

  pub machine_full : (at r 0 ≡ 0 → ⊥) → some p (machine_slot r heard) ≡ p (machine_from r heard)
  machine_full e = ap (some p) (full (eqb (at r 0) 0) (machine_from r heard) (ne_eqb (at r 0) 0 e)) ∙ some_one p (machine_from r heard)

-- ALL ROWS

-- one by one, or as one list
pub some_each : {X : Type 0} (p : X → Bool) (f : ℕ → List X) (a n : ℕ) → list_any (λ i. some p (f i)) (range_with_len a n) ≡ some p (span f a n)
unfolding span some
some_each p f a zero = refl
some_each p f a (suc n) = let e : a + 1 ≡ suc a = omega arith in rw e (ap (λ (b : Bool). some p (f a) || b) (some_each p f (suc a) n) ∙ sym (some_append p (f a) (span f (suc a) n)))
