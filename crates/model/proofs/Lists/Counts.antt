-- How many pass a test.
-- Assumes nothing.
use Rattle.std.proofs.Common.{◌≡◌, ℕ, suc, ◌≤◌, Bool, true, false, cond, List, [], ◌∷◌, ◌++◌, length, sym, refl, ap, ◌∙◌, inl, inr, arith}
use Rattle.std.proofs.lemmas.Bool.{false≢true}
use Rattle.model.specs.Lists.{keep, change}
use Rattle.model.proofs.Lists.Members.{In}

-- one more, or none
abbrev pub bump : Bool → ℕ → ℕ
bump true n = suc n
bump false n = n

-- a count, element by element
pub count_cons : {A : Type 0} (f : A → Bool) (x : A) (xs : List A) → length (keep f (x ∷ xs)) ≡ bump (f x) (length (keep f xs))
unfolding keep
count_cons f x xs = elim (f x) as (λ b. length (cond b (x ∷ keep f xs) (keep f xs)) ≡ bump b (length (keep f xs))) [ true ↦ refl | false ↦ refl ]

pub bump_mono : (a b : Bool) (m n : ℕ) → (a ≡ true → b ≡ true) → m ≤ n → bump a m ≤ bump b n
bump_mono true true m n h l = omega arith
bump_mono true false m n h l = absurd (false≢true (h refl))
bump_mono false true m n h l = omega arith
bump_mono false false m n h l = l

-- a count with one more at the end
pub keep_end : {A : Type 0} (f : A → Bool) (xs : List A) (y : A) → length (keep f (xs ++ (y ∷ []))) ≡ bump (f y) (length (keep f xs))
unfolding keep
keep_end f [] y = count_cons f y []
keep_end f (x ∷ xs) y = count_cons f x (xs ++ (y ∷ [])) ∙ (ap (bump (f x)) (keep_end f xs y) ∙ (swap (f x) (f y) (length (keep f xs)) ∙ ap (bump (f y)) (sym (count_cons f x xs))))
  where
    swap : (a b : Bool) (n : ℕ) → bump a (bump b n) ≡ bump b (bump a n)
    swap true true n = refl
    swap true false n = refl
    swap false b n = refl

pub count_same : {A : Type 0} (f g : A → Bool) (xs : List A) → ((x : A) → f x ≡ g x) → length (keep f xs) ≡ length (keep g xs)
unfolding keep
count_same f g [] h = refl
count_same f g (x ∷ xs) h = count_cons f x xs ∙ (ap (λ b. bump b (length (keep f xs))) (h x) ∙ (ap (bump (g x)) (count_same f g xs h) ∙ sym (count_cons g x xs)))

-- one change takes at most one away that passes a test
pub change_down : {A : Type 0} (p f : A → Bool) (g : A → A) (xs : List A) → length (keep p xs) ≤ suc (length (keep p (change f g xs)))
unfolding keep change
change_down p f g [] = omega arith
change_down {A} p f g (x ∷ xs) = rw (count_cons p x xs) (pick (f x) (change_down p f g xs))
  where
    less : (a b : Bool) (n : ℕ) → bump a n ≤ suc (bump b n)
    less true true n = omega arith
    less true false n = omega arith
    less false true n = omega arith
    less false false n = omega arith

    up : (a : Bool) (m n : ℕ) → m ≤ suc n → bump a m ≤ suc (bump a n)
    up true m n h = omega arith
    up false m n h = h

    pick : (b : Bool) → length (keep p xs) ≤ suc (length (keep p (change f g xs))) → bump (p x) (length (keep p xs)) ≤ suc (length (keep p (cond b (g x ∷ xs) (x ∷ change f g xs))))
    pick true h = rw (count_cons p (g x) xs) (less (p x) (p (g x)) (length (keep p xs)))
    pick false h = rw (count_cons p x (change f g xs)) (up (p x) _ _ h)

-- none passes, none is kept
pub keep_nothing : {A : Type 0} (f : A → Bool) (ts : List A) → ((t : A) → In t ts → f t ≡ false) → length (keep f ts) ≤ 0
unfolding keep
keep_nothing f [] h = omega arith
keep_nothing f (t ∷ ts) h = rw (h t (inl refl)) (keep_nothing f ts (λ x i. h x (inr i)))
