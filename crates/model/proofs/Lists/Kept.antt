-- What is kept, changed, first or last in a list.
-- Assumes nothing.
use Rattle.std.proofs.Common.{◌≡◌, ℕ, Bool, true, false, cond, ◌&&◌, ◌⊎◌, List, [], ◌∷◌, refl, ap, ◌∙◌, inl, inr, arith}
use Rattle.model.specs.Lists.{keep, find, change, last_of, head_or}
use Rattle.model.proofs.Lists.Tests.{clash}
use Rattle.model.proofs.Lists.Members.{In}

pub keep_yes : {A : Type 0} (f : A → Bool) (x : A) (xs : List A) → f x ≡ true → keep f (x ∷ xs) ≡ x ∷ keep f xs
unfolding keep
keep_yes f x xs e = rw e

pub keep_no : {A : Type 0} (f : A → Bool) (x : A) (xs : List A) → f x ≡ false → keep f (x ∷ xs) ≡ keep f xs
unfolding keep
keep_no f x xs e = rw e

-- what is kept was there, and passes
pub in_keep : {A : Type 0} (f : A → Bool) (xs : List A) (x : A) → In x (keep f xs) → In x xs × (f x ≡ true)
unfolding keep
in_keep f [] x h = absurd h
in_keep f (y ∷ ys) x h = pick (f y) refl h (λ i. in_keep f ys x i)
  where
    pick : (b : Bool) → f y ≡ b → In x (cond b (y ∷ keep f ys) (keep f ys)) → (In x (keep f ys) → In x ys × (f x ≡ true)) → In x (y ∷ ys) × (f x ≡ true)
    pick true p (inl e) k = (inl e, ap f e ∙ p)
    pick true p (inr i) k = (inr (k i).0, (k i).1)
    pick false p i k = (inr (k i).0, (k i).1)

-- what was there and passes is kept
pub keep_in : {A : Type 0} (f : A → Bool) (xs : List A) (x : A) → In x xs → f x ≡ true → In x (keep f xs)
unfolding keep
keep_in f [] x h e = absurd h
keep_in f (y ∷ ys) x h e = pick (f y) refl h (λ i. keep_in f ys x i e)
  where
    pick : (b : Bool) → f y ≡ b → In x (y ∷ ys) → (In x ys → In x (keep f ys)) → In x (cond b (y ∷ keep f ys) (keep f ys))
    pick true p (inl q) k = inl q
    pick true p (inr i) k = inr (k i)
    pick false p (inl q) k = clash (f x) e (ap f q ∙ p)
    pick false p (inr i) k = k i

-- to keep twice is to keep by both tests
pub keep_keep : {A : Type 0} (f g : A → Bool) (xs : List A) → keep f (keep g xs) ≡ keep (λ (x : A). g x && f x) xs
unfolding keep
keep_keep f g [] = refl
keep_keep f g (x ∷ xs) = pick (g x) (f x) refl refl (keep_keep f g xs)
  where
    pick : (a b : Bool) → g x ≡ a → f x ≡ b → keep f (keep g xs) ≡ keep (λ y. g y && f y) xs → keep f (cond a (x ∷ keep g xs) (keep g xs)) ≡ cond (a && b) (x ∷ keep (λ y. g y && f y) xs) (keep (λ y. g y && f y) xs)
    pick true true p q e = keep_yes f x (keep g xs) q ∙ ap (λ ys. x ∷ ys) e
    pick true false p q e = keep_no f x (keep g xs) q ∙ e
    pick false b p q e = e

-- the first that passes is there, changed
pub change_hit : {A : Type 0} (f : A → Bool) (g : A → A) (xs : List A) (m : A) (ms : List A) → find f xs ≡ m ∷ ms → In (g m) (change f g xs)
unfolding find change
change_hit f g [] m ms e = let z : ◌≡◌ {A = ℕ} 0 1 = cc in absurd (omega arith)
change_hit {A} f g (x ∷ xs) m ms e = pick (f x) e (λ e'. change_hit f g xs m ms e')
  where
    pick : (b : Bool) → cond b (x ∷ []) (find f xs) ≡ m ∷ ms → (find f xs ≡ m ∷ ms → In (g m) (change f g xs)) → In (g m) (cond b (g x ∷ xs) (x ∷ change f g xs))
    pick true q r = let c : m ≡ x = cc in inl (ap g c)
    pick false q r = inr (r q)

-- what doesn't pass is there as it was
pub change_miss : {A : Type 0} (f : A → Bool) (g : A → A) (xs : List A) (x : A) → In x xs → f x ≡ false → In x (change f g xs)
unfolding change
change_miss f g [] x i e = absurd i
change_miss f g (y ∷ ys) x i e = pick (f y) refl i (λ j. change_miss f g ys x j e)
  where
    pick : (b : Bool) → f y ≡ b → In x (y ∷ ys) → (In x ys → In x (change f g ys)) → In x (cond b (g y ∷ ys) (y ∷ change f g ys))
    pick true p (inl q) r = clash (f x) (ap f q ∙ p) e
    pick true p (inr j) r = inr j
    pick false p (inl q) r = inl q
    pick false p (inr j) r = inr (r j)

pub last_in : {A : Type 0} (xs : List A) (x : A) → In x (last_of xs) → In x xs
unfolding last_of
last_in [] x h = h
last_in (y ∷ []) x h = h
last_in (y ∷ z ∷ zs) x h = inr (last_in (z ∷ zs) x h)

pub head_in : {A : Type 0} (xs ys : List A) (x : A) → In x (head_or xs ys) → In x xs ⊎ In x ys
unfolding head_or
head_in [] ys x h = inr h
head_in (y ∷ ys) zs x (inl e) = inl (inl e)
head_in (y ∷ ys) zs x (inr h) = absurd h
