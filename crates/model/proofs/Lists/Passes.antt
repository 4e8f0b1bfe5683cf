-- Passes over a list: some elements are gone, and the others go on as others. What a definition by recursion does to a list is said once, as a pass; members, counts and order follow from that.
-- Assumes nothing.
use Rattle.std.proofs.Common.{◌≡◌, ◌≤◌, Bool, true, false, cond, ◌⊎◌, List, [], ◌∷◌, map, length, sym, refl, subst, inl, inr, arith}
use Rattle.std.proofs.lemmas.Bool.{false≢true}
use Rattle.model.specs.Lists.{keep, change}
use Rattle.model.proofs.Lists.Members.{In}
use Rattle.model.proofs.Lists.Kept.{keep_no}
use Rattle.model.proofs.Lists.Counts.{count_cons, bump_mono}

pub data Pass {A : Type 0} (D : A → Type 0) (R : A → A → Type 0) : List A → List A → Type 0 where
  done : Pass D R [] []
  gone : {x : A} {xs ys : List A} → D x → Pass D R xs ys → Pass D R (x ∷ xs) ys
  goes : {x y : A} {xs ys : List A} → R x y → Pass D R xs ys → Pass D R (x ∷ xs) (y ∷ ys)

module _ {A : Type 0} (D : A → Type 0) (R : A → A → Type 0) where
  -- nothing changes
  pub pass_same : (xs : List A) → ((x : A) → In x xs → R x x) → Pass D R xs xs
  pass_same [] h = done
  pass_same (x ∷ xs) h = goes (h x (inl refl)) (pass_same xs (λ y i. h y (inr i)))

  -- keep is a pass
  pub pass_keep : (f : A → Bool) (xs : List A) → ((x : A) → In x xs → f x ≡ false → D x) → ((x : A) → In x xs → f x ≡ true → R x x) → Pass D R xs (keep f xs)
  unfolding keep
  pass_keep f [] d r = done
  pass_keep f (x ∷ xs) d r = pick (f x) refl (pass_keep f xs (λ y i. d y (inr i)) (λ y i. r y (inr i)))
    where
      pick : (b : Bool) → f x ≡ b → Pass D R xs (keep f xs) → Pass D R (x ∷ xs) (cond b (x ∷ keep f xs) (keep f xs))
      pick true e p = goes (r x (inl refl) e) p
      pick false e p = gone (d x (inl refl) e) p

  -- change is a pass
  pub pass_change : (f : A → Bool) (g : A → A) (xs : List A) → ((x : A) → In x xs → R x x) → ((x : A) → In x xs → f x ≡ true → R x (g x)) → Pass D R xs (change f g xs)
  unfolding change
  pass_change f g [] s r = done
  pass_change f g (x ∷ xs) s r = pick (f x) refl (pass_change f g xs (λ y i. s y (inr i)) (λ y i. r y (inr i)))
    where
      pick : (b : Bool) → f x ≡ b → Pass D R xs (change f g xs) → Pass D R (x ∷ xs) (cond b (g x ∷ xs) (x ∷ change f g xs))
      pick true e p = goes (r x (inl refl) e) (pass_same xs (λ y i. s y (inr i)))
      pick false e p = goes (s x (inl refl)) p

  -- map is a pass
  pub pass_map : (g : A → A) (xs : List A) → ((x : A) → In x xs → R x (g x)) → Pass D R xs (map g xs)
  pass_map g [] h = done
  pass_map g (x ∷ xs) h = goes (h x (inl refl)) (pass_map g xs (λ y i. h y (inr i)))

  -- one pass after another is a pass
  pub pass_then : ((x y z : A) → R x y → R y z → R x z) → ((x y : A) → R x y → D y → D x) → {xs ys zs : List A} → Pass D R xs ys → Pass D R ys zs → Pass D R xs zs
  pass_then t d done done = done
  pass_then t d (gone h p) q = gone h (pass_then t d p q)
  pass_then t d (goes {x = x} {y = y} h p) (gone k q) = gone (d x y h k) (pass_then t d p q)
  pass_then t d (goes {x = x} {y = y} h p) (goes {y = z} k q) = goes (t x y z h k) (pass_then t d p q)

  -- where an element came from
  pub pass_from : {xs ys : List A} → Pass D R xs ys → (y : A) → In y ys → (x : A) × In x xs × (z : A) × R x z × (y ≡ z)
  pass_from done y h = absurd h
  pass_from (gone k p) y h = let r = pass_from p y h in (r.0, inr r.1, r.2, r.3, r.4)
  pass_from (goes {x = x} {y = w} k p) y (inl e) = (x, inl refl, w, k, e)
  pass_from (goes {x = x} {y = w} k p) y (inr h) = let r = pass_from p y h in (r.0, inr r.1, r.2, r.3, r.4)

  -- where one goes in a pass, or that it is gone
  pub pass_to : {xs ys : List A} → Pass D R xs ys → (t : A) → In t xs → ((y : A) × In y ys × R t y) ⊎ D t
  pass_to done t i = absurd i
  pass_to (gone {x = x} d p) t (inl e) = inr (subst D (sym e) d)
  pass_to (gone {x = x} d p) t (inr i) = pass_to p t i
  pass_to (goes {x = x} {y = y} r p) t (inl e) = inl (y, inl refl, subst (λ z. R z y) (sym e) r)
  pass_to (goes {x = x} {y = y} r p) t (inr i) = elim (pass_to p t i) [ inl (z, j, q) ↦ inl (z, inr j, q) | inr d ↦ inr d ]

  -- no more pass a test than before
  pub pass_down : (f : A → Bool) → ((x y : A) → R x y → f y ≡ true → f x ≡ true) → {xs ys : List A} → Pass D R xs ys → length (keep f ys) ≤ length (keep f xs)
  pass_down f h done = omega arith
  pass_down f h (gone {x = x} {xs = xs} {ys = ys} k p) =
      let i : length (keep f ys) ≤ length (keep f xs) = pass_down f h p in rw (count_cons f x xs) (bump_mono false (f x) _ _ (λ e. absurd (false≢true e)) i)
  pass_down f h (goes {x = x} {y = y} {xs = xs} {ys = ys} k p) = rw (count_cons f x xs, count_cons f y ys) (bump_mono (f y) (f x) _ _ (h x y k) (pass_down f h p))

  -- no fewer pass a test than before
  pub pass_up : (f : A → Bool) → ((x : A) → D x → f x ≡ false) → ((x y : A) → R x y → f x ≡ true → f y ≡ true) → {xs ys : List A} → Pass D R xs ys → length (keep f xs) ≤ length (keep f ys)
  pass_up f d h done = omega arith
  pass_up f d h (gone {x = x} {xs = xs} {ys = ys} k p) = rw (keep_no f x xs (d x k)) (pass_up f d h p)
  pass_up f d h (goes {x = x} {y = y} {xs = xs} {ys = ys} k p) = rw (count_cons f x xs, count_cons f y ys) (bump_mono (f x) (f y) _ _ (h x y k) (pass_up f d h p))

-- what is said of the gone and of those that go on may be weakened
pub pass_weaken : {A : Type 0} {D E : A → Type 0} {R S : A → A → Type 0} → ((x : A) → D x → E x) → ((x y : A) → R x y → S x y) → {xs ys : List A} → Pass D R xs ys → Pass E S xs ys
pass_weaken d r done = done
pass_weaken d r (gone {x = x} h p) = gone (d x h) (pass_weaken d r p)
pass_weaken d r (goes {x = x} {y = y} h p) = goes (r x y h) (pass_weaken d r p)
