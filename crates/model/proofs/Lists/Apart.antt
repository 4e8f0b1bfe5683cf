-- Lists in which no two are alike by a test.
-- Assumes nothing.
use Rattle.std.proofs.Common.{◌≡◌, Bool, false, List, [], ◌∷◌, ◌++◌, refl, ap, ◌∙◌, inl, inr}
use Rattle.model.proofs.Lists.Members.{In, in_end, in_append}
use Rattle.model.proofs.Lists.Passes.{Pass, done, gone, goes, pass_from}

abbrev pub Once : {A : Type 0} → (A → A → Bool) → List A → Type 0
Once e [] = Unit {0}
Once e (x ∷ xs) = ((y : _) → In y xs → e x y ≡ false) × Once e xs

-- no two are alike after a pass that keeps what the test looks at
pub once_pass : {A : Type 0} (e : A → A → Bool) (D : A → Type 0) (R : A → A → Type 0) → ((x y x' y' : A) → R x x' → R y y' → e x y ≡ false → e x' y' ≡ false) → {xs ys : List A} → Pass D R xs ys → Once e xs → Once e ys
once_pass e D R h done o = tt
once_pass e D R h (gone k p) o = once_pass e D R h p o.1
once_pass e D R h (goes {x = x} {y = y} k p) o =
    (λ z i. let r = pass_from D R p z i in ap (e y) r.4 ∙ h x r.0 y r.2 k r.3 (o.0 r.0 r.1), once_pass e D R h p o.1)

-- one more at the end that is like none
pub once_end : {A : Type 0} (e : A → A → Bool) (xs : List A) (y : A) → Once e xs → ((x : A) → In x xs → e x y ≡ false) → Once e (xs ++ (y ∷ []))
once_end e [] y o h = (λ z i. absurd i, tt)
once_end e (x ∷ xs) y o h =
    (λ z i. elim (in_end z y xs i) [ inl j ↦ o.0 z j | inr q ↦ ap (e x) q ∙ h x (inl refl) ], once_end e xs y o.1 (λ z i. h z (inr i)))

pub once_append : {A : Type 0} (e : A → A → Bool) (xs ys : List A) → Once e xs → Once e ys → ((x y : A) → In x xs → In y ys → e x y ≡ false) → Once e (xs ++ ys)
once_append e [] ys o p h = p
once_append e (x ∷ xs) ys o p h = (λ z i. elim (in_append z xs ys i) [ inl j ↦ o.0 z j | inr j ↦ h x z (inl refl) j ], once_append e xs ys o.1 p (λ a b i j. h a b (inr i) j))
