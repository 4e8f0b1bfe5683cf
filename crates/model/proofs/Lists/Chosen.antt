-- What every, some and find say of the members of a list.
-- Assumes nothing.
use Rattle.std.proofs.Common.{◌≡◌, ℕ, Bool, true, false, cond, ◌⊎◌, List, [], ◌∷◌, sym, refl, ap, ◌∙◌, inl, inr, arith}
use Rattle.std.proofs.lemmas.Bool.{false≢true, and_parts, and_from, or_cases, or_left, or_right}
use Rattle.model.specs.Lists.{some, every, find, none}
use Rattle.model.proofs.Lists.Tests.{clash, bool}
use Rattle.model.proofs.Lists.Members.{In}

-- every: of each member
pub every_at : {A : Type 0} (f : A → Bool) (xs : List A) → every f xs ≡ true → (x : A) → In x xs → f x ≡ true
unfolding every
every_at f [] e x h = absurd h
every_at f (y ∷ ys) e x (inl p) = ap f p ∙ (and_parts (f y) (every f ys) e).0
every_at f (y ∷ ys) e x (inr h) = every_at f ys (and_parts (f y) (every f ys) e).1 x h

pub every_from : {A : Type 0} (f : A → Bool) (xs : List A) → ((x : A) → In x xs → f x ≡ true) → every f xs ≡ true
unfolding every
every_from f [] h = refl
every_from f (y ∷ ys) h = and_from (f y) (every f ys) (h y (inl refl)) (every_from f ys (λ x i. h x (inr i)))

pub some_from : {A : Type 0} (f : A → Bool) (xs : List A) (x : A) → In x xs → f x ≡ true → some f xs ≡ true
unfolding some
some_from f [] x h e = absurd h
some_from f (y ∷ ys) x (inl p) e = or_left (f y) (some f ys) (sym (ap f p) ∙ e)
some_from f (y ∷ ys) x (inr h) e = or_right (f y) (some f ys) (some_from f ys x h e)

-- some: a member that passes
pub some_at : {A : Type 0} (f : A → Bool) (xs : List A) → some f xs ≡ true → (x : A) × In x xs × (f x ≡ true)
unfolding some
some_at f [] e = absurd (false≢true e)
some_at f (y ∷ ys) e =
    elim (or_cases (f y) (some f ys) e) [ inl p ↦ (y, inl refl, p) | inr p ↦ let r = some_at f ys p in (r.0, inr r.1, r.2) ]

-- not some: no member passes
pub some_not : {A : Type 0} (f : A → Bool) (xs : List A) → some f xs ≡ false → (x : A) → In x xs → f x ≡ false
some_not f xs e x h = elim (bool (f x)) [ inl p ↦ clash (some f xs) (some_from f xs x h p) e | inr p ↦ p ]

pub not_some : {A : Type 0} (f : A → Bool) (xs : List A) → ((x : A) → In x xs → f x ≡ false) → some f xs ≡ false
not_some f xs h = elim (bool (some f xs)) [ inl p ↦ let r = some_at f xs p in clash (f r.0) r.2 (h r.0 r.1) | inr p ↦ p ]

-- nothing found: no member passes
pub find_none : {A : Type 0} (f : A → Bool) (xs : List A) → find f xs ≡ [] → (x : A) → In x xs → f x ≡ false
unfolding find
find_none f [] e x h = absurd h
find_none {A} f (y ∷ ys) e x h = pick (f y) refl e h (λ e' i. find_none f ys e' x i)
  where
    pick : (b : Bool) → f y ≡ b → cond b (y ∷ []) (find f ys) ≡ [] → (x ≡ y) ⊎ In x ys → (find f ys ≡ [] → In x ys → f x ≡ false) → f x ≡ false
    pick true p q i k = let z : ◌≡◌ {A = ℕ} 0 1 = cc in absurd (omega arith)
    pick false p q (inl i) k = ap f i ∙ p
    pick false p q (inr i) k = k q i

-- what is found is a member, and passes
pub find_in : {A : Type 0} (f : A → Bool) (xs : List A) (m : A) (ms : List A) → find f xs ≡ m ∷ ms → In m xs × (f m ≡ true)
unfolding find
find_in f [] m ms e = let z : ◌≡◌ {A = ℕ} 0 1 = cc in absurd (omega arith)
find_in {A} f (x ∷ xs) m ms e = pick (f x) refl e (λ e'. find_in f xs m ms e')
  where
    pick : (b : Bool) → f x ≡ b → cond b (x ∷ []) (find f xs) ≡ m ∷ ms → (find f xs ≡ m ∷ ms → In m xs × (f m ≡ true)) → In m (x ∷ xs) × (f m ≡ true)
    pick true p q r = let c : m ≡ x = cc in (inl c, ap f c ∙ p)
    pick false p q r = let w = r q in (inr w.0, w.1)

pub none_true : {A : Type 0} (xs : List A) → none xs ≡ true → xs ≡ []
unfolding none
none_true [] e = refl
none_true (x ∷ xs) e = absurd (false≢true e)
