-- Members of lists, as sums that cases can be made of.
-- Assumes nothing.
use Rattle.std.proofs.Common.{◌≡◌, ◌⊎◌, List, [], ◌∷◌, ◌++◌, inl, inr}
use mathlib.Core.List.{Memᴰ}

-- membership as a sum: by clauses one sees which element it is
abbrev pub In : {A : Type 0} → A → List A → Type 0
In a [] = ⊥
In a (x ∷ xs) = (a ≡ x) ⊎ In a xs

pub in_from : {A : Type 0} {a : A} {xs : List A} → Memᴰ a xs → In a xs
in_from (Memᴰ.head e) = inl e
in_from (Memᴰ.tail m) = inr (in_from m)

pub in_to : {A : Type 0} (a : A) (xs : List A) → In a xs → Memᴰ a xs
in_to a [] h = absurd h
in_to a (x ∷ xs) (inl e) = Memᴰ.head e
in_to a (x ∷ xs) (inr h) = Memᴰ.tail (in_to a xs h)

pub in_end : {A : Type 0} (a b : A) (xs : List A) → In a (xs ++ (b ∷ [])) → In a xs ⊎ (a ≡ b)
in_end a b [] (inl e) = inr e
in_end a b [] (inr h) = absurd h
in_end a b (x ∷ xs) (inl e) = inl (inl e)
in_end a b (x ∷ xs) (inr h) = elim (in_end a b xs h) [ inl i ↦ inl (inr i) | inr e ↦ inr e ]

pub in_left : {A : Type 0} (xs : List A) (y x : A) → In x xs → In x (xs ++ (y ∷ []))
in_left [] y x i = absurd i
in_left (z ∷ zs) y x (inl e) = inl e
in_left (z ∷ zs) y x (inr i) = inr (in_left zs y x i)

pub in_append : {A : Type 0} (a : A) (xs ys : List A) → In a (xs ++ ys) → In a xs ⊎ In a ys
in_append a [] ys h = inr h
in_append a (x ∷ xs) ys (inl e) = inl (inl e)
in_append a (x ∷ xs) ys (inr h) = elim (in_append a xs ys h) [ inl i ↦ inl (inr i) | inr i ↦ inr i ]
