-- Lists by tests: what all the definitions of the herd are made of.
-- Assumes nothing.
use Rattle.std.specs.Prelude.{ℕ, Bool, true, false, cond, ◌&&◌, ◌||◌, List, [], ◌∷◌, ◌==◌}

unfoldable pub some : {A : Type 0} → (A → Bool) → List A → Bool
some f [] = false
some f (x ∷ xs) = f x || some f xs

unfoldable pub every : {A : Type 0} → (A → Bool) → List A → Bool
every f [] = true
every f (x ∷ xs) = f x && every f xs

unfoldable pub keep : {A : Type 0} → (A → Bool) → List A → List A
keep f [] = []
keep f (x ∷ xs) = cond (f x) (x ∷ keep f xs) (keep f xs)

-- the first that passes, as a list of one, or of none
unfoldable pub find : {A : Type 0} → (A → Bool) → List A → List A
find f [] = []
find f (x ∷ xs) = cond (f x) (x ∷ []) (find f xs)

-- the first that passes is changed
unfoldable pub change : {A : Type 0} → (A → Bool) → (A → A) → List A → List A
change f g [] = []
change f g (x ∷ xs) = cond (f x) (g x ∷ xs) (x ∷ change f g xs)

unfoldable pub none : {A : Type 0} → List A → Bool
none [] = true
none (x ∷ xs) = false

-- the last of a list, as a list of one, or of none
unfoldable pub last_of : {A : Type 0} → List A → List A
last_of [] = []
last_of (x ∷ []) = x ∷ []
last_of (x ∷ y ∷ ys) = last_of (y ∷ ys)

unfoldable pub head_or : {A : Type 0} → List A → List A → List A
head_or [] d = d
head_or (x ∷ xs) d = x ∷ []

-- two lists of numbers are equal
unfoldable pub same : List ℕ → List ℕ → Bool
same [] [] = true
same [] (y ∷ ys) = false
same (x ∷ xs) [] = false
same (x ∷ xs) (y ∷ ys) = x == y && same xs ys
