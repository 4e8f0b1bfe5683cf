-- Lists that loops look through, or make.
-- Assumes nothing.
use Rattle.std.proofs.Common.{◌≡◌, ℕ, ◌+◌, ◌<◌, ◌≤◌, List, [], ◌∷◌, ◌++◌, map, length, get_or, take, drop, sym, refl, ap, ◌∙◌, append_assoc, append-nil}
use Rattle.std.specs.List.{flat_map}
use Rattle.std.proofs.lemmas.List.{map_push, drop_all, take_more, take_all}

-- A LOOP THAT LOOKS: what is left decides

module _ {X Y B : Type 0} (f : X → Y) (g : List Y → B) (xs : List X) (i : ℕ) (inv : g (map f (drop i xs)) ≡ g (map f xs)) where
  pub look_more : (x : X) → drop i xs ≡ x ∷ drop (i + 1) xs → g (f x ∷ map f (drop (i + 1) xs)) ≡ g (map f (drop (i + 1) xs)) → g (map f (drop (i + 1) xs)) ≡ g (map f xs)
  look_more x at e = sym e ∙ ap (λ ys. g (map f ys)) (sym at) ∙ inv

  pub look_here : (x : X) (v : B) → drop i xs ≡ x ∷ drop (i + 1) xs → g (f x ∷ map f (drop (i + 1) xs)) ≡ v → g (map f xs) ≡ v
  look_here x v at e = sym inv ∙ ap (λ ys. g (map f ys)) at ∙ e

  pub look_none : length xs ≤ i → g (map f xs) ≡ g []
  look_none l = sym inv ∙ ap (λ ys. g (map f ys)) (drop_all i xs l)

-- A LOOP THAT GATHERS

module _ {X Y Z : Type 0} (f : X → Y) (g : List Y → List Z) (base : List Z) (xs : List X) where
  pub gather_none : g [] ≡ [] → base ≡ base ++ g (map f (take 0 xs))
  gather_none e = sym (append-nil base) ∙ ap (λ ys. base ++ ys) (sym e)

  pub gather_more : ((ys : List Y) (y : Y) → g (ys ++ (y ∷ [])) ≡ g ys ++ g (y ∷ [])) → (i : ℕ) (d : X) (acc acc' : List Z) → i < length xs → acc ≡ base ++ g (map f (take i xs)) → acc' ≡ acc ++ g (f (get_or xs i d) ∷ []) →
      acc' ≡ base ++ g (map f (take (i + 1) xs))
  gather_more hom i d acc acc' l inv e =
      e ∙ ap (λ ys. ys ++ g (f (get_or xs i d) ∷ [])) inv ∙ append_assoc base (g (map f (take i xs))) (g (f (get_or xs i d) ∷ [])) ∙
      ap (λ ys. base ++ ys) (sym (hom (map f (take i xs)) (f (get_or xs i d))) ∙ ap g (sym (map_push f (take i xs) (get_or xs i d)) ∙ ap (map f) (sym (take_more xs i d l))))

  pub gather_all : (i : ℕ) (acc : List Z) → length xs ≤ i → acc ≡ base ++ g (map f (take i xs)) → acc ≡ base ++ g (map f xs)
  gather_all i acc l inv = inv ∙ ap (λ ys. base ++ g (map f ys)) (take_all i xs l)

pub joined_hom : {Y Z : Type 0} (f : Y → List Z) (ys : List Y) (y : Y) → flat_map f (ys ++ (y ∷ [])) ≡ flat_map f ys ++ flat_map f (y ∷ [])
joined_hom f [] y = refl
joined_hom f (x ∷ ys) y = ap (λ zs. f x ++ zs) (joined_hom f ys y) ∙ sym (append_assoc (f x) (flat_map f ys) (flat_map f (y ∷ [])))

-- the same for a loop whose turns each join what one element gives
pub gather_joined : {X Y Z : Type 0} (f : X → Y) (g : Y → List Z) (base : List Z) (xs : List X) (i : ℕ) (d : X) (acc acc' : List Z) → i < length xs → acc ≡ base ++ flat_map g (map f (take i xs)) → acc' ≡ acc ++ g (f (get_or xs i d)) →
    acc' ≡ base ++ flat_map g (map f (take (i + 1) xs))
gather_joined f g base xs i d acc acc' l inv e = gather_more f (flat_map g) base xs (joined_hom g) i d acc acc' l inv (e ∙ ap (λ ys. acc ++ ys) (sym (append-nil (g (f (get_or xs i d))))))

-- and for an element that is read whole
pub gather_item : {X Y Z : Type 0} (f : X → Y) (g : Y → List Z) (base : List Z) (xs : List X) (i : ℕ) (x : X) (acc acc' : List Z) → i < length xs → x ≡ get_or xs i x → acc ≡ base ++ flat_map g (map f (take i xs)) → acc' ≡ acc ++ g (f x) →
    acc' ≡ base ++ flat_map g (map f (take (i + 1) xs))
gather_item f g base xs i x acc acc' l is inv e = gather_joined f g base xs i x acc acc' l inv (e ∙ ap (λ y. acc ++ g (f y)) is)
