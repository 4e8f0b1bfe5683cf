-- Lists that loops make.
-- Assumes nothing.
use Rattle.std.proofs.Common.{◌≡◌, Bool, true, cond, List, [], ◌∷◌, ◌++◌, map, ap, ◌∙◌}
use Rattle.std.proofs.lemmas.List.{map_push}

-- what a push that went well leaves
pub pushed : {X Y : Type 0} (f : X → Y) (b : Bool) (ys xs : List X) (x : X) → ys ≡ cond b (xs ++ x ∷ []) xs → b ≡ true → map f ys ≡ map f xs ++ (f x ∷ [])
pushed f b ys xs x e t = ap (map f) (e ∙ ap (λ (v : Bool). cond v (xs ++ x ∷ []) xs) t) ∙ map_push f xs x
