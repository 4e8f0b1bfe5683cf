-- Walks over tags.
-- Assumes nothing.
use Rattle.std.proofs.Common.{◌≡◌, ℕ, zero, suc, ◌+◌, ◌<◌, ◌≤◌, Bool, true, false, ◌||◌, List, [], ◌∷◌, map, length, get_or, take, drop, sym, refl, ap, ◌∙◌}
use Rattle.std.specs.List.{list_any}
use Rattle.std.proofs.lemmas.List.{at_drop_more, at_drop_all}
use Rattle.model.specs.Lists.{some, every}

module _ (p : ℕ → Bool) (xs : List ℕ) (i : ℕ) where
  pub each_not : i < length xs → p (get_or xs i 0) ≡ false → every p (drop i xs) ≡ false
  unfolding every
  each_not h e = at_drop_more (every p) xs i 0 h ∙ rw e

  pub each_next : i < length xs → p (get_or xs i 0) ≡ true → every p (drop (i + 1) xs) ≡ every p (drop i xs)
  unfolding every
  each_next h e = sym (at_drop_more (every p) xs i 0 h ∙ rw e)

  pub each_end : length xs ≤ i → every p (drop i xs) ≡ true
  unfolding every
  each_end h = at_drop_all (every p) xs i h

-- a look at each of the first n words
pub some_any : (p : ℕ → Bool) (f : ℕ → ℕ) (n : ℕ) (ws : List ℕ) → list_any (λ w. p (f w)) (take n ws) ≡ some p (take n (map f ws))
unfolding some
some_any p f zero ws = refl
some_any p f (suc n) [] = refl
some_any p f (suc n) (w ∷ ws) = ap (λ (b : Bool). p (f w) || b) (some_any p f n ws)
