-- Writes to some words, and the rows that they leave alone.
-- Assumes nothing.
use Rattle.std.proofs.Common.{◌≡◌, ℕ, zero, suc, ◌+◌, ◌*◌, ◌<◌, ◌≤◌, ◌⊎◌, List, [], ◌∷◌, length, get_or, take, drop, set, refl, ap, ◌∙◌, inl, inr, add-mul, arith, rules}
use borrow.Rule.Slice.PartMut.{put_mid}
use Rattle.std.proofs.lemmas.Nat.{mul-le}
use Rattle.std.proofs.lemmas.List.{ext_get_or, length-take, length-drop, get_or-take, get_or-drop, length-set, get_or-set_other, take_at, drop_at, drop-set-add, length-take-le, places}
use Rattle.jobs.specs.Rows.{at, Only}

-- a row that comes before another ends before it
pub row_before : (w k i : ℕ) → k < i → k * w + w ≤ i * w
row_before w k i h = let m : (k + 1) * w ≤ i * w = mul-le (k + 1) w i w (omega arith) (omega arith) in omega (arith, add-mul k 1 w, m)

pub row_same : (w o : ℕ) (us ws : List ℕ) → length us ≡ length ws → o + w ≤ length ws → ((j : ℕ) → j < w → at us (o + j) ≡ at ws (o + j)) → take w (drop o us) ≡ take w (drop o ws)
row_same w o us ws l q e =
    ext_get_or 0 _ _ (simp (length-take, length-drop) (omega arith))
    (λ j h. let k : j < w = omega (arith, length-take w (drop o us)) in rw (get_or-take, get_or-drop, get_or-take, get_or-drop) (e j k))

pub only_row : (a e o w : ℕ) (us ws : List ℕ) → Only a e us ws → o + w ≤ length ws → (o + w ≤ a) ⊎ (e ≤ o) → take w (drop o us) ≡ take w (drop o ws)
only_row a e o w us ws h l (inl p) = row_same w o us ws h.long l (λ j k. h.below (o + j) (omega arith))
only_row a e o w us ws h l (inr p) = row_same w o us ws h.long l (λ j k. h.above (o + j) (omega arith))

put_below : (a k m : ℕ) (xs ys : List ℕ) → m < a → a ≤ length xs → get_or (put_mid a k xs ys) m 0 ≡ get_or xs m 0
put_below a k m xs ys h p = search (rules, places)

put_above : (a k m : ℕ) (xs ys : List ℕ) → a + k ≤ m → length ys ≡ k → a ≤ length xs → get_or (put_mid a k xs ys) m 0 ≡ get_or xs m 0
put_above a k m xs ys h e p = search (rules, places)

put_length : (a k : ℕ) (xs ys : List ℕ) → a + k ≤ length xs → length ys ≡ k → length (put_mid a k xs ys) ≡ length xs
put_length a k xs ys h e = search (rules, places)

pub put_only : (a k : ℕ) (xs ys : List ℕ) → a + k ≤ length xs → length ys ≡ k → Only a (a + k) (put_mid a k xs ys) xs
put_only a k xs ys h e = record { long = put_length a k xs ys h e; below = λ m l. put_below a k m xs ys l (omega arith); above = λ m l. put_above a k m xs ys l e (omega arith) }

pub put_row_lem : (w a k : ℕ) (xs ys : List ℕ) → a ≤ length xs → length ys ≡ w → take w (drop a (put_mid a k xs ys)) ≡ ys
put_row_lem w a k xs ys p e = rw (drop_at (take a xs) _ a (length-take-le a xs p)) (take_at ys _ w e)

pub set_only : (i v : ℕ) (ws : List ℕ) → Only i (i + 1) (set ws i v) ws
set_only i v ws = record { long = length-set ws i v; below = λ k h. get_or-set_other ws i k v 0 (λ e. omega arith); above = λ k h. get_or-set_other ws i k v 0 (λ e. omega arith) }

pub only_then : (a e : ℕ) (us vs ws : List ℕ) → Only a e us vs → Only a e vs ws → Only a e us ws
only_then a e us vs ws p q = record { long = p.long ∙ q.long; below = λ k h. p.below k h ∙ q.below k h; above = λ k h. p.above k h ∙ q.above k h }

pub only_wide : (a e b g : ℕ) (us ws : List ℕ) → b ≤ a → e ≤ g → Only a e us ws → Only b g us ws
only_wide a e b g us ws p q h = record { long = h.long; below = λ k l. h.below k (omega arith); above = λ k l. h.above k (omega arith) }

pub only_none : (a e : ℕ) (ws : List ℕ) → Only a e ws ws
only_none a e ws = record { long = refl; below = λ k h. refl; above = λ k h. refl }

take_set : (w k v : ℕ) (l : List ℕ) → take w (set l k v) ≡ set (take w l) k v
take_set zero k v l = refl
take_set (suc w) k v [] = refl
take_set (suc w) zero v (x ∷ xs) = refl
take_set (suc w) (suc k) v (x ∷ xs) = ap (λ (ys : List ℕ). x ∷ ys) (take_set w k v xs)

-- word k of a row is written
pub set_row : (w o k v : ℕ) (ws : List ℕ) → take w (drop o (set ws (o + k) v)) ≡ set (take w (drop o ws)) k v
set_row w o k v ws = ap (take w) (drop-set-add o ws k v) ∙ take_set w k v (drop o ws)

pub row_length : (w o : ℕ) (ws : List ℕ) → o + w ≤ length ws → length (take w (drop o ws)) ≡ w
row_length w o ws h = simp (length-take, length-drop) (omega arith)
