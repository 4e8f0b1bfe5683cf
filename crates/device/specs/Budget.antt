-- How often a doing stores, and how often a change does: what is not new is not stored, and nothing is stored twice.
-- Assumes nothing.
use Rattle.std.specs.Prelude.{◌≡◌, ℕ, ◌+◌, ◌<◌, ◌≤◌, Bool, true, cond, List, [], ◌∷◌, length, ◌==◌, nat_eq}
use Rattle.model.specs.Memory.{Memory, stored, Doing, done, load, store, leaves}
use Rattle.device.specs.Halves.{held_at, spare_at, commits}

-- 1 if it is so; and n unless it is so
abbrev pub tally : Bool → ℕ
tally b = cond b 1 0

abbrev pub unless : Bool → ℕ → ℕ
unless b n = cond b 0 n

-- how many stores there are of words whose number passes
unfoldable pub stores_of : {A : Type 0} → (ℕ → Bool) → Doing A → Memory → ℕ
stores_of f (done a) m = 0
stores_of f (load a k) m = stores_of f (k (m a)) m
stores_of f (store a w p) m = tally (f a) + stores_of f p (stored a w m)

abbrev pub stores_in : {A : Type 0} → Doing A → Memory → ℕ
stores_in p m = stores_of (λ _. true) p m

abbrev pub stores_at : {A : Type 0} → ℕ → Doing A → Memory → ℕ
stores_at b p m = stores_of (nat_eq b) p m

-- how many of the words from a on, among those whose number passes, differ from these
unfoldable pub differing_of : (ℕ → Bool) → ℕ → List ℕ → Memory → ℕ
differing_of f a [] m = 0
differing_of f a (w ∷ ws) m = unless (m a == w) (tally (f a)) + differing_of f (a + 1) ws m

abbrev pub differing : ℕ → List ℕ → Memory → ℕ
differing a ws m = differing_of (λ _. true) a ws m

-- how many words of the half that holds are to change, and of how many the other half has another
abbrev pub changing : List ℕ → Memory → ℕ
changing new m = differing (held_at (length new) (m 0)) new m

abbrev pub stale : List ℕ → Memory → ℕ
stale new m = differing (spare_at (length new) (m 0)) new m

-- THE BUDGET of a change
pub record Budget (new : List ℕ) (m : Memory) : Type 0 where
  pub none : changing new m ≡ 0 → stores_in (commits new) m ≡ 0
  pub one : changing new m ≡ 1 → stores_in (commits new) m ≡ 1
  pub more : 1 < changing new m → stores_in (commits new) m ≡ stale new m + 1
  -- no word is stored twice, and none that is as it was in the end
  pub once : (b : ℕ) → stores_at b (commits new) m ≤ 1
  pub needed : (b : ℕ) → leaves (commits new) m b ≡ m b → stores_at b (commits new) m ≡ 0
