-- The home words, kept twice: word 0 says which half holds; then come the words of the one and those of the other.
-- Assumes nothing.
use Rattle.std.specs.Prelude.{◌≡◌, ℕ, zero, suc, ◌+◌, ◌%◌, ◌<◌, cond, ◌⊎◌, List, [], ◌∷◌, length, Result, MatchResult, ◌==◌, nat_le, slice_index}
use Rattle.model.specs.Memory.{Memory, Doing, done, load, store}
use Rattle.device.specs.Follows.{and_then}

-- with size home words and w as word 0: where the half stands that holds, where the other, and what word 0 is where the other holds
abbrev pub held_at : ℕ → ℕ → ℕ
held_at size w = cond (w % 2 == 0) 1 (1 + size)

abbrev pub spare_at : ℕ → ℕ → ℕ
spare_at size w = cond (w % 2 == 0) (1 + size) 1

abbrev pub turned : ℕ → ℕ
turned w = cond (w % 2 == 0) 1 0

-- CHANGE: how many of the words from a on differ from these, beside n
unfoldable pub differs : ℕ → ℕ → List ℕ → Doing ℕ
differs a n [] = done n
differs a n (w ∷ ws) = load a (λ v. cond (v == w) (differs (a + 1) n ws) (differs (a + 1) (n + 1) ws))

-- those that differ are stored
unfoldable pub copies : ℕ → List ℕ → Doing (Unit {0})
copies a [] = done tt
copies a (w ∷ ws) = load a (λ v. cond (v == w) (copies (a + 1) ws) (store a w (copies (a + 1) ws)))

-- a single word that changed is stored in place; more go into the other half, which then holds
abbrev pub turning : ℕ → List ℕ → Doing (Unit {0})
turning w new = and_then (copies (spare_at (length new) w) new) (λ _. store 0 (turned w) (done tt))

abbrev pub deciding : ℕ → List ℕ → ℕ → Doing (Unit {0})
deciding w new n = cond (nat_le n 1) (copies (held_at (length new) w) new) (turning w new)

abbrev pub commits : List ℕ → Doing (Unit {0})
commits new = load 0 (λ w. and_then (differs (held_at (length new) w) 0 new) (deciding w new))

-- WAKING: the half that holds is read
unfoldable pub reading : ℕ → ℕ → Doing (List ℕ)
reading a zero = done []
reading a (suc n) = load a (λ w. and_then (reading (a + 1) n) (λ ws. done (w ∷ ws)))

abbrev pub wakening : ℕ → Doing (List ℕ)
wakening size = load 0 (λ w. reading (held_at size w) size)

-- these words stand from a on; and in the half that holds
abbrev pub Same : ℕ → List ℕ → Memory → Type 0
Same a ws m = (i : ℕ) → i < length ws → m (a + i) ≡ slice_index ws i

abbrev pub Holds : List ℕ → Memory → Type 0
Holds h m = Same (held_at (length h) (m 0)) h m

-- ALL OR NOTHING: where other words were held, the new ones are in the end; where it is cut, those or these
abbrev pub Whole : {E : Type 0} → List ℕ → Memory → Result (Unit {0}) E → Memory → Type 0
Whole new m r n = (old : List ℕ) → length old ≡ length new → Holds old m → MatchResult r (λ _. Holds new n) (λ _. Holds old n ⊎ Holds new n)
