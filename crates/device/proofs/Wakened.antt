-- What is read, and that reading leaves all as it is.
-- Assumes nothing.
use Rattle.std.proofs.Common.{◌≡◌, ℕ, zero, suc, ◌+◌, List, [], ◌∷◌, length, sym, refl, ap, ◌∙◌, subst, ap₂, arith}
use Rattle.model.specs.Memory.{Memory, done, comes_to, leaves}
use Rattle.device.specs.Follows.{Ended}
use Rattle.device.specs.Halves.{held_at, reading, wakening, Same, Holds}
use Rattle.device.proofs.Doings.{comes_to_then, leaves_then}

pub leaves_reading : (a n : ℕ) (m : Memory) → leaves (reading a n) m ≡ m
unfolding reading leaves
leaves_reading a zero m = refl
leaves_reading a (suc n) m = leaves_then (reading (a + 1) n) (λ ws. done (m a ∷ ws)) m ∙ leaves_reading (a + 1) n m

pub reading_is : (a n : ℕ) (h : List ℕ) (m : Memory) → length h ≡ n → Same a h m → comes_to (reading a n) m ≡ h
unfolding reading comes_to
reading_is a zero [] m l f = refl
reading_is a zero (x ∷ h) m l f = absurd (omega arith)
reading_is a (suc n) [] m l f = absurd (omega arith)
reading_is a (suc n) (x ∷ h) m l f =
    let first : a ≡ a + 0 = omega arith in
    let more : (j : ℕ) → a + 1 + j ≡ a + suc j = λ j. omega arith in
    comes_to_then (reading (a + 1) n) (λ ws. done (m a ∷ ws)) m ∙ ap₂ ◌∷◌ (ap m first ∙ f 0 (omega arith)) (reading_is (a + 1) n h m (omega arith) (λ j lt. ap m (more j) ∙ f (suc j) (omega arith)))

-- the words that were read are what waking comes to
pub wakened : (m : Memory) (size from w : ℕ) (h : List ℕ) → w ≡ m 0 → from ≡ held_at size w → length h ≡ size → Same from h m → Ended (wakening size) m h m
unfolding comes_to leaves
wakened m size from w h is at long read =
    let at' : held_at size (m 0) ≡ from = ap (held_at size) (sym is) ∙ sym at in
    record { comes = ap (λ (a : ℕ). comes_to (reading a size) m) at' ∙ reading_is from size h m long read; left = leaves_reading (held_at size (m 0)) size m }

-- and they are those that are held
pub wakened_held : (m : Memory) (size : ℕ) (h home : List ℕ) → length h ≡ size → Holds h m → Ended (wakening size) m home m → home ≡ h
unfolding comes_to
wakened_held m size h home long held e =
    sym e.comes ∙ reading_is (held_at size (m 0)) size h m long (subst (λ (k : ℕ). Same (held_at k (m 0)) h m) long held)
