-- Code over kept words that follows a doing: it came to its end, or was cut in it.
-- Assumes nothing.
use Rattle.std.specs.Prelude.{◌≡◌, Result, MatchResult}
use Rattle.model.specs.Memory.{Memory, Doing, done, load, store, comes_to, leaves, Halfway}

-- the doing p, begun with the memory m, came to a and left n
pub record Ended {A : Type 0} (p : Doing A) (m : Memory) (a : A) (n : Memory) : Type 0 where
  pub comes : comes_to p m ≡ a
  pub left : leaves p m ≡ n

-- on Ok it came to its end, with what f makes of the value; on Err it was cut in it
abbrev pub FollowsTo : {A V E : Type 0} → Doing A → Memory → Result V E → (V → A) → Memory → Type 0
FollowsTo p m r f n = MatchResult r (λ v. Ended p m (f v) n) (λ _. Halfway p m n)

-- the same where the code returns nothing of its own
abbrev pub Follows : {A E : Type 0} → Doing A → Memory → Result (Unit {0}) E → A → Memory → Type 0
Follows p m r a n = FollowsTo p m r (λ _. a) n

-- one after the other
unfoldable pub and_then : {A B : Type 0} → Doing A → (A → Doing B) → Doing B
and_then (done a) f = f a
and_then (load a k) f = load a (λ w. and_then (k w) f)
and_then (store a w p) f = store a w (and_then p f)
