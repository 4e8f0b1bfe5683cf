-- What the deeds of an agent make of what runs on its machine.
-- Assumes nothing.
use Rattle.std.specs.Prelude.{◌≡◌, ℕ, Bool, true, false, cond, List, [], ◌∷◌, ◌==◌}
use Rattle.model.specs.Lists.{some}
use Rattle.model.specs.Calls.{Seen, Order}
use Rattle.model.specs.World.{is_seen}
use Rattle.agents.specs.Memory.{Deed, stop, start}
use Rattle.agents.specs.Moves.{kept, started, deeds_for}

-- whether a task runs, once a deed is carried out
abbrev pub did : Deed → (ℕ → Bool) → ℕ → Bool
did (stop i) f j = cond (j == i) false (f j)
did (start o) f j = cond (j == o.id) true (f j)

-- and all of them, the first one first
unfoldable pub carried : List Deed → (ℕ → Bool) → ℕ → Bool
carried [] f = f
carried (d ∷ ds) f = carried ds (did d f)

-- what really runs when all was carried out is what the agent takes to run, if it was so before
abbrev pub Carries : List Seen → List Seen → List Order → ℕ → Type 0
Carries before left os j = carried (deeds_for before (started os left) os) (λ i. some (is_seen i) before) j ≡ some (is_seen j) (started os left)

-- when it obeys, and when it starts again what died
abbrev pub CarriedOut : Type 0
CarriedOut = (before : List Seen) (os : List Order) (j : ℕ) → Carries before (kept os before) os j × Carries before before os j
