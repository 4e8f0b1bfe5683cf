-- What is found in a report.
-- Assumes nothing.
use Rattle.std.specs.Prelude.{◌≡◌, Bool, List, [], ◌∷◌, Some, None, Option}
use Rattle.model.specs.Calls.{Seen}

-- nothing, or a task that is ready or not
abbrev pub SeenAs : List Seen → Option Bool → Type 0
SeenAs xs None = xs ≡ []
SeenAs xs (Some b) = (x : Seen) × (xs ≡ x ∷ []) × (x.ready ≡ b)
