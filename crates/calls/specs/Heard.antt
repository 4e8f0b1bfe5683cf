-- What a report makes of one task.
-- Assumes nothing.
use Rattle.std.specs.Prelude.{◌≡◌, ℕ, List, [], ◌∷◌}
use Rattle.model.specs.State.{Task}
use Rattle.model.specs.Calls.{Seen, heard_all}
use Rattle.jobs.specs.Changes.{mark_each}
use Rattle.calls.specs.declared.outcome.Heard.{Heard}
use Rattle.calls.specs.declared.outcome.Heard.TheVariants.{Stays, Gone, Marked}

abbrev pub HeardAs : (num life : ℕ) → List Seen → Task → Heard → Type 0
HeardAs k l xs t Stays = heard_all k l xs (t ∷ []) ≡ t ∷ []
HeardAs k l xs t Gone = heard_all k l xs (t ∷ []) ≡ []
HeardAs k l xs t (Marked b) = heard_all k l xs (t ∷ []) ≡ mark_each b (t ∷ [])
