-- What telling the time makes of the words.
-- Assumes nothing.
use Rattle.std.specs.Prelude.{ℕ, List, Ok, Err, Result}
use Rattle.model.specs.Calls.{Tick}
use Rattle.calls.specs.declared.answer.Refusal.{Refusal}
use Rattle.calls.specs.declared.answer.Answer.TheVariants.{TurnedAway, Yes}
use Rattle.calls.specs.Acted.{Acted}

abbrev pub Told : (ms : ℕ) → List ℕ → List ℕ → ℕ → List ℕ → List ℕ → Result ℕ Refusal → Type 0
Told ms home live time home' live' (Err e) = Acted (Tick ms) home live time (TurnedAway e) home' live' time
Told ms home live time home' live' (Ok t) = Acted (Tick ms) home live time Yes home' live' t
