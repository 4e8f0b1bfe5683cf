-- Any call on a mind: as it means where it is built, and turned away by 12 where it isn't.
-- Assumes nothing.
use Rattle.std.specs.Prelude.{◌≡◌, ℕ, Bool, true, false, List}
use Rattle.model.specs.Calls.{Call, core}
use Rattle.calls.specs.declared.answer.Answer.{Answer}
use Rattle.calls.specs.declared.answer.Answer.TheVariants.{TurnedAway, Yes, Run, Lines}
use Rattle.calls.specs.declared.answer.Refusal.TheVariants.{NotBuilt}
use Rattle.calls.specs.Acted.{Acted}

-- an answer that says that nothing has changed: a refusal, and a showing
abbrev pub is_quiet : Answer → Bool
is_quiet (TurnedAway r) = true
is_quiet Yes = false
is_quiet (Run a) = false
is_quiet (Lines n) = true

-- it was done, and what only shows has changed nothing either
pub record Performed (c : Call) (home live : List ℕ) (time : ℕ) (a : Answer) (home' live' : List ℕ) (time' : ℕ) : Type 0 where
  pub acted : Acted c home live time a home' live' time'
  pub quiet : is_quiet a ≡ true → (home' ≡ home) × (live' ≡ live) × (time' ≡ time)

-- it is not built, and nothing has changed
pub record Unbuilt (home live : List ℕ) (time : ℕ) (a : Answer) (home' live' : List ℕ) (time' : ℕ) : Type 0 where
  pub answer : a ≡ TurnedAway NotBuilt
  pub same : (home' ≡ home) × (live' ≡ live) × (time' ≡ time)

abbrev pub PerformedIf : Bool → Call → List ℕ → List ℕ → ℕ → Answer → List ℕ → List ℕ → ℕ → Type 0
PerformedIf true c home live time a home' live' time' = Performed c home live time a home' live' time'
PerformedIf false c home live time a home' live' time' = Unbuilt home live time a home' live' time'

-- any call
abbrev pub Handled : Call → List ℕ → List ℕ → ℕ → Answer → List ℕ → List ℕ → ℕ → Type 0
Handled c = PerformedIf (core c) c
