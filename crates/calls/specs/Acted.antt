-- What a call makes of the words, by what it means.
-- Assumes nothing.
use Rattle.std.specs.Prelude.{◌≡◌, ℕ, Bool, true, false, List}
use Rattle.model.specs.Calls.{Call, acts}
use Rattle.model.specs.Wire.{answer_to}
use Rattle.jobs.specs.Tables.{state_of}
use Rattle.calls.specs.declared.answer.Answer.{Answer}
use Rattle.calls.specs.declared.answer.Answer.TheVariants.{TurnedAway, Yes, Run, Lines}
use Rattle.calls.specs.Answers.{answer_of}

abbrev pub is_refused : Answer → Bool
is_refused (TurnedAway r) = true
is_refused Yes = false
is_refused (Run a) = false
is_refused (Lines n) = false

-- the answer and the state afterwards are those of the call; what is refused changes no word
pub record Acted (c : Call) (home live : List ℕ) (time : ℕ) (a : Answer) (home' live' : List ℕ) (time' : ℕ) : Type 0 where
  pub state : state_of home' live' time' ≡ (acts c (state_of home live time)).state
  pub answer : answer_of a (state_of home' live' time') ≡ answer_to c (acts c (state_of home live time)).reply
  pub refused : is_refused a ≡ true → (home' ≡ home) × (live' ≡ live) × (time' ≡ time)
