-- The test that a machine has to pass. Its number and its tags are small by their types.
-- Assumes nothing.
use Rattle.std.specs.Prelude.{◌≡◌, ℕ, ◌/◌, Bool, ◌||◌, List, length, Ok, Err, Result, nat_lt}
use Rattle.model.specs.State as s
use Rattle.model.specs.State.{with_machines}
use Rattle.model.specs.Calls.{acts, no, yes'}
use Rattle.jobs.specs.Tables.{state_of}
use Rattle.calls.specs.declared.answer.Refusal.{Refusal}
use Rattle.calls.specs.declared.call.Added.{Added}
use Rattle.calls.specs.declared.call.Call.TheVariants.{Add}
use Rattle.calls.specs.Answers.{number_of}
use Rattle.calls.specs.Meaning.{call_of}

abbrev pub too_much_lem : Added → Bool
too_much_lem a = nat_lt 1000000000 a.cpu || nat_lt 1000000000 a.mem || nat_lt 16 (length a.tags.now / 4)

-- the machine is there, and the pass begins; or nothing has changed
abbrev pub Put : Added → List ℕ → List ℕ → List ℕ → List ℕ → Result (Unit {0}) Refusal → Type 0
Put a home live home' live' (Ok u) =
    ((time : ℕ) → acts (call_of (Add a)) (state_of home live time) ≡ yes' (state_of home' live' time)) ×
    ((ms : List s.Machine) × ((time : ℕ) → state_of home' live' time ≡ with_machines ms (state_of home live time)))
Put a home live home' live' (Err e) = ((time : ℕ) → acts (call_of (Add a)) (state_of home live time) ≡ no (number_of e) (state_of home live time)) × (home' ≡ home) × (live' ≡ live)
