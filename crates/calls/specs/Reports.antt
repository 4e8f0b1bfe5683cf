-- The tests that a report has to pass.
-- Assumes nothing.
use Rattle.std.specs.Prelude.{◌≡◌, ℕ, ◌/◌, ◌<◌, Bool, true, ◌&&◌, ◌||◌, List, [], ◌∷◌, length, Ok, Err, Result, ◌==◌, nat_le, nat_lt}
use Rattle.model.specs.Lists.{find}
use Rattle.model.specs.State.{Machine, is_machine}
use Rattle.model.specs.Settle.{settle}
use Rattle.model.specs.Calls.{acts, answers_report, heard, no}
use Rattle.jobs.specs.Rows.{span}
use Rattle.jobs.specs.Tables.{machine_at, machine_rows_lem, state_of}
use Rattle.calls.specs.declared.answer.Refusal.{Refusal}
use Rattle.calls.specs.declared.call.Call.TheVariants.{Report}
use Rattle.calls.specs.declared.call.Reported.{Reported}
use Rattle.calls.specs.Answers.{number_of}
use Rattle.calls.specs.Meaning.{call_of, seens_of}

abbrev pub out_of_range_lem : Reported → Bool
out_of_range_lem r = nat_lt 4611686018427387904 r.life.0 || nat_lt 4611686018427387904 r.number.0 || nat_lt 2048 (length r.tasks.now / 9)

abbrev pub stale_for : Reported → ℕ → ℕ → Bool
stale_for r life number = nat_lt r.life.0 life || (r.life.0 == life && nat_le r.number.0 number)

-- the machine of that number stands in that row, and in no row before it
abbrev pub HeardIn : ℕ → ℕ → List ℕ → List ℕ → Type 0
HeardIn k i home live = (m : Machine) × (i < machine_rows_lem home) × (machine_at home live i ≡ m ∷ []) × (is_machine k m ≡ true) × (find (is_machine k) (span (machine_at home live) 0 i) ≡ [])

-- what the tests find: the row of the machine, where the report is news; else why it is refused
abbrev pub ReportChecked : Reported → List ℕ → Result ℕ Refusal → Type 0
ReportChecked r home (Ok i) =
    (live : List ℕ) (time : ℕ) → HeardIn r.machine.0 i home live ×
    (acts (call_of (Report r)) (state_of home live time) ≡ answers_report r.machine.0 r.number.0 (settle (heard r.machine.0 r.life.0 r.number.0 (seens_of r.tasks.now) (state_of home live time))))
ReportChecked r home (Err e) = (live : List ℕ) (time : ℕ) → acts (call_of (Report r)) (state_of home live time) ≡ no (number_of e) (state_of home live time)
