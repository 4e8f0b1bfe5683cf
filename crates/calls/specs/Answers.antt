-- What the answers of the code stand for: the number and values that the bytes have.
-- Assumes nothing.
use Rattle.std.specs.Prelude.{ℕ, Ok, Err, Result}
use Rattle.model.specs.Lists.{keep}
use Rattle.model.specs.State.{State, of_job, on_machine}
use Rattle.model.specs.Calls.{orders, lines_of}
use Rattle.model.specs.Wire as w
use Rattle.calls.specs.declared.answer.Refusal.{Refusal}
use Rattle.calls.specs.declared.answer.Refusal.TheVariants.{Malformed, Unknown, Present, Stale, Full, NoTime, NotBuilt}
use Rattle.calls.specs.declared.answer.Answer.{Answer}
use Rattle.calls.specs.declared.answer.Answer.TheVariants.{TurnedAway, Yes, Run, Lines}

abbrev pub number_of : Refusal → ℕ
number_of Malformed = 1
number_of Unknown = 2
number_of Present = 3
number_of Stale = 5
number_of Full = 8
number_of NoTime = 10
number_of NotBuilt = 12

-- to what was done or refused
abbrev pub answer_to_done : {T : Type 0} → Result T Refusal → Answer
answer_to_done (Ok x) = Yes
answer_to_done (Err r) = TurnedAway r

-- in the state afterwards, whose tasks it lists
abbrev pub answer_of : Answer → State → w.Answer
answer_of (TurnedAway r) s = w.Refused (number_of r)
answer_of Yes s = w.Done
answer_of (Run a) s = w.Runs a.machine.0 a.life.0 a.number.0 (orders (keep (on_machine a.machine.0) s.tasks))
answer_of (Lines n) s = w.Shown (lines_of (keep (of_job n.now) s.tasks))
