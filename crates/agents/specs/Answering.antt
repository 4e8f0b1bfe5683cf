-- What a reader of answers to reports finds.
-- Assumes nothing.
use Rattle.std.specs.Prelude.{◌≡◌, ℕ, List, vec_items, ◌≢◌, Ok, Err, Result}
use Rattle.model.specs.Calls as m
use Rattle.model.specs.Wire.{Read, meant, Answer, Refused, Runs}
use Rattle.wire.specs.Replies.{orders_of}
use Rattle.wire.specs.declared.unread.Unread.{Unread}
use Rattle.wire.specs.declared.unread.Unread.TheVariants as unread
use Rattle.agents.specs.declared.heard.Run.{Run}
use Rattle.agents.specs.declared.agent.Passed.{Passed}
use Rattle.agents.specs.declared.agent.Passed.TheVariants as passed

-- what can't be read is passed over for that
abbrev pub passed_for : Unread → Passed
passed_for unread.NoAnswer = passed.NoAnswer
passed_for unread.NoMemory = passed.NoMemory

-- an answer to a report with all that it says; a refusal by its number; for want of memory, nothing is known
abbrev pub HeardAs : Read Answer → Result Run Passed → Type 0
HeardAs x (Ok r) = x ≡ meant (Runs r.head.machine.0 r.head.life.0 r.head.number.0 (orders_of (vec_items r.orders)))
HeardAs x (Err (passed.Refused k)) = x ≡ meant (Refused k)
HeardAs x (Err passed.NoAnswer) = (k l n : ℕ) (os : List m.Order) → x ≢ meant (Runs k l n os)
HeardAs x (Err passed.NoMemory) = Unit {0}
HeardAs x (Err passed.NotLast) = ⊥
