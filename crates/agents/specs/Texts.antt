-- What text says to an agent.
-- Assumes nothing.
use Rattle.std.specs.Prelude.{◌≡◌, ◌≢◌, ℕ, ◌++◌, codes, Some, None, Option, Ok, Err, Result, Vec, vec_items}
use Rattle.std.specs.declared.alloc.Global.{Global}
use Rattle.model.specs.Wire.{Bytes, Read, garbled, meant}
use Rattle.lines.specs.Text.{Text, decimal_on}
use Rattle.agents.specs.declared.text.Said.{Said}
use Rattle.agents.specs.declared.text.Said.TheVariants.{Report, Answer, Ready, Dies}
use Rattle.agents.specs.declared.text.Unhexed.{Unhexed}
use Rattle.agents.specs.declared.text.Unhexed.TheVariants.{Garbled, NoMemory}

abbrev pub UnhexedAs : Read Bytes → Result (Vec ℕ Global) Unhexed → Type 0
UnhexedAs x (Ok v) = x ≡ meant (vec_items v)
UnhexedAs x (Err Garbled) = x ≡ garbled
UnhexedAs x (Err NoMemory) = Unit {0}

-- WHAT A LINE IS MEANT AS: `report`; `answer` with digits; `ready` and `dies` with a task, a number in decimal digits; and nothing else

abbrev pub TaskIn : Text → ℕ → Type 0
TaskIn digits t = decimal_on garbled digits ≡ meant t

pub record Nothing (line : Text) : Type 0 where
  pub no_report : line ≢ codes "report"
  pub no_answer : (digits : Text) → line ≢ codes "answer " ++ digits
  pub not_ready : (digits : Text) → line ≡ codes "ready " ++ digits → decimal_on garbled digits ≡ garbled
  pub not_dead : (digits : Text) → line ≡ codes "dies " ++ digits → decimal_on garbled digits ≡ garbled

abbrev pub SaidAs : Text → Option Said → Type 0
SaidAs line (Some Report) = line ≡ codes "report"
SaidAs line (Some (Answer digits)) = line ≡ codes "answer " ++ digits.now
SaidAs line (Some (Ready t)) = (digits : Text) × (line ≡ codes "ready " ++ digits) × TaskIn digits t.0
SaidAs line (Some (Dies t)) = (digits : Text) × (line ≡ codes "dies " ++ digits) × TaskIn digits t.0
SaidAs line None = Nothing line
