-- An agent's memory as the model's agent, and what its moves do to that.
-- Assumes nothing.
use Rattle.std.specs.Prelude.{◌≡◌, ℕ, ◌+◌, ◌%◌, ◌≤◌, Bool, false, cond, ◌&&◌, List, ◌∷◌, ◌++◌, Ok, Err, vec_items, Result, Vec, ◌==◌}
use Rattle.std.specs.declared.alloc.Global.{Global}
use Rattle.std.specs.declared.alloc.AllocError.{AllocError}
use Rattle.model.specs.Lists.{some}
use Rattle.model.specs.Calls.{Seen, Order, Report}
use Rattle.model.specs.Wire.{Bytes, Read, garbled, meant, call_bytes, Answer, Refused, Done, Runs, Shown}
use Rattle.model.specs.Lines.{framed}
use Rattle.model.specs.World as w
use Rattle.agents.specs.Memory.{seens_of, deeds_of}
use Rattle.wire.specs.Replies.{orders_of}
use Rattle.agents.specs.Moves.{started, deeds_for}
use Rattle.agents.specs.declared.order.Deed.{Deed}
use Rattle.agents.specs.declared.agent.Agent.{Agent}
use Rattle.agents.specs.declared.heard.Run.{Run}
use Rattle.agents.specs.declared.agent.Unsent.{Unsent}
use Rattle.agents.specs.declared.agent.Unsent.TheVariants as unsent
use Rattle.agents.specs.declared.agent.NotRunning.{NotRunning}
use Rattle.agents.specs.declared.agent.Passed.{Passed}
use Rattle.agents.specs.declared.agent.Passed.TheVariants as passed

abbrev pub agent_of : Agent → w.Agent
agent_of a = record { life = a.head.life.0; number = a.head.number.0; ordered = orders_of (vec_items a.orders); runs = seens_of (vec_items a.seens) }

abbrev pub machine_of : Agent → ℕ
machine_of a = a.head.machine.0

-- REPORTING

abbrev pub last_number : ℕ
last_number = 4611686018427387904

-- the report of the next number, of all that is ordered; the tag counts with the reports
abbrev pub report_line : ℕ → w.Agent → Bytes
report_line k a = framed ((a.number + 1) % 4294967296) (call_bytes (Report k a.life (a.number + 1) (w.may_run a.runs a.ordered)))

abbrev pub Unsendable : w.Agent → Unsent → Type 0
Unsendable a unsent.Last = last_number ≤ a.number
Unsendable a unsent.NoMemory = Unit {0}

abbrev pub Reports : ℕ → w.Agent → Result (Vec ℕ Global) Unsent → w.Agent → Type 0
Reports k a (Ok v) b = (vec_items v ≡ report_line k a) × (b ≡ w.reported a)
Reports k a (Err e) b = (b ≡ a) × Unsendable a e

-- STARTING

-- all that is ordered and doesn't run is started
abbrev pub starting : w.Agent → w.Agent
starting a = w.running (started a.ordered a.runs) a

abbrev pub Starts : w.Agent → Result (Vec Deed Global) AllocError → w.Agent → Type 0
Starts a (Ok ds) b = (b ≡ starting a) × (deeds_of (vec_items ds) ≡ deeds_for a.runs b.runs b.ordered)
Starts a (Err e) b = b ≡ a

-- OBEYING

-- an answer counts only for this machine, in this life, and to the last report; whatever else comes is passed over
abbrev pub takes_in : ℕ → Read Answer → w.Agent → w.Agent
takes_in k garbled a = a
takes_in k (meant (Refused n)) a = a
takes_in k (meant Done) a = a
takes_in k (meant (Runs j l n os)) a = cond (j == k && l == a.life && n == a.number) (w.obeys os a) a
takes_in k (meant (Shown ls)) a = a

abbrev pub Passes : ℕ → Read Answer → w.Agent → Passed → Type 0
Passes k x a passed.NoAnswer = takes_in k x a ≡ a
Passes k x a (passed.Refused n) = takes_in k x a ≡ a
Passes k x a passed.NotLast = takes_in k x a ≡ a
Passes k x a passed.NoMemory = Unit {0}

-- it obeyed: the orders are those of the answer to its last report, all of them run, and what was done for it is said
pub record Obeyed (k : ℕ) (x : Read Answer) (a : w.Agent) (ds : List Deed) (b : w.Agent) : Type 0 where
  pub orders : List Order
  pub answered : x ≡ meant (Runs k a.life a.number orders)
  pub after : b ≡ starting (w.obeys orders a)
  pub deeds : deeds_of ds ≡ deeds_for a.runs b.runs orders

abbrev pub Hears : ℕ → Read Answer → w.Agent → Result (Vec Deed Global) Passed → w.Agent → Type 0
Hears k x a (Ok ds) b = Obeyed k x a (vec_items ds) b
Hears k x a (Err e) b = (b ≡ a) × Passes k x a e

abbrev pub run_of : Run → Read Answer
run_of r = meant (Runs r.head.machine.0 r.head.life.0 r.head.number.0 (orders_of (vec_items r.orders)))

-- BECOMING READY, DYING

-- what runs, around a task
pub record Marked (t : ℕ) (ready : Bool) (xs ys : List Seen) : Type 0 where
  pub before : List Seen
  pub behind : List Seen
  pub found : Seen
  pub id : found.id ≡ t
  pub was : xs ≡ before ++ found ∷ behind
  pub is : ys ≡ before ++ record { id = found.id; ready = ready } ∷ behind

pub record Gone (t : ℕ) (xs ys : List Seen) : Type 0 where
  pub before : List Seen
  pub behind : List Seen
  pub found : Seen
  pub id : found.id ≡ t
  pub was : xs ≡ before ++ found ∷ behind
  pub is : ys ≡ before ++ behind

-- the task doesn't run here, and it is the one that was asked for
abbrev pub Missed : ℕ → w.Agent → NotRunning → Type 0
Missed t a e = (some (w.is_seen t) a.runs ≡ false) × (e.0.0 ≡ t)

abbrev pub Becomes : ℕ → Bool → w.Agent → Result (Unit {0}) NotRunning → w.Agent → Type 0
Becomes t ready a (Ok u) b = Marked t ready a.runs b.runs × (b ≡ w.running b.runs a)
Becomes t ready a (Err e) b = (b ≡ a) × Missed t a e

abbrev pub Dies : ℕ → w.Agent → Result (Unit {0}) NotRunning → w.Agent → Type 0
Dies t a (Ok u) b = Gone t a.runs b.runs × (b ≡ w.running b.runs a)
Dies t a (Err e) b = (b ≡ a) × Missed t a e
