-- The moves of an agent, from the contracts of its code.
-- Assumes nothing.
use Rattle.std.proofs.Common.{ℕ, ◌<◌, Bool, Ok, Err, Result, Vec, vec_items, sym, ap, subst}
use Rattle.std.specs.declared.alloc.Global.{Global}
use Rattle.std.specs.declared.alloc.AllocError.{AllocError}
use Rattle.model.specs.World.{Agent}
use Rattle.model.specs.Wire.{Bytes}
use Rattle.model.specs.Answers.{read_answer_lem}
use Rattle.model.specs.Lines.{call_in}
use Rattle.agents.specs.Steps.{Reports, Starts, Hears, Becomes, Dies}
use Rattle.agents.specs.declared.order.Deed.{Deed}
use Rattle.agents.specs.declared.agent.Unsent.{Unsent}
use Rattle.agents.specs.declared.agent.Passed.{Passed}
use Rattle.agents.specs.declared.agent.NotRunning.{NotRunning}
use Rattle.together.specs.Moves.{GoesOn, AgentReports, AgentHears}
use Rattle.together.proofs.Moving.{sends, starts_on, obeys_on, becomes_on, dies_on, same_on}

pub reports_any : (i : ℕ) (a : Agent) (r : Result (Vec ℕ Global) Unsent) (b : Agent) → i < 65536 → b.number < 18446744073709551616 → Reports i a r b → AgentReports i a r b
reports_any i a (Ok v) b m n k = sends i a (vec_items v) b m (subst (λ (x : ℕ). x < 18446744073709551616) (ap (λ (x : Agent). x.number) k.1) n) k.0 k.1
reports_any i a (Err e) b m n k = k.0

pub hears_any : (i : ℕ) (line : Bytes) (a : Agent) (r : Result (Vec Deed Global) Passed) (b : Agent) → Hears i (read_answer_lem (call_in line)) a r b → AgentHears i line a b
hears_any i line a (Ok ds) b k = obeys_on i line a (vec_items ds) b k
hears_any i line a (Err e) b k = λ h g bs cs w q m. same_on i a b k.0 h g bs cs w q

pub starts_any : (i : ℕ) (a : Agent) (r : Result (Vec Deed Global) AllocError) (b : Agent) → Starts a r b → GoesOn i a b
starts_any i a (Ok ds) b k = subst (GoesOn i a) (sym k.0) (starts_on i a)
starts_any i a (Err e) b k = same_on i a b k

pub becomes_any : (i t : ℕ) (ready : Bool) (a : Agent) (r : Result (Unit {0}) NotRunning) (b : Agent) → Becomes t ready a r b → GoesOn i a b
becomes_any i t ready a (Ok u) b k = becomes_on i t ready a b k.0 k.1
becomes_any i t ready a (Err e) b k = same_on i a b k.0

pub dies_any : (i t : ℕ) (a : Agent) (r : Result (Unit {0}) NotRunning) (b : Agent) → Dies t a r b → GoesOn i a b
dies_any i t a (Ok u) b k = dies_on i t a b k.0 k.1
dies_any i t a (Err e) b k = same_on i a b k.0
