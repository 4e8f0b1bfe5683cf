-- What really runs on the machines that are played, and what a check of it finds.
-- Assumes nothing.
use Rattle.std.specs.Prelude.{◌≡◌, ℕ, true, false, List, [], ◌∷◌, ◌++◌, Some, None, Option, All, Contains}
use Rattle.model.specs.Lists.{some}
use Rattle.model.specs.World.{is_seen}
use Rattle.agents.specs.Memory.{seens_of}
use Rattle.agents.specs.declared.agent.Agent.{Agent}
use Rattle.agents.specs.declared.order.Seen.{Seen}
use Rattle.jobs.specs.declared.ids.MachineId.{MachineId}
use Rattle.rehearsal.specs.declared.check.Twice.{Twice}

abbrev pub Seeing : List Seen → ℕ → Type 0
Seeing xs t = some (is_seen t) (seens_of xs) ≡ true

abbrev pub RunsOn : Agent → ℕ → Type 0
RunsOn a t = Seeing a.seens.items t

abbrev pub Idle : ℕ → Agent → Type 0
Idle t a = some (is_seen t) (seens_of a.seens.items) ≡ false

-- that task runs on none of these machines
abbrev pub NoneRuns : List Agent → ℕ → Type 0
NoneRuns ms t = All (Idle t) ms

-- NO TASK RUNS TWICE: what runs on a machine runs on none behind it
abbrev pub NeverTwice : List Agent → Type 0
NeverTwice [] = Unit {0}
NeverTwice (a ∷ ms) = ((t : ℕ) → RunsOn a t → NoneRuns ms t) × NeverTwice ms

-- one of these machines runs it, and which
pub record RunsAt (t : ℕ) (ms : List Agent) (m : MachineId) : Type 0 where
  pub agent : Agent
  pub there : Contains ms agent
  pub runs : RunsOn agent t
  pub machine : agent.head.machine ≡ m

abbrev pub TooAs : ℕ → List Agent → Option MachineId → Type 0
TooAs t ms None = NoneRuns ms t
TooAs t ms (Some m) = RunsAt t ms m

abbrev pub SharedAs : List Seen → MachineId → List Agent → Option Twice → Type 0
SharedAs xs first ms None = (t : ℕ) → Seeing xs t → NoneRuns ms t
SharedAs xs first ms (Some f) = (f.first ≡ first) × Seeing xs f.task.0 × RunsAt f.task.0 ms f.second

-- a task at two places: on a machine, and on one behind it
pub record FoundTwice (ms : List Agent) (f : Twice) : Type 0 where
  pub before : List Agent
  pub agent : Agent
  pub behind : List Agent
  pub parts : ms ≡ before ++ (agent ∷ behind)
  pub first : agent.head.machine ≡ f.first
  pub runs : RunsOn agent f.task.0
  pub second : RunsAt f.task.0 behind f.second

abbrev pub TwiceAs : List Agent → Option Twice → Type 0
TwiceAs ms None = NeverTwice ms
TwiceAs ms (Some f) = FoundTwice ms f
