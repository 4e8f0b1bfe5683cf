-- WHAT REALLY RUNS COMES TO REST: what is promised of rounds of the world as it runs.
-- Assumes nothing.
use Rattle.std.specs.Prelude.{◌≡◌, ℕ, ◌+◌, ◌≤◌, true, T, List}
use mathlib.Core.List.{Memᴰ}
use Rattle.model.specs.Lists.{keep}
use Rattle.model.specs.State.{Machine, Task, on_machine}
use Rattle.model.specs.Calls.{Seen, orders}
use Rattle.model.specs.World.{Agent}
use Rattle.rest.specs.Rounds.{Anyhow, Roomy}
use Rattle.rest.specs.Rest.{AtRest, enough, SomeMachine, said_by}
use Rattle.rest.specs.Sooner.{Apart, enough_apart}
use Rattle.together.specs.Real.{up, Real, Move, Came}
use Rattle.together.specs.Now.{herd_state}
use Rattle.calm.specs.Rounds.{HasObeyed, CalmMove, CalmRun, CalmRound, CalmRounds}

-- whatever calm moves follow, whether there is room or not, no task changes, and it is at rest
abbrev pub RemainsAtRest : Real → Type 0
RemainsAtRest v = (ks : List ℕ) (x : Real) → CalmRun Anyhow ks v x → ((herd_state x).tasks ≡ (herd_state v).tasks) × AtRest (herd_state x)

-- From any world that can come to be as it runs, whatever happened before, if the herd has a machine (w: at the beginning):
-- a first round, in which each machine is heard of (u), and then n rounds, in which after each move numbers are left and there is room for one more task of each job (v: at the end).
-- If n + 1 is enough for the jobs and tasks at the beginning, the state that the herd's words stand for is at rest at the end, and stays so: no task changes any more.
abbrev pub ReallyRests : Type 0
ReallyRests =
    (w u v : Real) (n : ℕ) → Came w → SomeMachine (herd_state w) → CalmRound Anyhow w u → CalmRounds Roomy n u v → enough (herd_state w) ≤ n + 1 → AtRest (herd_state v) × RemainsAtRest v

-- The same by fewer rounds, where the limit of 2,048 tasks cannot bind.
abbrev pub ReallySooner : Type 0
ReallySooner =
    (w u v : Real) (n : ℕ) → Came w → SomeMachine (herd_state w) → Apart (herd_state w) → CalmRound Anyhow w u → CalmRounds Roomy n u v → enough_apart (herd_state w) ≤ n + 1 → AtRest (herd_state v) × RemainsAtRest v

-- on machine i, with agent a, exactly the tasks that the herd has there are ordered and run, each of them ready
pub record RunsJust (w : Real) (i : ℕ) (a : Agent) : Type 0 where
  pub ordered : a.ordered ≡ orders (keep (on_machine i) (herd_state w).tasks)
  pub all : (t : Task) → Memᴰ t (herd_state w).tasks → T (on_machine i t) → Memᴰ (record { id = t.id; ready = true }) a.runs
  pub only : (x : Seen) → Memᴰ x a.runs → (t : Task) × Memᴰ t (herd_state w).tasks × T (on_machine i t) × (t.id ≡ x.id) × (x.ready ≡ true)

-- Where it is at rest (v) after a round from any world that can come to be (w), and one more round is made (to x) and any calm moves follow (to y):
-- on each machine of the herd whose agent is up, has obeyed what it was answered, and would report all that is ordered as ready, there really runs exactly what the herd lists.
abbrev pub ReallyAsListed : Type 0
ReallyAsListed =
    (w v x y : Real) (ks : List ℕ) → Came w → CalmRound Anyhow w v → AtRest (herd_state v) → CalmRound Anyhow v x → CalmRun Anyhow ks x y →
    (m : Machine) → Memᴰ m (herd_state y).machines → (a : Agent) → y.body m.num ≡ up a → HasObeyed y.came m.num a → ((s : Seen) → Memᴰ s (said_by a) → s.ready ≡ true) → RunsJust y m.num a

-- Each calm move is a move of the world as it runs: rounds are made of nothing else.
abbrev pub CalmIsMove : Type 0
CalmIsMove = (ks : List ℕ) (w v : Real) → CalmMove ks w v → Move w v
