-- The herd comes to rest: what rest is, how many rounds are enough, and what is promised.
-- Assumes nothing.
use Rattle.std.specs.Prelude.{◌≡◌, ℕ, ◌+◌, ◌-◌, ◌*◌, ◌<◌, ◌≤◌, Bool, not, ◌&&◌, T, List, [], ◌∷◌, length, nat_eq}
use mathlib.Core.List.{Memᴰ}
use Rattle.model.specs.Lists.{keep}
use Rattle.model.specs.State.{Machine, Job, Task, State, is_ready_lem, is_ending, of_job}
use Rattle.model.specs.Settle.{mine}
use Rattle.model.specs.Calls.{Seen, Call, Report, Order, Run, does}
use Rattle.model.specs.World.{Agent, World, may_run, Reach}
use Rattle.rest.specs.Rounds.{Course, Anyhow, Roomy, Round, Rounds}

-- WHAT REST IS

-- each task is ready, of a job that is wanted and of its present version, and each job has as many as are wanted: nothing else is there
pub record AtRest (s : State) : Type 0 where
  pub ready : (t : Task) → Memᴰ t s.tasks → T (is_ready_lem t.phase)
  pub wanted : (t : Task) → Memᴰ t s.tasks → (j : Job) × Memᴰ j s.jobs × (j.name ≡ t.job) × (j.version ≡ t.version)
  pub exact : (j : Job) → Memᴰ j s.jobs → length (mine j s.tasks) ≡ j.count

-- WHAT IS LEFT TO DO

abbrev pub is_alive : Task → Bool
is_alive t = not (is_ending t.phase)

-- a task of a job's present version that isn't ending
abbrev pub is_new : Job → Task → Bool
is_new j t = (of_job j.name t && is_alive t) && nat_eq t.version j.version

unfoldable pub missing : List Job → List Task → ℕ
missing [] ts = 0
missing (j ∷ js) ts = (j.count - length (keep (is_new j) ts)) + missing js ts

unfoldable pub wanted_of : List Job → ℕ
wanted_of [] = 0
wanted_of (j ∷ js) = j.count + wanted_of js

-- each task that isn't ending once, each that is missing twice: one that is made to end and one that comes both make it less
unfoldable pub to_do : List Job → List Task → ℕ
to_do js ts = length (keep is_alive ts) + 2 * missing js ts

-- so many rounds are enough
abbrev pub enough : State → ℕ
enough s = 3 + 2 * (length (keep is_alive s.tasks) + wanted_of s.jobs)

-- THE PROMISE

-- there is a machine
abbrev pub SomeMachine : State → Type 0
SomeMachine s = (m : Machine) × Memᴰ m s.machines

-- whatever calm steps follow, whether there is room or not, no task changes, and it is at rest
abbrev pub StaysAtRest : World → Type 0
StaysAtRest v = (ks : List ℕ) (x : World) → Course Anyhow ks v x → (x.herd.tasks ≡ v.herd.tasks) × AtRest x.herd

-- From any world that can come to be, whatever happened before, if there is a machine (w: at the beginning):
-- a first round, in which each machine is heard of (u), and then n rounds, in which after each step numbers are left and there is room for one more task of each job (v: at the end).
-- If n + 1 is enough for the jobs and tasks at the beginning, it is at rest at the end, and stays so: no task changes any more.
abbrev pub ComesToRest : Type 0
ComesToRest =
    (w u v : World) (n : ℕ) → Reach w → SomeMachine w.herd → Round Anyhow w u → Rounds Roomy n u v → enough w.herd ≤ n + 1 → AtRest v.herd × StaysAtRest v

-- ROUNDS CAN BE MADE

-- what an agent's next report says
abbrev pub said_by : Agent → List Seen
said_by a = may_run a.runs a.ordered

abbrev pub next_report : World → ℕ → Call
next_report w i = Report i (w.agent i).life ((w.agent i).number + 1) (said_by (w.agent i))

-- as long as the numbers of lives and reports aren't at their end, and a time was told, the herd answers the next report of a machine that it has
abbrev pub IsAnswered : Type 0
IsAnswered =
    (w : World) (m : Machine) → Reach w → Memᴰ m w.herd.machines → 0 < w.herd.now → (w.agent m.num).life ≤ 4611686018427387904 → (w.agent m.num).number < 4611686018427387904 →
    (os : List Order) × ((does (next_report w m.num) w.herd).reply ≡ Run ((w.agent m.num).number + 1) os)

-- and where all agents are up too, a round can be made
abbrev pub RoundCanBe : Type 0
RoundCanBe =
    (w : World) → Reach w → 0 < w.herd.now →
    ((m : Machine) → Memᴰ m w.herd.machines → (0 < (w.agent m.num).life) × ((w.agent m.num).life ≤ 4611686018427387904) × ((w.agent m.num).number + length w.herd.machines ≤ 4611686018427387904)) →
    (u : World) × Round Anyhow w u

-- and so any number of rounds, one after the other, as long as the numbers suffice
abbrev pub RoundsCanBe : Type 0
RoundsCanBe =
    (w : World) (n : ℕ) → Reach w → 0 < w.herd.now →
    ((m : Machine) → Memᴰ m w.herd.machines → (0 < (w.agent m.num).life) × ((w.agent m.num).life ≤ 4611686018427387904) × ((w.agent m.num).number + n * length w.herd.machines ≤ 4611686018427387904)) →
    (v : World) × Rounds Anyhow n w v
