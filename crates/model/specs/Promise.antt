-- What is promised. Each is a type; a proof of the type is the theorem.
-- Assumes nothing.
use Rattle.std.specs.Prelude.{◌≡◌, ℕ, suc, ◌≤◌, Bool, true, false, not, ◌&&◌, ◌||◌, T, ◌⊎◌, List, [], ◌∷◌, ◌++◌, length, ◌==◌, nat_eq, nat_le, nat_lt}
use mathlib.Core.List.{Memᴰ}
use Rattle.model.specs.Lists.{some, every, find}
use Rattle.model.specs.State.{Name, Machine, Spec, Job, Task, State, blank, is_waiting, is_job, is_machine, cpu_of, mem_of}
use Rattle.model.specs.Settle.{settle, here, takes, ready_ones, mine}
use Rattle.model.specs.Calls.{Seen, Call, SetJob, Reply, No, does, down, core}
use Rattle.model.specs.World.{World, Reach}
use Rattle.model.specs.Memory.{Memory, done, Code, Meant, Right}
use Rattle.model.specs.Right.{RightBy, RunsRight, RunsFit, Darkens}

-- OF THE HERD'S OWN MACHINE

-- a call that is built is answered as it means; any other is answered by 12, and nothing changes
pub data Answers (can : Call → Bool) : Call → State → Reply → State → Type 0 where
  says_so : (c : Call) (s : State) → T (can c) → Answers can c s (does c s).reply (does c s).state
  not_yet : (c : Call) (s : State) → (T (can c) → ⊥) → Answers can c s (No 12) s

abbrev pub herd : (Call → Bool) → Meant Call Reply
herd can = record { State = State; start = blank; May = Answers can; dark = down }

-- the code is right for the meaning of the calls that are built: what was answered stands, wherever the power fails
abbrev pub Whole : (Call → Bool) → Code Call Reply → Type 1
Whole can e = Right (herd can) e

abbrev pub CoreWhole : Code Call Reply → Type 1
CoreWhole e = Whole core e

-- going dark twice is going dark once, and at the beginning the dark changes nothing, whatever is built
abbrev pub DarkOnce : Type 0
DarkOnce = (can : Call → Bool) → Darkens (herd can)

-- the code that has built nothing yet, and answers every call by 12: it is right for that, and so are its runs. (That what is said of right code can be met, and can stand in a contract.)
abbrev pub nothing : Call → Bool
nothing c = false

abbrev pub silent : Code Call Reply
silent = record { Mind = Unit {0}; wakes = done tt; does = λ c x. done (record { reply = No 12; mind = tt }) }

abbrev pub BlankTold : Memory → State → Type 0
BlankTold m s = s ≡ blank

abbrev pub BlankAwake : Unit {0} → Memory → State → Type 0
BlankAwake x m s = s ≡ blank

abbrev pub SilentRight : Type 0
SilentRight = RightBy (herd nothing) silent BlankTold BlankAwake × RunsRight (herd nothing) silent × RunsFit silent

-- OF ALL TOGETHER, at every moment of every run, with agents by their rules, over lines that lose, double, delay and reorder, and with machines and the herd falling at any time

abbrev pub ran : World → ℕ → List Seen
ran w i = (w.agent i).runs

unfoldable pub seen_in : ℕ → List Seen → Bool
seen_in i [] = false
seen_in i (x ∷ xs) = i == x.id || seen_in i xs

-- a. No machine ever runs more than it holds: what runs is among the tasks that the herd counts on it, and these fit.
abbrev pub NeverTooMuch : Type 0
NeverTooMuch =
    (w : World) → Reach w → (i : ℕ) (m : Machine) → Memᴰ m w.herd.machines → m.num ≡ i → (m.life ≡ (w.agent i).life) →
    ((x : Seen) → Memᴰ x (ran w i) → T (some (λ (t : Task). nat_eq t.id x.id) (here m w.herd.tasks))) ×
    (cpu_of (here m w.herd.tasks) ≤ m.cpu) × (mem_of (here m w.herd.tasks) ≤ m.mem)

-- the same in whatever life the machine's agent is
abbrev pub NeverTooMuchInAnyLife : Type 0
NeverTooMuchInAnyLife =
    (w : World) → Reach w → (i : ℕ) (m : Machine) → Memᴰ m w.herd.machines → m.num ≡ i →
    ((x : Seen) → Memᴰ x (ran w i) → T (some (λ (t : Task). nat_eq t.id x.id) (here m w.herd.tasks))) ×
    (cpu_of (here m w.herd.tasks) ≤ m.cpu) × (mem_of (here m w.herd.tasks) ≤ m.mem)

-- and where anything runs, the herd has that machine, in that life
abbrev pub Anchored : Type 0
Anchored = (w : World) → Reach w → (i : ℕ) (x : Seen) → Memᴰ x (ran w i) → (m : Machine) × Memᴰ m w.herd.machines × (m.num ≡ i) × (m.life ≡ (w.agent i).life)

-- b. No task runs at two places, nor twice at one.
abbrev pub NeverTwice : Type 0
NeverTwice =
    (w : World) → Reach w → (i j k : ℕ) → T (seen_in k (ran w i)) → (T (seen_in k (ran w j)) → i ≡ j) × ((before behind : List Seen) (b : Bool) → ran w i ≡ before ++ record { id = k; ready = b } ∷ behind → T (not (seen_in k before)) × T (not (seen_in k behind)))

-- OF STATES AS THEY COME TO BE: jobs by different names, machines by different numbers, tasks by rising numbers below the next

unfoldable pub once_jobs : List Job → Bool
once_jobs [] = true
once_jobs (j ∷ js) = not (some (is_job j.name) js) && once_jobs js

unfoldable pub once_machines : List Machine → Bool
once_machines [] = true
once_machines (m ∷ ms) = not (some (is_machine m.num) ms) && once_machines ms

unfoldable pub rising_tasks : ℕ → List Task → Bool
rising_tasks n [] = true
rising_tasks n (t ∷ ts) = nat_le n t.id && rising_tasks (suc t.id) ts

abbrev pub Good : State → Type 0
Good s = T (once_jobs s.jobs) × T (once_machines s.machines) × T (rising_tasks 0 s.tasks) × T (every (λ (t : Task). nat_lt t.id s.next_id) s.tasks)

abbrev pub StaysGood : Type 0
StaysGood = (s : State) (c : Call) → Good s → Good (does c s).state × Good (down s) × Good (settle s)

-- c. Of a job there are never more tasks than its most, as long as its most isn't set lower, and it isn't set anew while tasks of an ended job of its name are there.
unfoldable pub all_ok : State → List Job → Bool
all_ok s [] = true
all_ok s (j ∷ js) = nat_le (length (mine j s.tasks)) j.most && all_ok s js

pub data Raises : Call → State → Type 0 where
  set : (n : Name) (a : Spec) (c l m : ℕ) (s : State) → ((j : Job) → Memᴰ j s.jobs → j.name ≡ n → j.most ≤ m) → ((t : Task) → Memᴰ t s.tasks → t.job ≡ n → (j : Job) × Memᴰ j s.jobs × (j.name ≡ n)) → Raises (SetJob n a c l m) s

abbrev pub SetsAJob : Call → Type 0
SetsAJob c = (n : Name) × (a : Spec) × (k : ℕ) × (l : ℕ) × (m : ℕ) × (c ≡ SetJob n a k l m)

abbrev pub NeverMore : Type 0
NeverMore = (c : Call) (s : State) → Good s → T (all_ok s s.jobs) → (SetsAJob c → Raises c s) → T (all_ok (does c s).state (does c s).state.jobs)

-- d. A pass never takes a ready task away where that would leave fewer ready than are to stay.
abbrev pub LeastStay : Type 0
LeastStay =
    (s : State) (j : Job) → Good s → Memᴰ j s.jobs → find (is_job j.name) s.jobs ≡ j ∷ [] →
    (j.least ≤ length (ready_ones (mine j (settle s).tasks))) ⊎ (length (ready_ones (mine j s.tasks)) ≤ length (ready_ones (mine j (settle s).tasks)))

-- the same without saying that the job is found by its name: in a good state it is
abbrev pub LeastStays : Type 0
LeastStays =
    (s : State) (j : Job) → Good s → Memᴰ j s.jobs →
    (j.least ≤ length (ready_ones (mine j (settle s).tasks))) ⊎ (length (ready_ones (mine j s.tasks)) ≤ length (ready_ones (mine j (settle s).tasks)))

-- e. After a pass no task waits that a machine would take.
abbrev pub WaitsForRoom : Type 0
WaitsForRoom =
    (s : State) (t : Task) (m : Machine) → Good s → Memᴰ t (settle s).tasks → T (is_waiting t.phase) → Memᴰ m s.machines → T (takes (settle s).now t (settle s).tasks m) → ⊥
