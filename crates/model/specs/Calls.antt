-- What people, the clock and agents say to the herd, what it answers, and what is there afterwards.
-- Assumes nothing.
use Rattle.std.specs.Prelude.{ℕ, ◌+◌, Bool, true, false, cond, not, ◌&&◌, ◌||◌, ltb, List, [], ◌∷◌, ◌++◌, map, length, ◌==◌, nat_eq, nat_le, nat_lt}
use Rattle.model.specs.Lists.{some, every, keep, find, change, none, same}
use Rattle.model.specs.State.{Name, Machine, Spec, Job, Phase, Told, Ready, Task, State, is_ready_lem, is_ending, is_job, is_machine, of_job, on_machine, phased, with_tasks, with_machines, with_jobs}
use Rattle.model.specs.Settle.{settle, present}

-- a task in a report: it is ordered there, and runs and is ready, or not
pub record Seen : Type 0 where
  pub id : ℕ
  pub ready : Bool

pub data Call : Type 0 where
  SetJob : Name → Spec → (count least most : ℕ) → Call
  EndJob : Name → Call
  AddMachine : (num cpu mem : ℕ) → (tags : List ℕ) → Call
  Close Reopen : (num : ℕ) → Call
  -- a person says that a machine is gone for good, and has switched it off: nothing runs on it
  Forget : (num : ℕ) → Call
  -- an agent reports: its machine, its life, the number of this report, and all that is ordered there
  Report : (num life number : ℕ) → List Seen → Call
  -- the time, in ms
  Tick : (ms : ℕ) → Call
  Show : Name → Call

-- a task that is to run, and what it is like
pub record Order : Type 0 where
  pub id : ℕ
  pub spec : Spec

pub record Line : Type 0 where
  pub id : ℕ
  pub version : ℕ
  pub phase : Phase
  pub machine : ℕ

pub data Reply : Type 0 where
  -- turned away, by number
  No : ℕ → Reply
  Yes : Reply
  -- to a report of that number: all that is to run there, and nothing else
  Run : (number : ℕ) → List Order → Reply
  Lines : List Line → Reply

pub record Out : Type 0 where
  pub reply : Reply
  pub state : State

abbrev pub no : ℕ → State → Out
no k s = record { reply = No k; state = s }

-- what is accepted is followed by a pass
abbrev pub yes' : State → Out
yes' s = record { reply = Yes; state = settle s }

-- SETTING A JOB

unfoldable pub alike : Bool → Bool → Bool
alike true b = b
alike false b = not b

-- tags in another order are another spec
abbrev pub same_spec_lem : Spec → Spec → Bool
same_spec_lem a b = a.image == b.image && a.cpu == b.cpu && a.mem == b.mem && same a.tags b.tags && alike a.apart b.apart

abbrev pub small : ℕ → Bool
small n = nat_lt n 4294967296

abbrev pub spec_ok_lem : Spec → Bool
spec_ok_lem a = small a.image && nat_lt a.cpu 1000001 && nat_lt a.mem 1000001 && nat_le (length a.tags) 8 && every small a.tags

-- least, count and most are in order, and not all three alike unless nothing is wanted: a job of which neither one fewer nor one more may be there could never be changed
abbrev pub job_ok : Name → Spec → ℕ → ℕ → ℕ → Bool
job_ok n a c l m = nat_lt 0 (length n) && nat_le (length n) 64 && every (λ (b : ℕ). ltb b 256) n && spec_ok_lem a && nat_le l c && nat_le c m && nat_le m 256 && (nat_lt c m || nat_lt l c || c == 0)

unfoldable pub all_most : List Job → ℕ
all_most [] = 0
all_most (j ∷ js) = j.most + all_most js

abbrev pub others : Name → List Job → List Job
others n js = keep (λ (j : Job). not (is_job n j)) js

abbrev pub new_job : Name → Spec → ℕ → ℕ → ℕ → Job
new_job n a c l m = record { name = n; version = 1; spec = a; count = c; least = l; most = m }

-- a job that is there: its next version if its spec is another
abbrev pub reset_job_lem : Name → Spec → ℕ → ℕ → ℕ → Job → Job
reset_job_lem n a c l m x = record { name = n; version = cond (same_spec_lem a x.spec) x.version (x.version + 1); spec = a; count = c; least = l; most = m }

unfoldable pub sets_job : Name → Spec → ℕ → ℕ → ℕ → List Job → State → Out
sets_job n a c l m [] s = cond (nat_le 256 (length s.jobs)) (no 8 s) (yes' (with_jobs (s.jobs ++ (new_job n a c l m ∷ [])) s))
sets_job n a c l m (j ∷ js) s =
    cond (not (same_spec_lem a j.spec) && nat_le 4294967295 j.version) (no 8 s) (yes' (with_jobs (change (is_job n) (reset_job_lem n a c l m) s.jobs) s))

-- A REPORT

-- of a task that is listed twice the first counts; tasks that the herd doesn't know of don't
unfoldable pub seen_as : ℕ → List Seen → List Seen
seen_as i xs = find (λ (x : Seen). nat_eq i x.id) xs

-- a task told in this life: an ending one is gone if it isn't listed; another is ready if the report says so, else told
unfoldable pub heard_of_lem : List Seen → Task → List Task
heard_of_lem [] t = cond (is_ending t.phase) [] (phased Told t ∷ [])
heard_of_lem (x ∷ xs) t = cond (is_ending t.phase) (t ∷ []) (phased (cond x.ready Ready Told) t ∷ [])

-- tasks told in another life of the agent are gone
unfoldable pub heard_all : (num life : ℕ) → List Seen → List Task → List Task
heard_all k l xs [] = []
heard_all k l xs (t ∷ ts) = cond (on_machine k t) (cond (l == t.life) (heard_of_lem (seen_as t.id xs) t ++ heard_all k l xs ts) (heard_all k l xs ts)) (t ∷ heard_all k l xs ts)

abbrev pub heard_from : ℕ → ℕ → ℕ → Machine → Machine
heard_from l n now m = record { num = m.num; cpu = m.cpu; mem = m.mem; tags = m.tags; open' = m.open'; life = l; number = n; heard = now }

unfoldable pub orders : List Task → List Order
orders [] = []
orders (t ∷ ts) = cond (is_ending t.phase) (orders ts) (record { id = t.id; spec = t.spec } ∷ orders ts)

abbrev pub answers_report : ℕ → ℕ → State → Out
answers_report k n s = record { reply = Run n (orders (keep (on_machine k) s.tasks)); state = s }

-- the state in which the pass begins that answers a report
abbrev pub heard : ℕ → ℕ → ℕ → List Seen → State → State
heard k l n xs s = with_machines (change (is_machine k) (heard_from l n s.now) s.machines) (with_tasks (heard_all k l xs s.tasks) s)

-- a report of an earlier life, or of the same life and no higher number, is no news
unfoldable pub reports : ℕ → ℕ → ℕ → List Seen → List Machine → State → Out
reports k l n xs [] s = no 2 s
reports k l n xs (m ∷ ms) s =
    cond (nat_lt l m.life || (l == m.life && nat_le n m.number)) (no 5 s)
    (answers_report k n (settle (heard k l n xs s)))

-- MACHINES AND THE TIME

abbrev pub new_machine : ℕ → ℕ → ℕ → List ℕ → Machine
new_machine k c m tags = record { num = k; cpu = c; mem = m; tags = tags; open' = true; life = 0; number = 0; heard = 0 }

abbrev pub opened : Bool → Machine → Machine
opened b m = record { num = m.num; cpu = m.cpu; mem = m.mem; tags = m.tags; open' = b; life = m.life; number = m.number; heard = m.heard }

-- a machine that is forgotten goes with all that was on it
abbrev pub forgotten : ℕ → State → State
forgotten k s = with_machines (keep (λ (m : Machine). not (is_machine k m)) s.machines) (with_tasks (keep (λ (t : Task). not (on_machine k t)) s.tasks) s)

-- a ready task on a machine that is no longer present is only told
unfoldable pub unsure : ℕ → List Machine → Task → Task
unsure now ms t = cond (is_ready_lem t.phase && not (some (λ (m : Machine). is_machine t.machine m && present now m) ms)) (phased Told t) t

-- time doesn't go back
abbrev pub later : ℕ → ℕ → ℕ
later t now = cond (nat_lt now t) t now

abbrev pub timed : ℕ → State → State
timed t s = record { now = t; next_id = s.next_id; machines = s.machines; jobs = s.jobs; tasks = map (unsure t s.machines) s.tasks }

unfoldable pub lines_of : List Task → List Line
lines_of [] = []
lines_of (t ∷ ts) = record { id = t.id; version = t.version; phase = t.phase; machine = t.machine } ∷ lines_of ts

-- EVERY CALL

unfoldable pub acts : Call → State → Out
acts (SetJob n a c l m) s = cond (job_ok n a c l m) (cond (nat_lt 2048 (m + all_most (others n s.jobs))) (no 8 s) (sets_job n a c l m (find (is_job n) s.jobs) s)) (no 1 s)
acts (EndJob n) s = cond (none (find (is_job n) s.jobs)) (no 2 s) (yes' (with_jobs (keep (λ (j : Job). not (is_job n j)) s.jobs) s))
acts (AddMachine k c m tags) s =
    cond (not (none (find (is_machine k) s.machines))) (no 3 s) (cond (nat_lt 65535 k || nat_lt 1000000000 c || nat_lt 1000000000 m || nat_lt 16 (length tags) || not (every small tags)) (no 1 s) (cond (nat_le 256 (length s.machines)) (no 8 s)
    (yes' (with_machines (s.machines ++ (new_machine k c m tags ∷ [])) s))))
acts (Close k) s = cond (none (find (is_machine k) s.machines)) (no 2 s) (yes' (with_machines (change (is_machine k) (opened false) s.machines) s))
acts (Reopen k) s = cond (none (find (is_machine k) s.machines)) (no 2 s) (yes' (with_machines (change (is_machine k) (opened true) s.machines) s))
acts (Forget k) s = cond (none (find (is_machine k) s.machines)) (no 2 s) (yes' (forgotten k s))
acts (Report k l n xs) s = cond (nat_lt 4611686018427387904 l || nat_lt 4611686018427387904 n || nat_lt 2048 (length xs)) (no 1 s) (reports k l n xs (find (is_machine k) s.machines) s)
acts (Tick t) s = cond (t == 0 || nat_lt 4611686018427387904 t) (no 1 s) (yes' (timed (later t s.now) s))
acts (Show n) s = record { reply = Lines (lines_of (keep (of_job n) s.tasks)); state = s }

abbrev pub is_tick : Call → Bool
is_tick (SetJob n a c l m) = false
is_tick (EndJob n) = false
is_tick (AddMachine k c m t) = false
is_tick (Close k) = false
is_tick (Reopen k) = false
is_tick (Forget k) = false
is_tick (Report k l n xs) = false
is_tick (Tick t) = true
is_tick (Show n) = false

-- nothing is done before a time was told
abbrev pub does : Call → State → Out
does c s = cond (s.now == 0 && not (is_tick c)) (no 10 s) (acts c s)

-- GOING DARK: what the herd still has when its power failed and came back. Jobs, machines and tasks stay as they were answered; the time, and who was heard, are lost, so that ready tasks are told.

abbrev pub unheard : Machine → Machine
unheard m = record { num = m.num; cpu = m.cpu; mem = m.mem; tags = m.tags; open' = m.open'; life = m.life; number = m.number; heard = 0 }

abbrev pub unready : Task → Task
unready t = cond (is_ready_lem t.phase) (phased Told t) t

abbrev pub down : State → State
down s = record { now = 0; next_id = s.next_id; jobs = s.jobs; machines = map unheard s.machines; tasks = map unready s.tasks }

-- the calls that are built first: jobs aren't ended, machines aren't closed, reopened or forgotten
abbrev pub core : Call → Bool
core (SetJob n a c l m) = true
core (EndJob n) = false
core (AddMachine k c m t) = true
core (Close k) = false
core (Reopen k) = false
core (Forget k) = false
core (Report k l n xs) = true
core (Tick t) = true
core (Show n) = true
