-- What there is: machines, the jobs that are wanted, and their tasks.
-- Assumes nothing.
use Rattle.std.specs.Prelude.{ℕ, ◌+◌, Bool, true, false, not, ◌&&◌, List, [], ◌∷◌, ◌==◌}
use Rattle.model.specs.Lists.{same}

-- a job's name, byte by byte
abbrev pub Name : Type 0
Name = List ℕ

-- A MACHINE, by its number. Its agent is the program on it that starts and stops tasks; a life of the agent is one stretch from its coming up to its falling, and lives are counted.
-- open': it takes new tasks. life: of its agent, as last heard. number: of the last report that was heard in that life. heard: the told time of that report, and 0 if none came since the herd woke.
pub record Machine : Type 0 where
  pub num : ℕ
  pub cpu : ℕ
  pub mem : ℕ
  pub tags : List ℕ
  pub open' : Bool
  pub life : ℕ
  pub number : ℕ
  pub heard : ℕ

-- What a task of a job is like: its program's image, what it needs, which tags its machine must have, and whether no two of the job may be on one machine.
pub record Spec : Type 0 where
  pub image : ℕ
  pub cpu : ℕ
  pub mem : ℕ
  pub tags : List ℕ
  pub apart : Bool

-- A JOB is what is wanted: count tasks of its present version, of all versions together never fewer than least ready by the herd's own doing, and never more than most at once.
-- A job whose spec changes gets its next version.
pub record Job : Type 0 where
  pub name : Name
  pub version : ℕ
  pub spec : Spec
  pub count : ℕ
  pub least : ℕ
  pub most : ℕ

-- A task waits for a machine; or it is on one: told to its agent, heard to be ready, or ending, until the agent is heard to have it no more.
pub data Phase : Type 0 where
  Waiting : Phase
  Told : Phase
  Ready : Phase
  Ending : Phase

-- A TASK is one run of a job's program, by a number that is given once. It keeps the version and the spec that it was made with. machine and life (of the agent there) count once it no longer waits.
pub record Task : Type 0 where
  pub id : ℕ
  pub job : Name
  pub version : ℕ
  pub spec : Spec
  pub phase : Phase
  pub machine : ℕ
  pub life : ℕ

-- now: the last told time, 0 before the first. Jobs stand in the order in which they were set first, machines in that in which they were added, tasks by number.
pub record State : Type 0 where
  pub now : ℕ
  pub next_id : ℕ
  pub machines : List Machine
  pub jobs : List Job
  pub tasks : List Task

abbrev pub blank : State
blank = record { now = 0; next_id = 1; machines = []; jobs = []; tasks = [] }

-- TESTS

abbrev pub is_waiting : Phase → Bool
is_waiting Waiting = true
is_waiting Told = false
is_waiting Ready = false
is_waiting Ending = false

abbrev pub is_ready_lem : Phase → Bool
is_ready_lem Waiting = false
is_ready_lem Told = false
is_ready_lem Ready = true
is_ready_lem Ending = false

abbrev pub is_ending : Phase → Bool
is_ending Waiting = false
is_ending Told = false
is_ending Ready = false
is_ending Ending = true

abbrev pub is_task : ℕ → Task → Bool
is_task i t = i == t.id

abbrev pub is_job : Name → Job → Bool
is_job n j = same n j.name

abbrev pub is_machine : ℕ → Machine → Bool
is_machine k m = k == m.num

abbrev pub of_job : Name → Task → Bool
of_job n t = same n t.job

-- it is on that machine, also while it ends
abbrev pub on_machine : ℕ → Task → Bool
on_machine k t = not (is_waiting t.phase) && k == t.machine

-- CHANGES OF ONE PART

abbrev pub phased : Phase → Task → Task
phased p t = record { id = t.id; job = t.job; version = t.version; spec = t.spec; phase = p; machine = t.machine; life = t.life }

abbrev pub placed : ℕ → ℕ → Task → Task
placed k l t = record { id = t.id; job = t.job; version = t.version; spec = t.spec; phase = Told; machine = k; life = l }

abbrev pub with_tasks : List Task → State → State
with_tasks ts s = record { now = s.now; next_id = s.next_id; machines = s.machines; jobs = s.jobs; tasks = ts }

abbrev pub with_machines : List Machine → State → State
with_machines ms s = record { now = s.now; next_id = s.next_id; machines = ms; jobs = s.jobs; tasks = s.tasks }

abbrev pub with_jobs : List Job → State → State
with_jobs js s = record { now = s.now; next_id = s.next_id; machines = s.machines; jobs = js; tasks = s.tasks }

-- SUMS

unfoldable pub cpu_of : List Task → ℕ
cpu_of [] = 0
cpu_of (t ∷ ts) = t.spec.cpu + cpu_of ts

unfoldable pub mem_of : List Task → ℕ
mem_of [] = 0
mem_of (t ∷ ts) = t.spec.mem + mem_of ts
