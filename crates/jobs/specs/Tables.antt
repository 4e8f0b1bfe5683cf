-- The state that the words stand for. Any words stand for one.
-- Assumes nothing.
use Rattle.std.specs.Prelude.{◌≡◌, ℕ, ◌+◌, ◌-◌, ◌*◌, ◌/◌, ◌%◌, ◌^◌, ◌<◌, min, Bool, true, cond, not, List, [], ◌∷◌, ◌++◌, map, length, take, drop, Option, MatchOption, ◌==◌, ◌≢◌, slice_index}
use Rattle.std.specs.List.{range_with_len}
use Rattle.model.specs.Lists.{find}
use Rattle.model.specs.State as s
use Rattle.model.specs.State.{with_jobs, with_machines}
use Rattle.jobs.specs.Layout.{job_base, machine_base, task_base, ready_base}
use Rattle.jobs.specs.Rows.{at, row_at, span}

-- A KIND: 23 words that a job has, and each of its tasks: version, spec (13), name (9)

abbrev pub low : ℕ → ℕ
low w = w % 4294967296

abbrev pub flag : ℕ → Bool
flag w = not (w == 0)

-- byte k of a name, high byte of a word first
abbrev pub byte_at : List ℕ → ℕ → ℕ
byte_at ws k = slice_index ws (k / 8) / 2 ^ (56 - 8 * (k % 8)) % 256

unfoldable pub bytes_of : ℕ → List ℕ → s.Name
bytes_of n ws = map (byte_at ws) (range_with_len 0 n)

abbrev pub version_from_lem : List ℕ → ℕ
version_from_lem p = low (at p 0)

abbrev pub spec_from_lem : List ℕ → s.Spec
spec_from_lem p = record { image = low (at p 1); cpu = low (at p 2); mem = low (at p 3); tags = take (min (at p 5) 8) (map low (take 8 (drop 6 p))); apart = flag (at p 4) }

abbrev pub name_from_lem : List ℕ → s.Name
name_from_lem p = bytes_of (min (at p 14) 64) (take 8 (drop 15 p))

-- TASKS: number (0: a hole), phase (0 waiting, 1 on a machine, else ending), machine, life, kind. Whether it is ready stands in live.

abbrev pub phase_from_lem : ℕ → ℕ → s.Phase
phase_from_lem w ready = cond (w == 0) s.Waiting (cond (w == 1) (cond (ready == 0) s.Told s.Ready) s.Ending)

abbrev pub task_from : List ℕ → ℕ → s.Task
task_from r ready =
    record { id = at r 0; job = name_from_lem (drop 4 r); version = version_from_lem (drop 4 r); spec = spec_from_lem (drop 4 r); phase = phase_from_lem (at r 1) ready; machine = cond (at r 1 == 0) 0 (at r 2 % 65536); life = cond (at r 1 == 0) 0 (at r 3) }

abbrev pub task_slot : List ℕ → ℕ → List s.Task
task_slot r ready = cond (at r 0 == 0) [] (task_from r ready ∷ [])

abbrev pub task_row_lem : List ℕ → ℕ → List ℕ
task_row_lem home i = row_at task_base 27 home i

abbrev pub task_at : List ℕ → List ℕ → ℕ → List s.Task
task_at home live i = task_slot (task_row_lem home i) (at live (ready_base + i))

abbrev pub task_rows_lem : List ℕ → ℕ
task_rows_lem home = min (at home 3) 2048

abbrev pub tasks_of : List ℕ → List ℕ → List s.Task
tasks_of home live = span (task_at home live) 0 (task_rows_lem home)

-- JOBS: kind (version 0: a hole), count, least, most

abbrev pub job_from_lem : List ℕ → s.Job
job_from_lem r = record { name = name_from_lem (take 23 r); version = version_from_lem (take 23 r); spec = spec_from_lem (take 23 r); count = at r 23 % 65536; least = at r 24 % 65536; most = at r 25 % 65536 }

abbrev pub job_slot : List ℕ → List s.Job
job_slot r = cond (at r 0 == 0) [] (job_from_lem r ∷ [])

abbrev pub job_row_lem : List ℕ → ℕ → List ℕ
job_row_lem home i = row_at job_base 26 home i

abbrev pub job_at : List ℕ → ℕ → List s.Job
job_at home i = job_slot (job_row_lem home i)

abbrev pub job_rows_lem : List ℕ → ℕ
job_rows_lem home = min (at home 1) 256

abbrev pub jobs_of : List ℕ → List s.Job
jobs_of home = span (job_at home) 0 (job_rows_lem home)

-- MACHINES: a flag (0: a hole), number, cpu, memory, open, life, number of the last report, number of tags, tags. When it was heard stands in live.

abbrev pub machine_from : List ℕ → ℕ → s.Machine
machine_from r heard =
    record { num = at r 1 % 65536; cpu = low (at r 2); mem = low (at r 3); tags = take (min (at r 7) 16) (map low (drop 8 r)); open' = flag (at r 4); life = at r 5; number = at r 6; heard = heard }

abbrev pub machine_slot : List ℕ → ℕ → List s.Machine
machine_slot r heard = cond (at r 0 == 0) [] (machine_from r heard ∷ [])

abbrev pub machine_row_lem : List ℕ → ℕ → List ℕ
machine_row_lem home i = row_at machine_base 24 home i

abbrev pub machine_at : List ℕ → List ℕ → ℕ → List s.Machine
machine_at home live i = machine_slot (machine_row_lem home i) (at live i)

abbrev pub machine_rows_lem : List ℕ → ℕ
machine_rows_lem home = min (at home 2) 256

abbrev pub machines_of : List ℕ → List ℕ → List s.Machine
machines_of home live = span (machine_at home live) 0 (machine_rows_lem home)

-- ALL

abbrev pub state_of : List ℕ → List ℕ → ℕ → s.State
state_of home live now = record { now = now; next_id = at home 0 + 1; machines = machines_of home live; jobs = jobs_of home; tasks = tasks_of home live }

-- WHAT A CHANGE OF TASKS LEAVES ALONE: all words of jobs and machines
pub record TasksOnly (home live home' live' : List ℕ) : Type 0 where
  pub long : length home' ≡ length home
  pub long_live : length live' ≡ length live
  pub words : (k : ℕ) → k < task_base → (k ≢ 0) → (k ≢ 3) → at home' k ≡ at home k
  pub heard : (k : ℕ) → k < ready_base → at live' k ≡ at live k

-- row i of the tasks now stands for xs, all else stays
pub record TaskPut (i : ℕ) (xs : List s.Task) (home live home' live' : List ℕ) : Type 0 where
  pub here : task_at home' live' i ≡ xs
  pub others : (j : ℕ) → j < 2048 → (j ≢ i) → task_at home' live' j ≡ task_at home live j
  pub rows : at home' 3 ≡ at home 3
  pub last : at home' 0 ≡ at home 0
  pub frame : TasksOnly home live home' live'

-- the tasks in rows before the i-th, and behind it
abbrev pub tasks_before : List ℕ → List ℕ → ℕ → List s.Task
tasks_before home live i = span (task_at home live) 0 i

abbrev pub tasks_behind : List ℕ → List ℕ → ℕ → List s.Task
tasks_behind home live i = span (task_at home live) (i + 1) (task_rows_lem home - (i + 1))

-- SOME CHANGES OF THE LIST OF TASKS

-- the list is ts now; jobs and machines stay
pub record TasksNow (ts : List s.Task) (home live home' live' : List ℕ) : Type 0 where
  pub tasks : tasks_of home' live' ≡ ts
  pub last : at home' 0 ≡ at home 0
  pub frame : TasksOnly home live home' live'

-- JOBS AND MACHINES CHANGE

-- the jobs are js now, all else stays
pub record JobsNow (js : List s.Job) (home home' : List ℕ) : Type 0 where
  pub state : (live : List ℕ) (time : ℕ) → state_of home' live time ≡ with_jobs js (state_of home live time)
  pub long : length home' ≡ length home

-- the machines are ms now, all else stays
pub record MachinesNow (ms : List s.Machine) (home live home' live' : List ℕ) : Type 0 where
  pub state : (time : ℕ) → state_of home' live' time ≡ with_machines ms (state_of home live time)
  pub long : length home' ≡ length home
  pub long_live : length live' ≡ length live

-- row i of n stands for xs in place of what it did
abbrev pub span_with : {X : Type 0} → (ℕ → List X) → ℕ → ℕ → List X → List X
span_with f n i xs = span f 0 i ++ (xs ++ span f (i + 1) (n - (i + 1)))

abbrev pub jobs_with : List ℕ → ℕ → List s.Job → List s.Job
jobs_with home i xs = span_with (job_at home) (job_rows_lem home) i xs

abbrev pub machines_with : List ℕ → List ℕ → ℕ → List s.Machine → List s.Machine
machines_with home live i xs = span_with (machine_at home live) (machine_rows_lem home) i xs

-- FINDING: o is the first row whose one passes the test, or none does
abbrev pub FoundAt : {X : Type 0} → (X → Bool) → (ℕ → List X) → ℕ → Option ℕ → Type 0
FoundAt {X} p f n o = MatchOption o (find p (span f 0 n) ≡ []) (λ i. (x : X) × (i < n) × (f i ≡ x ∷ []) × (find p (span f 0 n) ≡ x ∷ []) × (p x ≡ true) × (find p (span f 0 i) ≡ []))
