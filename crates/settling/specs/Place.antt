-- What is on each machine, and which machine takes a task.
-- Assumes nothing.
use Rattle.std.specs.Prelude.{◌≡◌, ℕ, ◌+◌, ◌%◌, ◌<◌, Bool, false, cond, not, ◌&&◌, ◌||◌, List, [], ◌∷◌, Some, None, Option, MatchOption, ◌==◌, nat_eq, nat_le, nat_lt, slice_index_or}
use Rattle.model.specs.Lists.{some, keep}
use Rattle.model.specs.State as s
use Rattle.model.specs.State.{is_waiting, of_job, on_machine, cpu_of, mem_of}
use Rattle.jobs.specs.Rows.{at}
use Rattle.model.specs.Settle.{present, left, place_all_lem}
use Rattle.jobs.specs.Tables.{machine_row_lem, machine_rows_lem, machines_of, task_from, task_row_lem, task_at, tasks_of, TaskPut}
use Rattle.settling.specs.declared.load.Load.{Load}
use Rattle.settling.specs.declared.load.Weight.{Weight}
use Rattle.settling.specs.declared.load.Choice.{Choice}

-- the load of the tasks ts on the machine k
pub record LoadBy (job : s.Name) (k : ℕ) (ts : List s.Task) (l : Load) : Type 0 where
  pub cpu : l.cpu ≡ cpu_of (keep (on_machine k) ts)
  pub mem : l.mem ≡ mem_of (keep (on_machine k) ts)
  pub mine : l.mine ≡ some (of_job job) (keep (on_machine k) ts)

-- the number in row r of the machines
abbrev pub num_at : List ℕ → ℕ → ℕ
num_at home r = at (machine_row_lem home r) 1 % 65536

-- each row's load is that of the machine in it
abbrev pub Loaded : s.Name → List ℕ → List s.Task → List Load → Type 0
Loaded job home ts ls = (r : ℕ) (e : Load) → r < machine_rows_lem home → LoadBy job (num_at home r) ts (slice_index_or ls r e)

-- what the task of a row adds, if there is one and it is on a machine
abbrev pub weight_of : s.Name → List s.Task → Option Weight
weight_of job [] = None
weight_of job (x ∷ xs) = cond (is_waiting x.phase) None (Some (record { machine = record { 0 = x.machine }; cpu = x.spec.cpu; mem = x.spec.mem; mine = of_job job x }))

-- the load of machine k with it
abbrev pub heavier : ℕ → Weight → Load → Load
heavier k w l = cond (k == w.machine.0) (record { cpu = l.cpu + w.cpu; mem = l.mem + w.mem; mine = l.mine || w.mine }) l

abbrev pub no_load : Load
no_load = record { cpu = 0; mem = 0; mine = false }

-- THE CHOICE

-- all that is asked of a machine but the tags
abbrev pub fits_on_lem : ℕ → s.Spec → Load → s.Machine → Bool
fits_on_lem time a l m = m.open' && present time m && not (a.apart && l.mine) && nat_le (l.cpu + a.cpu) m.cpu && nat_le (l.mem + a.mem) m.mem

abbrev pub has_tag_lem : s.Machine → ℕ → Bool
has_tag_lem m a = some (nat_eq a) m.tags

abbrev pub improved : Option Choice → ℕ → ℕ → Option Choice
improved None k n = Some (record { at = k; left = n })
improved (Some c) k n = cond (nat_lt c.left n) (Some (record { at = k; left = n })) (Some c)

-- the choice is the only one of xs, by its row, or there is none
abbrev pub Chosen : (ℕ → List s.Machine) → ℕ → List s.Task → Option Choice → List s.Machine → Type 0
Chosen f n ts r xs = MatchOption r (xs ≡ []) (λ c. (m : s.Machine) × (c.at < n) × (f c.at ≡ m ∷ []) × (xs ≡ m ∷ []) × (c.left ≡ left m ts))

-- the task that the words of row i stand for, were it no hole
abbrev pub task_in : List ℕ → List ℕ → ℕ → s.Task
task_in home live i = task_from (task_row_lem home i) (at live (256 + i))

-- ONE ROW, THEN ALL

abbrev pub waits : List s.Task → List s.Task
waits ts = keep (λ (t : s.Task). is_waiting t.phase) ts

-- the task in row i is placed if it waits and a machine takes it; all else stays
pub record PlacedRow (i : ℕ) (home live home' live' : List ℕ) (time : ℕ) : Type 0 where
  pub put : (xs : List s.Task) × TaskPut i xs home live home' live'
  pub tasks : tasks_of home' live' ≡ place_all_lem time (machines_of home live) (waits (task_at home live i)) (tasks_of home live)
