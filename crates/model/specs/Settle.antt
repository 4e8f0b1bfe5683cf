-- The pass: one step from what is there towards what is wanted. Tasks of jobs that are no longer wanted end; each job makes one step; then tasks that wait are placed.
-- Assumes nothing.
use Rattle.std.specs.Prelude.{ℕ, ◌+◌, ◌-◌, Bool, cond, not, ◌&&◌, ◌||◌, List, [], ◌∷◌, ◌++◌, length, ◌==◌, nat_eq, nat_le, nat_lt}
use Rattle.model.specs.Lists.{some, every, keep, change, none, same, last_of, head_or}
use Rattle.model.specs.State.{Machine, Job, Waiting, Ending, Task, State, is_waiting, is_ready_lem, is_ending, is_task, is_machine, of_job, on_machine, phased, placed, with_tasks, cpu_of, mem_of}

-- A JOB'S STEP

abbrev pub mine : Job → List Task → List Task
mine j ts = keep (of_job j.name) ts

abbrev pub alive : List Task → List Task
alive ts = keep (λ (t : Task). not (is_ending t.phase)) ts

abbrev pub new_ones : Job → List Task → List Task
new_ones j ts = keep (λ (t : Task). nat_eq t.version j.version) ts

abbrev pub old_ones : Job → List Task → List Task
old_ones j ts = keep (λ (t : Task). not (t.version == j.version)) ts

abbrev pub ready_ones : List Task → List Task
ready_ones ts = keep (λ (t : Task). is_ready_lem t.phase) ts

-- a machine is present if a report of it was heard in the last 30,000 ms of told time
abbrev pub present : ℕ → Machine → Bool
present now m = not (m.heard == 0) && nat_le now (m.heard + 30000)

-- a task that waits, or is on a machine that is present: of any other nobody knows whether it is ready
abbrev pub sure : State → Task → Bool
sure s t = is_waiting t.phase || some (λ (m : Machine). is_machine t.machine m && present s.now m) s.machines

-- who is to end of some tasks of a job: the last that surely isn't ready; if there is none, the last ready one, but only if more of all the job's tasks are ready than are to stay
abbrev pub to_end_lem : State → Job → List Task → List Task → List Task
to_end_lem s j all some' =
    head_or (last_of (keep (λ (t : Task). not (is_ready_lem t.phase) && sure s t) some')) (cond (nat_lt j.least (length (ready_ones all))) (last_of (ready_ones some')) [])

-- a task that waits is gone at once; one on a machine is ending until its machine is heard to have it no more
unfoldable pub ended : List Task → List Task → List Task
ended [] ts = ts
ended (t ∷ more) ts = cond (is_waiting t.phase) (keep (λ (u : Task). not (is_task t.id u)) ts) (change (is_task t.id) (phased Ending) ts)

abbrev pub fresh : Job → ℕ → Task
fresh j i = record { id = i; job = j.name; version = j.version; spec = j.spec; phase = Waiting; machine = 0; life = 0 }

-- one of the present version is missing, and there is room for it below the most, below 2,048 tasks in all, and in the numbers
abbrev pub may_grow_lem : Job → State → Bool
may_grow_lem j s =
    nat_lt (length (new_ones j (alive (mine j s.tasks)))) j.count && nat_lt (length (mine j s.tasks)) j.most && nat_lt (length s.tasks) 2048 && nat_lt s.next_id 4611686018427387904

abbrev pub more : Job → State → State
more j s = record { now = s.now; next_id = s.next_id + 1; machines = s.machines; jobs = s.jobs; tasks = s.tasks ++ (fresh j s.next_id ∷ []) }

abbrev pub grows : Job → State → State
grows j s = cond (may_grow_lem j s) (more j s) s

-- who ends for being of an older version, and who for being one too many
abbrev pub old_to_end : Job → State → List Task
old_to_end j s = to_end_lem s j (mine j s.tasks) (old_ones j (alive (mine j s.tasks)))

abbrev pub new_to_end : Job → State → List Task
new_to_end j s = to_end_lem s j (mine j s.tasks) (new_ones j (alive (mine j s.tasks)))

-- one step for one job: an old one ends; else, if there are too many, one of those ends and none comes; else one that is missing comes
abbrev pub for_job : Job → State → State
for_job j s =
    cond (not (none (old_to_end j s))) (grows j (with_tasks (ended (old_to_end j s) s.tasks) s))
    (cond (nat_lt j.count (length (new_ones j (alive (mine j s.tasks))))) (with_tasks (ended (new_to_end j s) s.tasks) s) (grows j s))

unfoldable pub for_jobs : List Job → State → State
for_jobs [] s = s
for_jobs (j ∷ js) s = for_jobs js (for_job j s)

-- tasks of jobs that are no longer wanted end
unfoldable pub orphans_end : List Job → List Task → List Task
orphans_end js [] = []
orphans_end js (t ∷ ts) = cond (some (λ (j : Job). same j.name t.job) js) (t ∷ orphans_end js ts) (cond (is_waiting t.phase) (orphans_end js ts) (phased Ending t ∷ orphans_end js ts))

-- PLACES

abbrev pub here : Machine → List Task → List Task
here m ts = keep (on_machine m.num) ts

-- a machine takes a task if it is open and present, has the tags, has none of the job where those are to be apart, and has cpu and memory left beside all that is on it
abbrev pub takes : ℕ → Task → List Task → Machine → Bool
takes now t ts m =
    m.open' && present now m && every (λ (a : ℕ). some (nat_eq a) m.tags) t.spec.tags && not (t.spec.apart && some (of_job t.job) (here m ts)) &&
    nat_le (cpu_of (here m ts) + t.spec.cpu) m.cpu && nat_le (mem_of (here m ts) + t.spec.mem) m.mem

abbrev pub left : Machine → List Task → ℕ
left m ts = m.cpu - cpu_of (here m ts)

-- the machine with most cpu left; of those alike the first
abbrev pub better : Machine → List Machine → List Task → List Machine
better m [] ts = m ∷ []
better m (b ∷ bs) ts = cond (nat_lt (left m ts) (left b ts)) (b ∷ []) (m ∷ [])

unfoldable pub best : List Machine → List Task → List Machine
best [] ts = []
best (m ∷ ms) ts = better m (best ms ts) ts

unfoldable pub place : Task → List Machine → List Task → List Task
place t [] ts = ts
place t (m ∷ ms) ts = change (is_task t.id) (placed m.num m.life) ts

-- each task that waits goes, by number, to the best of the machines that take it beside those placed before
unfoldable pub place_all_lem : ℕ → List Machine → List Task → List Task → List Task
place_all_lem now ms [] ts = ts
place_all_lem now ms (t ∷ waiting) ts = place_all_lem now ms waiting (place t (best (keep (takes now t ts) ms) ts) ts)

-- THE PASS

abbrev pub unplaced : State → State
unplaced s = for_jobs s.jobs (with_tasks (orphans_end s.jobs s.tasks) s)

abbrev pub placing : State → State
placing u = with_tasks (place_all_lem u.now u.machines (keep (λ (t : Task). is_waiting t.phase) u.tasks) u.tasks) u

abbrev pub settle : State → State
settle s = placing (unplaced s)
