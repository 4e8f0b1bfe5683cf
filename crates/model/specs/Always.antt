-- What holds at every moment of every run, in the words of the subject: of what really runs, of jobs, of passes, of task numbers.
-- Assumes nothing.
use Rattle.std.specs.Prelude.{◌≡◌, ℕ, ◌+◌, ◌≤◌, Bool, true, false, cond, not, ◌&&◌, T, ◌⊎◌, List, [], ◌∷◌, ◌++◌, length, ◌==◌, ◌≢◌, nat_eq}
use mathlib.Core.List.{Memᴰ}
use Rattle.model.specs.Lists.{some, keep, find, change, none}
use Rattle.model.specs.State.{Name, Machine, Spec, Job, Ending, Task, State, is_waiting, is_ready_lem, is_ending, is_job, is_machine, of_job, on_machine, phased, with_jobs, with_machines}
use Rattle.model.specs.Settle.{mine, ready_ones, present, here, takes, settle}
use Rattle.model.specs.Calls.{Seen, Call, SetJob, EndJob, AddMachine, Close, Reopen, Forget, Report, Tick, Show, Order, Reply, No, Yes, Run, new_job, reset_job_lem, new_machine, opened, heard, forgotten, later, timed, does}
use Rattle.model.specs.World.{World, Agent, is_order, Step, Reach}
use Rattle.model.specs.Memory.{Happens, MayHappen}
use Rattle.model.specs.Promise.{herd, Good, ran}

-- WHAT RUNS FITS

-- what the order asks for on which a task runs; the orders are looked through by its number
unfoldable pub asked : (Spec → ℕ) → List Order → ℕ
asked need [] = 0
asked need (o ∷ os) = need o.spec

-- what all together ask for that run, each at the spec that was ordered
unfoldable pub asked_by : (Spec → ℕ) → List Order → List Seen → ℕ
asked_by need os [] = 0
asked_by need os (x ∷ xs) = asked need (find (is_order x.id) os) + asked_by need os xs

-- of a machine that the herd has, and its agent
pub record Within (s : State) (m : Machine) (a : Agent) : Type 0 where
  -- what runs was ordered, so that none counts as nothing
  pub ordered : (x : Seen) → Memᴰ x a.runs → (o : Order) × Memᴰ o a.ordered × (o.id ≡ x.id)
  -- what is ordered is a task that the herd has on that machine, at its own spec
  pub known : (o : Order) → Memᴰ o a.ordered → (t : Task) × Memᴰ t (here m s.tasks) × (t.id ≡ o.id) × (t.spec ≡ o.spec)
  pub cpu : asked_by (λ (b : Spec). b.cpu) a.ordered a.runs ≤ m.cpu
  pub mem : asked_by (λ (b : Spec). b.mem) a.ordered a.runs ≤ m.mem

-- what runs on a machine, each at the spec that was ordered, adds up to no more than the machine has. (Where anything runs, the herd has the machine: Anchored.)
abbrev pub RunsWithin : Type 0
RunsWithin = (w : World) → Reach w → (m : Machine) → Memᴰ m w.herd.machines → Within w.herd m (w.agent m.num)

-- and on whatever machine: nothing runs there, or the herd has it, in this life of its agent, and what runs fits
abbrev pub FitsEverywhere : Type 0
FitsEverywhere = (w : World) → Reach w → (i : ℕ) → (ran w i ≡ []) ⊎ ((m : Machine) × Memᴰ m w.herd.machines × (m.num ≡ i) × (m.life ≡ (w.agent i).life) × Within w.herd m (w.agent i))

-- NO MORE THAN THE MOST

-- the job of that name has no higher most in that state, and tasks of that name only if it is there
abbrev pub Raised : Name → ℕ → State → Type 0
Raised n m s = ((j : Job) → Memᴰ j s.jobs → j.name ≡ n → j.most ≤ m) × ((t : Task) → Memᴰ t s.tasks → t.job ≡ n → (j : Job) × Memᴰ j s.jobs × (j.name ≡ n))

-- a call, said to a herd in that state, doesn't lower the most of the job of that name, nor sets it anew while tasks of an ended job of that name are there; one that is refused does neither
abbrev pub Spares : Name → Call → State → Type 0
Spares n (SetJob k a c l m) s = k ≡ n → (does (SetJob k a c l m) s).reply ≡ Yes → Raised n m s
Spares n (EndJob k) s = Unit {0}
Spares n (AddMachine k c m tags) s = Unit {0}
Spares n (Close k) s = Unit {0}
Spares n (Reopen k) s = Unit {0}
Spares n (Forget k) s = Unit {0}
Spares n (Report k l i xs) s = Unit {0}
Spares n (Tick t) s = Unit {0}
Spares n (Show k) s = Unit {0}

abbrev pub SparesIn : {w v : World} → Name → Step w v → Type 0
SparesIn n (Step.says w c nr nf) = Spares n c w.herd
SparesIn n (Step.forgets w k) = Unit {0}
SparesIn n (Step.forgets_off w k a o r) = Unit {0}
SparesIn n (Step.falls w) = Unit {0}
SparesIn n (Step.comes_up w i) = Unit {0}
SparesIn n (Step.reports w i l) = Unit {0}
SparesIn n (Step.hears w i l k xs q os m e) = Unit {0}
SparesIn n (Step.hears_not w i l k xs m e) = Unit {0}
SparesIn n (Step.obeyed w i os m) = Unit {0}
SparesIn n (Step.starts w i o m e) = Unit {0}
SparesIn n (Step.becomes w i before behind x b e) = Unit {0}
SparesIn n (Step.dies w i before behind x e) = Unit {0}

-- a run in which no call did that to the job of that name
abbrev pub Unlowered : {w : World} → Name → Reach w → Type 0
Unlowered n Reach.begin = Unit {0}
Unlowered n (Reach.then r s) = Unlowered n r × SparesIn n s

-- what runs is a task of that job. (Whatever runs is a task that the herd has: NeverTooMuch.)
abbrev pub is_of : Name → List Task → Seen → Bool
is_of n ts x = some (λ (t : Task). (t.id == x.id) && of_job n t) ts

-- all that runs of a job on these machines
unfoldable pub running_of : Name → World → List ℕ → List Seen
running_of n w [] = []
running_of n w (i ∷ is) = keep (is_of n w.herd.tasks) (ran w i) ++ running_of n w is

-- numbers that are all different
unfoldable pub differ : List ℕ → Bool
differ [] = true
differ (i ∷ is) = not (some (nat_eq i) is) && differ is

-- of a job there are never more tasks than its most, nor do more run, on whatever machines, all together
abbrev pub NeverOver : Type 0
NeverOver =
    (w : World) (r : Reach w) (j : Job) → Memᴰ j w.herd.jobs → Unlowered j.name r →
    (length (mine j w.herd.tasks) ≤ j.most) × ((is : List ℕ) → T (differ is) → length (running_of j.name w is) ≤ j.most)

-- WHAT A PASS TAKES

-- what a call itself changes: the state in which the pass that follows it begins
unfoldable pub entered : Call → State → State
entered (SetJob n a c l m) s = with_jobs (cond (none (find (is_job n) s.jobs)) (s.jobs ++ (new_job n a c l m ∷ [])) (change (is_job n) (reset_job_lem n a c l m) s.jobs)) s
entered (EndJob n) s = with_jobs (keep (λ (j : Job). not (is_job n j)) s.jobs) s
entered (AddMachine k c m tags) s = with_machines (s.machines ++ (new_machine k c m tags ∷ [])) s
entered (Close k) s = with_machines (change (is_machine k) (opened false) s.machines) s
entered (Reopen k) s = with_machines (change (is_machine k) (opened true) s.machines) s
entered (Forget k) s = forgotten k s
entered (Report k l n xs) s = heard k l n xs s
entered (Tick t) s = timed (later t s.now) s
entered (Show n) s = s

-- of the ready tasks of a job that is wanted: each stays there as it is, ready; or it is made to end, and then at least the least are ready afterwards
abbrev pub TakesFew : State → State → Type 0
TakesFew u v =
    (j : Job) → Memᴰ j u.jobs → (t : Task) → Memᴰ t u.tasks → t.job ≡ j.name → T (is_ready_lem t.phase) →
    Memᴰ t v.tasks ⊎ (Memᴰ (phased Ending t) v.tasks × (j.least ≤ length (ready_ones (mine j v.tasks))))

abbrev pub PassTakesFew : Type 0
PassTakesFew = (s : State) → Good s → TakesFew s (settle s)

-- whatever is said to the herd in a run: nothing changes, or the call's own change is followed by one pass, and that takes no more than it may
abbrev pub AlwaysTakesFew : Type 0
AlwaysTakesFew = (w : World) → Reach w → (c : Call) → ((does c w.herd).state ≡ w.herd) ⊎ (((does c w.herd).state ≡ settle (entered c w.herd)) × TakesFew (entered c w.herd) (does c w.herd).state)

-- NO TASK WAITS THAT A MACHINE WOULD TAKE

abbrev pub NoneWaits : State → Type 0
NoneWaits s = (t : Task) (m : Machine) → Memᴰ t s.tasks → T (is_waiting t.phase) → Memᴰ m s.machines → T (takes s.now t s.tasks m) → ⊥

abbrev pub NeverWaits : Type 0
NeverWaits = (w : World) → Reach w → NoneWaits w.herd

-- and so of the herd alone, whichever calls are built: whatever may have happened, its state is good, and no task waits that a machine would take
abbrev pub WhateverHappens : Type 0
WhateverHappens = (can : Call → Bool) (es : List (Happens Call Reply)) (s : State) → MayHappen (herd can) es s → Good s × NoneWaits s

-- READY IS NO GUESS

-- a ready task is on a machine that the herd has and that is present
abbrev pub ReadyThere : State → Type 0
ReadyThere s = (t : Task) → Memᴰ t s.tasks → T (is_ready_lem t.phase) → (m : Machine) × Memᴰ m s.machines × (m.num ≡ t.machine) × T (present s.now m)

abbrev pub AlwaysReadyThere : Type 0
AlwaysReadyThere = (w : World) → Reach w → ReadyThere w.herd

-- REFUSALS

-- a call that is answered by a number leaves the state as it was
abbrev pub RefusalKeeps : Type 0
RefusalKeeps = (c : Call) (s : State) (k : ℕ) → (does c s).reply ≡ No k → (does c s).state ≡ s

-- WHAT A REPORT IS ANSWERED

-- the answer bears the report's number, and orders exactly what is on the machine afterwards and isn't ending, each at its spec
abbrev pub OrdersAll : Type 0
OrdersAll =
    (k l n : ℕ) (xs : List Seen) (s : State) (i : ℕ) (os : List Order) → (does (Report k l n xs) s).reply ≡ Run i os →
    (i ≡ n) ×
    ((t : Task) → Memᴰ t (does (Report k l n xs) s).state.tasks → T (on_machine k t) → T (not (is_ending t.phase)) → Memᴰ (record { id = t.id; spec = t.spec }) os) ×
    ((o : Order) → Memᴰ o os → (t : Task) × Memᴰ t (does (Report k l n xs) s).state.tasks × T (on_machine k t) × T (not (is_ending t.phase)) × (t.id ≡ o.id) × (t.spec ≡ o.spec))

-- TASK NUMBERS ARE GIVEN ONCE

-- the world v is reached from w
pub data Later (w : World) : World → Type 0 where
  same : Later w w
  then : {u v : World} → Later w u → Step u v → Later w v

-- a task there now, with the number of one that was there before, is that task
abbrev pub SameNumber : Type 0
SameNumber =
    (w v : World) → Reach w → Later w v → (t u : Task) → Memᴰ t w.herd.tasks → Memᴰ u v.herd.tasks → u.id ≡ t.id →
    (u.job ≡ t.job) × (u.version ≡ t.version) × (u.spec ≡ t.spec)

-- and one that was gone never comes back, nor does another by its number
abbrev pub NeverBack : Type 0
NeverBack =
    (w u v : World) → Reach w → Later w u → Later u v → (t : Task) → Memᴰ t w.herd.tasks → ((x : Task) → Memᴰ x u.herd.tasks → x.id ≢ t.id) → (x : Task) → Memᴰ x v.herd.tasks → x.id ≢ t.id
