-- What a pass does before it places: tasks of jobs that are no longer wanted end, and each job makes one step. Other proofs know a step by step_is, the cases that it has, and not by its text.
-- Assumes nothing.
use Rattle.std.proofs.Common.{◌≡◌, ℕ, ◌<◌, Bool, true, false, cond, not, ◌&&◌, eqb, ltb, ◌⊎◌, List, [], ◌∷◌, length, sym, refl, ap, ◌∙◌, inl, inr}
use Rattle.std.proofs.lemmas.Bool.{false≢true, and_parts, not-true, not-false, eqb-true, ltb-true, cond_both}
use Rattle.model.specs.State.{Job, Phase, Waiting, Told, Ready, Ending, Task, State, is_waiting, is_ready_lem, is_ending, is_task, of_job, phased, with_tasks}
use Rattle.model.specs.Lists.{some, keep, change, none, same, last_of}
use Rattle.model.specs.Settle.{mine, alive, new_ones, old_ones, ready_ones, sure, to_end_lem, ended, for_job, for_jobs, orphans_end, may_grow_lem, more}
use Rattle.model.proofs.Lists.{In, in_keep, last_in, head_in, Pass, done, gone, goes, pass_keep, pass_change}
use Rattle.model.proofs.Tasks.ByNumber.{Rising, rising_one}

pub waiting_not_ready : (p : Phase) → is_waiting p ≡ true → is_ready_lem p ≡ false
waiting_not_ready Waiting e = refl
waiting_not_ready Told e = refl
waiting_not_ready Ready e = absurd (false≢true e)
waiting_not_ready Ending e = refl

-- TASKS OF JOBS THAT ARE NO LONGER WANTED

abbrev pub jobless : List Job → Task → Bool
jobless js t = not (some (λ (j : Job). same j.name t.job) js)

abbrev pub Ends : Task → Task → Type 0
Ends x y = (is_waiting x.phase ≡ false) × (y ≡ phased Ending x)

-- tasks of wanted jobs stay as they are; of the others, one that waits is gone, one on a machine is ending
pub orphans_pass : (js : List Job) (ts : List Task) → Pass (λ x. (jobless js x ≡ true) × (is_waiting x.phase ≡ true)) (λ x y. (y ≡ x) ⊎ ((jobless js x ≡ true) × Ends x y)) ts (orphans_end js ts)
unfolding orphans_end
orphans_pass js [] = done
orphans_pass js (t ∷ ts) = pick (some (λ (j : Job). same j.name t.job) js) (is_waiting t.phase) refl refl (orphans_pass js ts)
  where
    D : Task → Type 0
    D x = (jobless js x ≡ true) × (is_waiting x.phase ≡ true)

    R : Task → Task → Type 0
    R x y = (y ≡ x) ⊎ ((jobless js x ≡ true) × Ends x y)

    pick : (a b : Bool) → some (λ (j : Job). same j.name t.job) js ≡ a → is_waiting t.phase ≡ b → Pass D R ts (orphans_end js ts) → Pass D R (t ∷ ts) (cond a (t ∷ orphans_end js ts) (cond b (orphans_end js ts) (phased Ending t ∷ orphans_end js ts)))
    pick true b p q r = goes (inl refl) r
    pick false true p q r = gone (ap not p, q) r
    pick false false p q r = goes (inr (ap not p, (q, refl))) r

-- ONE ENDS

module _ (n : ℕ) (ts : List Task) (r : Rising n ts) (t : Task) (i : In t ts) where
  -- one that waits is gone, one on a machine is ending, and all others stay as they are
  pub ended_pass : (more : List Task) → Pass (λ x. (x ≡ t) × (is_waiting x.phase ≡ true)) (λ x y. (y ≡ x) ⊎ ((x ≡ t) × Ends x y)) ts (ended (t ∷ more) ts)
  unfolding ended
  ended_pass more = pick (is_waiting t.phase) refl
    where
      D : Task → Type 0
      D x = (x ≡ t) × (is_waiting x.phase ≡ true)

      R : Task → Task → Type 0
      R x y = (y ≡ x) ⊎ ((x ≡ t) × Ends x y)

      it : (x : Task) → In x ts → is_task t.id x ≡ true → x ≡ t
      it x k e = rising_one n ts r x t k i (sym (eqb-true t.id x.id e))

      pick : (b : Bool) → is_waiting t.phase ≡ b → Pass D R ts (cond b (keep (λ (u : Task). not (is_task t.id u)) ts) (change (is_task t.id) (phased Ending) ts))
      pick true e = pass_keep D R (λ (u : Task). not (is_task t.id u)) ts (λ x k f. let p = it x k (not-false _ f) in (p, ap (λ (y : Task). is_waiting y.phase) p ∙ e)) (λ x k f. inl refl)
      pick false e = pass_change D R (is_task t.id) (phased Ending) ts (λ x k. inl refl) (λ x k f. let p = it x k f in inr (p, (ap (λ (y : Task). is_waiting y.phase) p ∙ e, refl)))

-- ONE STEP FOR A JOB

-- one that may end
abbrev pub MayEnd : State → Job → List Task → Type 0
MayEnd s j [] = Unit {0}
MayEnd s j (t ∷ ts) = In t s.tasks × (of_job j.name t ≡ true) × ((is_ready_lem t.phase ≡ false) ⊎ (j.least < length (ready_ones (mine j s.tasks))))

-- who is picked to end is of the job, and isn't ready, or more are ready than the least
pub may_end : (s : State) (j : Job) (ts : List Task) → ((t : Task) → In t ts → In t (mine j s.tasks)) → MayEnd s j (to_end_lem s j (mine j s.tasks) ts)
may_end s j ts sub = pick (to_end_lem s j (mine j s.tasks) ts) (λ x i. known x (head_in _ _ x i))
  where
    all : List Task
    all = mine j s.tasks

    Known : Task → Type 0
    Known x = In x s.tasks × (of_job j.name x ≡ true) × ((is_ready_lem x.phase ≡ false) ⊎ (j.least < length (ready_ones all)))

    known_of : (x : Task) → In x ts → (is_ready_lem x.phase ≡ false) ⊎ (j.least < length (ready_ones all)) → Known x
    known_of x i o = let k = in_keep (of_job j.name) s.tasks x (sub x i) in (k.0, k.1, o)

    readies : (b : Bool) → ltb j.least (length (ready_ones all)) ≡ b → (x : Task) → In x (cond b (last_of (ready_ones ts)) []) → Known x
    readies true e x i = known_of x (in_keep (λ (t : Task). is_ready_lem t.phase) ts x (last_in (ready_ones ts) x i)).0 (inr (ltb-true j.least (length (ready_ones all)) e))
    readies false e x i = absurd i

    f : Task → Bool
    f t = not (is_ready_lem t.phase) && sure s t

    known : (x : Task) → In x (last_of (keep f ts)) ⊎ In x (cond (ltb j.least (length (ready_ones all))) (last_of (ready_ones ts)) []) → Known x
    known x (inl i) = let k = in_keep f ts x (last_in (keep f ts) x i) in known_of x k.0 (inl (not-true _ (and_parts (not (is_ready_lem x.phase)) (sure s x) k.1).0))
    known x (inr i) = readies (ltb j.least (length (ready_ones all))) refl x i

    pick : (xs : List Task) → ((x : Task) → In x xs → Known x) → MayEnd s j xs
    pick [] h = tt
    pick (x ∷ xs) h = h x (inl refl)

-- what holds of every outcome of a step holds of the step
pub step_is : (P : State → Type 0) (j : Job) (s : State) → ((xs : List Task) → MayEnd s j xs → P (with_tasks (ended xs s.tasks) s)) → ((xs : List Task) → MayEnd s j xs → let u = with_tasks (ended xs s.tasks) s in may_grow_lem j u ≡ true → P (more j u)) → P (for_job j s)
unfolding ended
step_is P j s a b = pick (not (none old)) (ltb j.count (length (new_ones j (alive (mine j s.tasks)))))
  where
    old : List Task
    old = to_end_lem s j (mine j s.tasks) (old_ones j (alive (mine j s.tasks)))

    new : List Task
    new = to_end_lem s j (mine j s.tasks) (new_ones j (alive (mine j s.tasks)))

    part : (f : Task → Bool) (t : Task) → In t (keep f (alive (mine j s.tasks))) → In t (mine j s.tasks)
    part f t i = (in_keep (λ (u : Task). not (is_ending u.phase)) (mine j s.tasks) t (in_keep f (alive (mine j s.tasks)) t i).0).0

    grown : (xs : List Task) → MayEnd s j xs → let u = with_tasks (ended xs s.tasks) s in P (cond (may_grow_lem j u) (more j u) u)
    grown xs m = let u = with_tasks (ended xs s.tasks) s in cond_both (may_grow_lem j u) (more j u) u P (b xs m) (λ _. a xs m)

    grew : List Task → State
    grew xs = let u = with_tasks (ended xs s.tasks) s in cond (may_grow_lem j u) (more j u) u

    pick : (c d : Bool) → P (cond c (grew old) (cond d (with_tasks (ended new s.tasks) s) (grew [])))
    pick true d = grown old (may_end s j _ (part (λ (t : Task). not (eqb t.version j.version))))
    pick false true = a new (may_end s j _ (part (λ (t : Task). eqb t.version j.version)))
    pick false false = grown [] tt

-- what each job's step keeps, all of them keep
pub steps_are : (P : State → Type 0) (js : List Job) (s : State) → ((j : Job) → In j js → (u : State) → P u → P (for_job j u)) → P s → P (for_jobs js s)
unfolding for_jobs
steps_are P [] s h p = p
steps_are P (j ∷ js) s h p = steps_are P js (for_job j s) (λ k i. h k (inr i)) (h j (inl refl) s p)
