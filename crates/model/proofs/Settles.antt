-- A pass keeps tasks by rising numbers below the next; and what a good state is, in the form in which proofs have it.
-- Assumes nothing.
use Rattle.std.proofs.Common.{◌≡◌, ◌+◌, ◌<◌, true, not, eqb, ltb, ◌⊎◌, List, [], ◌∷◌, sym, refl, ap, ◌∙◌, inl, inr, arith}
use Rattle.std.proofs.lemmas.Bool.{and_parts, and_from, not-true, ltb-true, lt-ltb}
use Rattle.model.specs.State.{Machine, Job, Task, State, is_job, is_machine, with_tasks}
use Rattle.model.specs.Lists.{some, same}
use Rattle.model.specs.Settle.{ended, fresh, for_job, settle, more, unplaced}
use Rattle.model.specs.Promise.{once_jobs, once_machines, Good}
use Rattle.model.proofs.Lists.{to_true, from_true, clash, In, in_end, every_at, every_from, some_not, not_some, Pass, pass_from, Once}
use Rattle.model.proofs.Tasks.{same_sym, Rising, rising_from, rising_to, rising_pass, rising_end, jobless, Ends, orphans_pass, ended_pass, MayEnd, step_is, steps_are, Put, put_id, Never, places_pass, queue_of}

-- tasks by rising numbers, all below the next
abbrev pub Tidy : State → Type 0
Tidy s = Rising 0 s.tasks × ((t : Task) → In t s.tasks → t.id < s.next_id)

-- a pass that keeps numbers keeps tasks tidy
pub tidy_pass : (D : Task → Type 0) (R : Task → Task → Type 0) → ((x y : Task) → R x y → y.id ≡ x.id) → (s : State) {ts : List Task} → Pass D R s.tasks ts → Tidy s → Tidy (with_tasks ts s)
tidy_pass D R ids s {ts} p h = (rising_pass D R ids 0 p h.0, λ t i. low t i)
  where
    low : (t : Task) → In t ts → t.id < s.next_id
    low t i =
        let f = pass_from D R p t i in let a : f.2.id ≡ f.0.id = ids f.0 f.2 f.3 in let b : t.id ≡ f.2.id = ap (λ (x : Task). x.id) f.4 in
        let c : f.0.id < s.next_id = h.1 f.0 f.1 in omega arith

pub tidy_more : (j : Job) (s : State) → Tidy s → Tidy (more j s)
tidy_more j s h = (rising_end 0 s.tasks (fresh j s.next_id) h.0 h.1 (omega arith), λ t i. low t (in_end t (fresh j s.next_id) s.tasks i))
  where
    low : (t : Task) → In t s.tasks ⊎ (t ≡ fresh j s.next_id) → t.id < s.next_id + 1
    low t (inl i) = let a : t.id < s.next_id = h.1 t i in omega arith
    low t (inr e) = let a : t.id ≡ s.next_id = ap (λ (x : Task). x.id) e in omega arith

abbrev pub EndsOne : Task → Task → Task → Type 0
EndsOne t x y = (y ≡ x) ⊎ ((x ≡ t) × Ends x y)

pub ends_id : (t x y : Task) → EndsOne t x y → y.id ≡ x.id
ends_id t x y (inl e) = ap (λ (z : Task). z.id) e
ends_id t x y (inr h) = ap (λ (z : Task). z.id) h.1.1

pub tidy_ended : (j : Job) (s : State) → Tidy s → (xs : List Task) → MayEnd s j xs → Tidy (with_tasks (ended xs s.tasks) s)
unfolding ended
tidy_ended j s h [] m = h
tidy_ended j s h (t ∷ ts) m = tidy_pass _ _ (ends_id t) s (ended_pass 0 s.tasks h.0 t m.0 ts) h

pub tidy_step : (j : Job) (s : State) → Tidy s → Tidy (for_job j s)
tidy_step j s h = step_is Tidy j s (tidy_ended j s h) (λ xs m g. tidy_more j (with_tasks (ended xs s.tasks) s) (tidy_ended j s h xs m))

pub orphan_id : (js : List Job) (x y : Task) → (y ≡ x) ⊎ ((jobless js x ≡ true) × Ends x y) → y.id ≡ x.id
orphan_id js x y (inl e) = ap (λ (z : Task). z.id) e
orphan_id js x y (inr h) = ap (λ (z : Task). z.id) h.1.1

pub tidy_unplaced : (s : State) → Tidy s → Tidy (unplaced s)
tidy_unplaced s h = steps_are Tidy s.jobs _ (λ j i u k. tidy_step j u k) (tidy_pass _ _ (orphan_id s.jobs) s (orphans_pass s.jobs s.tasks) h)

abbrev pub Alike : State → State → Type 0
Alike s u = (u.now ≡ s.now) × (u.machines ≡ s.machines) × (u.jobs ≡ s.jobs)

-- a pass leaves the time, the machines and the jobs as they are
pub unplaced_alike : (s : State) → Alike s (unplaced s)
unplaced_alike s = steps_are (Alike s) s.jobs _ (λ j i u k. step_is (Alike s) j u (λ xs m. k) (λ xs m g. k)) (refl, refl, refl)

-- the second half of a pass, by what it does to tasks
pub settle_pass : (s : State) → Tidy s → Pass Never Put (unplaced s).tasks (settle s).tasks
settle_pass s h = let u = unplaced s in places_pass u.now 0 u.machines _ u.tasks (queue_of u.tasks (tidy_unplaced s h).0)

pub tidy_settle : (s : State) → Tidy s → Tidy (settle s)
tidy_settle s h = tidy_pass Never Put put_id (unplaced s) (settle_pass s h) (tidy_unplaced s h)

-- ONE BY A NAME

pub jobs_from : (js : List Job) → once_jobs js ≡ true → Once (λ (a b : Job). same a.name b.name) js
unfolding once_jobs
jobs_from [] e = tt
jobs_from (j ∷ js) e = let p = and_parts (not (some (is_job j.name) js)) (once_jobs js) e in (λ k i. some_not (is_job j.name) js (not-true _ p.0) k i, jobs_from js p.1)

pub jobs_to : (js : List Job) → Once (λ (a b : Job). same a.name b.name) js → once_jobs js ≡ true
unfolding once_jobs
jobs_to [] o = refl
jobs_to (j ∷ js) o = and_from (not (some (is_job j.name) js)) (once_jobs js) (ap not (not_some (is_job j.name) js o.0)) (jobs_to js o.1)

pub machines_from : (ms : List Machine) → once_machines ms ≡ true → Once (λ (a b : Machine). eqb a.num b.num) ms
unfolding once_machines
machines_from [] e = tt
machines_from (m ∷ ms) e = let p = and_parts (not (some (is_machine m.num) ms)) (once_machines ms) e in (λ k i. some_not (is_machine m.num) ms (not-true _ p.0) k i, machines_from ms p.1)

pub machines_to : (ms : List Machine) → Once (λ (a b : Machine). eqb a.num b.num) ms → once_machines ms ≡ true
unfolding once_machines
machines_to [] o = refl
machines_to (m ∷ ms) o = and_from (not (some (is_machine m.num) ms)) (once_machines ms) (ap not (not_some (is_machine m.num) ms o.0)) (machines_to ms o.1)

-- one job by a name
pub once_job : (js : List Job) → Once (λ (a b : Job). same a.name b.name) js → (a b : Job) → In a js → In b js → same a.name b.name ≡ true → a ≡ b
once_job [] o a b i k e = absurd i
once_job (j ∷ js) o a b (inl p) (inl q) e = p ∙ sym q
once_job (j ∷ js) o a b (inl p) (inr k) e = clash (same j.name b.name) (sym (ap (λ (x : Job). same x.name b.name) p) ∙ e) (o.0 b k)
once_job (j ∷ js) o a b (inr i) (inl q) e = clash (same j.name a.name) (same_sym _ _ (sym (ap (λ (x : Job). same a.name x.name) q) ∙ e)) (o.0 a i)
once_job (j ∷ js) o a b (inr i) (inr k) e = once_job js o.1 a b i k e

-- GOOD

-- a good state, in the form in which proofs have it
pub record Fine (s : State) : Type 0 where
  pub jobs : Once (λ (a b : Job). same a.name b.name) s.jobs
  pub machines : Once (λ (a b : Machine). eqb a.num b.num) s.machines
  pub tidy : Tidy s

pub fine_from : (s : State) → Good s → Fine s
fine_from s g =
    record {
      jobs = jobs_from s.jobs (to_true _ g.0);
      machines = machines_from s.machines (to_true _ g.1);
      tidy = (rising_from 0 s.tasks (to_true _ g.2), λ t i. ltb-true t.id s.next_id (every_at (λ (x : Task). ltb x.id s.next_id) s.tasks (to_true _ g.3) t i));
    }

pub fine_to : (s : State) → Fine s → Good s
fine_to s f = (
  from_true _ (jobs_to s.jobs f.jobs),
  from_true _ (machines_to s.machines f.machines),
  from_true _ (rising_to 0 s.tasks f.tidy.0),
  from_true _ (every_from (λ (x : Task). ltb x.id s.next_id) s.tasks (λ t i. lt-ltb t.id s.next_id (f.tidy.1 t i))),
)
