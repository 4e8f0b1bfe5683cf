-- Calls, passes and the dark keep states good.
-- Assumes nothing.
use Rattle.std.proofs.Common.{◌≡◌, ℕ, true, false, cond, not, ◌&&◌, eqb, List, map, sym, refl, ap, ◌∙◌, subst, inl, inr}
use Rattle.std.proofs.lemmas.Bool.{eqb-true, eq-eqb, cond_both}
use Rattle.model.specs.State.{Name, Machine, Job, Told, Task, State, is_ready_lem, is_job, is_machine, on_machine, phased, with_tasks, with_machines, with_jobs}
use Rattle.model.specs.Lists.{some, change, same}
use Rattle.model.specs.Settle.{settle}
use Rattle.model.specs.Calls.{Seen, Call, SetJob, EndJob, AddMachine, Close, Reopen, Forget, Report, Tick, Show, heard_all, heard_from, opened, unsure, later, timed, does, down, new_job, reset_job_lem, new_machine, heard}
use Rattle.model.specs.Promise.{StaysGood}
use Rattle.model.proofs.Lists.{clash, bool, find_none, Pass, pass_keep, pass_change, pass_map, Once, once_pass, once_end}
use Rattle.model.proofs.Tasks.{same_eq, unsame_sym, Never}
use Rattle.model.proofs.Settles.{tidy_pass, tidy_settle, unplaced_alike, Fine, fine_from, fine_to}
use Rattle.model.proofs.Acts.Outcomes.{Pre, does_keeps}
use Rattle.model.proofs.Acts.Heard.{heard_pass, heard_id}

-- a pass keeps a state good
pub fine_settle : (s : State) → Fine s → Fine (settle s)
fine_settle s f =
    record {
      jobs = subst (λ (js : List Job). Once (λ (a b : Job). same a.name b.name) js) (sym (unplaced_alike s).2) f.jobs;
      machines = subst (λ (ms : List Machine). Once (λ (a b : Machine). eqb a.num b.num) ms) (sym (unplaced_alike s).1) f.machines;
      tidy = tidy_settle s f.tidy;
    }

fine_jobs : (D : Job → Type 0) (R : Job → Job → Type 0) → ((x y : Job) → R x y → y.name ≡ x.name) → (s : State) {js : List Job} → Pass D R s.jobs js → Fine s → Fine (with_jobs js s)
fine_jobs D R h s p f =
    record { jobs = once_pass (λ (a b : Job). same a.name b.name) D R (λ x y x' y' r q e. ap (λ (n : Name). same n y'.name) (h x x' r) ∙ (ap (same x.name) (h y y' q) ∙ e)) p f.jobs; machines = f.machines; tidy = f.tidy }

pub once_machines_lem : (D : Machine → Type 0) (R : Machine → Machine → Type 0) → ((x y : Machine) → R x y → y.num ≡ x.num) → {xs ys : List Machine} → Pass D R xs ys → Once (λ (a b : Machine). eqb a.num b.num) xs → Once (λ (a b : Machine). eqb a.num b.num) ys
once_machines_lem D R h p o = once_pass (λ (a b : Machine). eqb a.num b.num) D R (λ x y x' y' r q e. ap (λ (n : ℕ). eqb n y'.num) (h x x' r) ∙ (ap (eqb x.num) (h y y' q) ∙ e)) p o

-- a machine of another number is told from this one from both sides
eqb_swap : (a b : ℕ) → eqb a b ≡ false → eqb b a ≡ false
eqb_swap a b e = elim (bool (eqb b a)) [ inl p ↦ clash (eqb a b) (eq-eqb a b (sym (eqb-true b a p))) e | inr p ↦ p ]

abbrev pub AsNum : Machine → Machine → Type 0
AsNum x y = y.num ≡ x.num

fine_change : (k : ℕ) (g : Machine → Machine) → ((m : Machine) → (g m).num ≡ m.num) → (s : State) → Fine s → Fine (with_machines (change (is_machine k) g s.machines) s)
fine_change k g h s f = record { jobs = f.jobs; machines = once_machines_lem (λ x. ⊥) AsNum (λ x y e. e) (pass_change (λ x. ⊥) AsNum (is_machine k) g s.machines (λ x i. refl) (λ x i e. h x)) f.machines; tidy = f.tidy }

fine_tasks : (D : Task → Type 0) (R : Task → Task → Type 0) → ((x y : Task) → R x y → y.id ≡ x.id) → (s : State) {ts : List Task} → Pass D R s.tasks ts → Fine s → Fine (with_tasks ts s)
fine_tasks D R h s p f = record { jobs = f.jobs; machines = f.machines; tidy = tidy_pass D R h s p f.tidy }

abbrev pub AsId : Task → Task → Type 0
AsId x y = (y.id ≡ x.id) × (y.job ≡ x.job)

pub unsure_as : (now : ℕ) (ms : List Machine) (t : Task) → AsId t (unsure now ms t)
unfolding unsure
unsure_as now ms t = cond_both (is_ready_lem t.phase && not (some (λ (m : Machine). is_machine t.machine m && _) ms)) (phased Told t) t (AsId t) (λ _. (refl, refl)) (λ _. (refl, refl))

pub fine_heard : (k l n : ℕ) (xs : List Seen) (s : State) → Fine s → Fine (heard k l n xs s)
fine_heard k l n xs s f = fine_change k (heard_from l n s.now) (λ m. refl) (with_tasks (heard_all k l xs s.tasks) s) (fine_tasks _ _ (heard_id k l) s (heard_pass k l xs s.tasks) f)

pub fine_timed : (t : ℕ) (s : State) → Fine s → Fine (timed t s)
fine_timed t s f =
    let p : Pass Never AsId s.tasks (map (unsure t s.machines) s.tasks) = pass_map Never AsId (unsure t s.machines) s.tasks (λ x i. unsure_as t s.machines x) in
    record { jobs = f.jobs; machines = f.machines; tidy = tidy_pass Never AsId (λ x y r. r.0) s p f.tidy }

-- each call's own change keeps a state good
pub fine_pre : (c : Call) (s : State) → Fine s → Pre Fine c s
fine_pre (SetJob n a c l m) s f = (
  λ e. (record { jobs = once_end _ s.jobs (new_job n a c l m) f.jobs (λ x i. unsame_sym n x.name (find_none (is_job n) s.jobs e x i)); machines = f.machines; tidy = f.tidy }),
  λ j js e. (fine_jobs (λ x. ⊥) (λ x y. y.name ≡ x.name) (λ x y e. e) s (pass_change _ _ (is_job n) (reset_job_lem n a c l m) s.jobs (λ x i. refl) (λ x i q. same_eq n x.name q)) f),
)
fine_pre (EndJob n) s f = (fine_jobs (λ x. Unit {0}) (λ x y. y.name ≡ x.name) (λ x y e. e) s (pass_keep _ _ (λ (j : Job). not (is_job n j)) s.jobs (λ x i e. tt) (λ x i e. refl)) f)
fine_pre (AddMachine k c m tags) s f =
    λ e. (record { jobs = f.jobs; machines = once_end _ s.machines (new_machine k c m tags) f.machines (λ x i. eqb_swap k x.num (find_none (is_machine k) s.machines e x i)); tidy = f.tidy })
fine_pre (Close k) s f = (fine_change k (opened false) (λ m. refl) s f)
fine_pre (Reopen k) s f = (fine_change k (opened true) (λ m. refl) s f)
fine_pre (Forget k) s f =
    let g = fine_tasks (λ x. Unit {0}) (λ x y. y ≡ x) (λ x y e. ap (λ (t : Task). t.id) e) s (pass_keep _ _ (λ (t : Task). not (on_machine k t)) s.tasks (λ x i e. tt) (λ x i e. refl)) f in
    (record { jobs = g.jobs; machines = once_machines_lem (λ x. Unit {0}) AsNum (λ x y e. e) (pass_keep (λ x. Unit {0}) AsNum (λ (m : Machine). not (is_machine k m)) s.machines (λ x i e. tt) (λ x i e. refl)) f.machines; tidy = g.tidy })
fine_pre (Report k l n xs) s f = λ m ms e q. (fine_heard k l n xs s f)
fine_pre (Tick t) s f = (fine_timed (later t s.now) s f)
fine_pre (Show n) s f = tt

-- a call keeps a state good
pub fine_does : (c : Call) (s : State) → Fine s → Fine (does c s).state
fine_does c s f = does_keeps Fine fine_settle c s f (fine_pre c s f)

pub fine_down : (s : State) → Fine s → Fine (down s)
fine_down s f =
    let told : Task → Task = λ t. cond (is_ready_lem t.phase) (phased Told t) t in
    let p : Pass Never AsId s.tasks (map told s.tasks) = pass_map Never AsId told s.tasks (λ t i. cond_both (is_ready_lem t.phase) (phased Told t) t (AsId t) (λ _. (refl, refl)) (λ _. (refl, refl))) in
    record { jobs = f.jobs; machines = once_machines_lem (λ x. ⊥) AsNum (λ x y e. e) (pass_map (λ x. ⊥) AsNum _ s.machines (λ x i. refl)) f.machines; tidy = tidy_pass Never AsId (λ x y r. r.0) s p f.tidy }

-- calls, the dark and passes keep states good
pub stay_good : StaysGood
stay_good s c g = let f = fine_from s g in (fine_to _ (fine_does c s f), fine_to _ (fine_down s f), fine_to _ (fine_settle s f))
