-- No job gets more tasks than its most, nor do more of its tasks run, on all machines together.
-- Assumes nothing.
use Rattle.std.proofs.Common.{◌≡◌, ℕ, ◌<◌, ◌≤◌, Bool, true, false, not, ◌&&◌, ltb, leb, ◌⊎◌, List, [], ◌∷◌, ◌++◌, length, sym, refl, ap, ◌∙◌, subst, inl, inr, le_trans, arith}
use Rattle.std.proofs.lemmas.Bool.{and_parts, and_from, ltb-true, leb-true, le-leb}
use Rattle.model.specs.Lists.{keep, find, change, same}
use Rattle.model.specs.State.{Name, Spec, Job, Task, State, is_job, of_job, on_machine, with_tasks}
use Rattle.model.specs.Settle.{mine, alive, new_ones, may_grow_lem, more, ended, fresh, for_job, orphans_end, unplaced, settle}
use Rattle.model.specs.Calls.{Call, SetJob, EndJob, AddMachine, Close, Reopen, Forget, Report, Tick, Show, No, Yes, Out, new_job, reset_job_lem, later, does, down}
use Rattle.model.specs.Promise.{NeverMore, all_ok, Raises, SetsAJob}
use Rattle.model.specs.Always.{Raised, Spares}
use Rattle.model.proofs.Lists.{to_true, from_true, clash, bool, In, in_from, in_to, in_end, find_none, in_keep, bump, keep_end, keep_nothing, Pass, pass_change, pass_from, pass_down}
use Rattle.model.proofs.Tasks.{same_eq, eq_same, orphans_pass, MayEnd, step_is, steps_are}
use Rattle.model.proofs.Settles.{Tidy, tidy_pass, tidy_step, orphan_id, unplaced_alike, once_job, Fine, fine_from}
use Rattle.model.proofs.Acts.{Must, does_is, fine_pre}
use Rattle.model.proofs.Kin.{Same, Any, ended_kin, orphans_kin, settle_kin, heard_kin, keep_kin, timed_kin, down_kin}

-- THE JOB OF A NAME HAS NO MORE TASKS THAN ITS MOST

abbrev pub Fit : Name → List Job → List Task → Type 0
Fit n js ts = (j : Job) → In j js → j.name ≡ n → length (mine j ts) ≤ j.most

abbrev pub FitIn : Name → State → Type 0
FitIn n s = Fit n s.jobs s.tasks

fit_from : (s : State) (js : List Job) → all_ok s js ≡ true → (j : Job) → In j js → length (mine j s.tasks) ≤ j.most
unfolding all_ok
fit_from s [] e j i = absurd i
fit_from s (k ∷ ks) e j (inl p) = subst (λ (x : Job). length (mine x s.tasks) ≤ x.most) (sym p) (leb-true _ _ (and_parts _ _ e).0)
fit_from s (k ∷ ks) e j (inr i) = fit_from s ks (and_parts (leb (length (mine k s.tasks)) k.most) (all_ok s ks) e).1 j i

fit_to : (s : State) (js : List Job) → ((j : Job) → In j js → length (mine j s.tasks) ≤ j.most) → all_ok s js ≡ true
unfolding all_ok
fit_to s [] h = refl
fit_to s (k ∷ ks) h = and_from _ _ (le-leb (length (mine k s.tasks)) k.most (h k (inl refl))) (fit_to s ks (λ j i. h j (inr i)))

-- tasks that go on stay of their job
fit_pass : (n : Name) (js : List Job) {xs ys : List Task} → Pass Any Same xs ys → Fit n js xs → Fit n js ys
fit_pass n js p f j i e = le_trans (pass_down Any Same (of_job j.name) (λ x y r q. sym (ap (same j.name) r.2) ∙ q) p) (f j i e)

-- THE PASS

module _ (n : Name) (js : List Job) (one : (a b : Job) → In a js → In b js → same a.name b.name ≡ true → a ≡ b) where
  fit_ended : (k : Job) (s : State) → Tidy s → Fit n js s.tasks → (xs : List Task) → MayEnd s k xs → Fit n js (ended xs s.tasks)
  fit_ended k s h f xs m = fit_pass n js (ended_kin k s h xs m) f

  fit_more : (k : Job) → In k js → (s : State) → Fit n js s.tasks → may_grow_lem k s ≡ true → Fit n js (more k s).tasks
  fit_more k ki s f g j i q = rw (keep_end (of_job j.name) s.tasks (fresh k s.next_id)) (pick (same j.name k.name) refl)
    where
      room : length (mine k s.tasks) < k.most
      room =
          let a = ltb (length (new_ones k (alive (mine k s.tasks)))) k.count in let b = ltb (length (mine k s.tasks)) k.most in let c = ltb (length s.tasks) 2048 in let d = ltb s.next_id 4611686018427387904 in
          ltb-true (length (mine k s.tasks)) k.most (and_parts a b (and_parts (a && b) c (and_parts (a && b && c) d g).0).0).1

      pick : (b : Bool) → same j.name k.name ≡ b → bump b (length (mine j s.tasks)) ≤ j.most
      pick true e = subst (λ (x : Job). length (mine x s.tasks) < x.most) (sym (one j k i ki e)) room
      pick false e = f j i q

  fit_step : (k : Job) → In k js → (s : State) → Tidy s → Fit n js s.tasks → Fit n js (for_job k s).tasks
  fit_step k ki s h f = step_is (λ (u : State). Fit n js u.tasks) k s (fit_ended k s h f) (λ xs m g. fit_more k ki (with_tasks (ended xs s.tasks) s) (fit_ended k s h f xs m) g)

fit_settle : (n : Name) (s : State) → Fine s → FitIn n s → FitIn n (settle s)
fit_settle n s f h = subst (λ (js : List Job). Fit n js (settle s).tasks) (sym (unplaced_alike s).2) (fit_pass n s.jobs (settle_kin s f.tidy) steps.1)
  where
    P : State → Type 0
    P u = Tidy u × Fit n s.jobs u.tasks

    steps : P (unplaced s)
    steps = steps_are P s.jobs (with_tasks (orphans_end s.jobs s.tasks) s) (λ k i u p. (tidy_step k u p.0, fit_step n s.jobs (once_job s.jobs f.jobs) k i u p.0 p.1))
        (tidy_pass _ _ (orphan_id s.jobs) s (orphans_pass s.jobs s.tasks) f.tidy, fit_pass n s.jobs (orphans_kin s.jobs s.tasks) h)

-- SETTING A JOB

fit_new : (n k : Name) (a : Spec) (c l m : ℕ) (s : State) → FitIn n s → (k ≡ n → Raised n m s) → find (is_job k) s.jobs ≡ [] → Fit n (s.jobs ++ (new_job k a c l m ∷ [])) s.tasks
fit_new n k a c l m s h r e j i q = elim (in_end j (new_job k a c l m) s.jobs i) [ inl p ↦ h j p q | inr p ↦ subst (λ (x : Job). length (mine x s.tasks) ≤ x.most) (sym p) (le_trans (keep_nothing (of_job k) s.tasks (nobody (sym (ap (λ (x : Job). x.name) p) ∙ q))) (omega arith)) ]
  where
    nobody : k ≡ n → (t : Task) → In t s.tasks → of_job k t ≡ false
    nobody z t ti = elim (bool (of_job k t)) [ inl p ↦ let w = (r z).1 t (in_to t s.tasks ti) (sym (same_eq k t.job p) ∙ z) in clash (same k w.0.name) (eq_same k w.0.name (z ∙ sym w.2)) (find_none (is_job k) s.jobs e w.0 (in_from w.1)) | inr p ↦ p ]

fit_reset : (n k : Name) (a : Spec) (c l m : ℕ) (s : State) → FitIn n s → (k ≡ n → Raised n m s) → Fit n (change (is_job k) (reset_job_lem k a c l m) s.jobs) s.tasks
fit_reset n k a c l m s h r j i q =
    let w = pass_from (λ x. ⊥) Resets (pass_change (λ x. ⊥) Resets (is_job k) (reset_job_lem k a c l m) s.jobs (λ x z. inl refl) (λ x z e. inr (e, refl))) j i in
    subst Small (sym w.4) (pick w.0 w.2 w.1 w.3 (sym (ap (λ (x : Job). x.name) w.4) ∙ q))
  where
    Resets : Job → Job → Type 0
    Resets x y = (y ≡ x) ⊎ ((same k x.name ≡ true) × (y ≡ reset_job_lem k a c l m x))

    Small : Job → Type 0
    Small x = length (mine x s.tasks) ≤ x.most

    pick : (x y : Job) → In x s.jobs → Resets x y → y.name ≡ n → Small y
    pick x y z (inl e) p = subst Small (sym e) (h x z (sym (ap (λ (v : Job). v.name) e) ∙ p))
    pick x y z (inr e) p =
        let kn : k ≡ n = sym (ap (λ (v : Job). v.name) e.1) ∙ p in let kx : k ≡ x.name = same_eq k x.name e.0 in
        let g : length (keep (of_job k) s.tasks) ≤ m = le_trans (subst (λ (v : Name). length (keep (of_job v) s.tasks) ≤ x.most) (sym kx) (h x z (sym kx ∙ kn))) ((r kn).0 x (in_to x s.jobs z) (sym kx ∙ kn)) in
        subst Small (sym e.1) g

-- EVERY CALL

-- if it spares the job where it is answered by yes, the job has no more than its most afterwards
abbrev Fits : Name → Call → State → Out → Type 0
Fits n (SetJob k a c l m) s o = (k ≡ n → o.reply ≡ Yes → Raised n m s) → FitIn n o.state
Fits n (EndJob k) s o = FitIn n o.state
Fits n (AddMachine k c m tags) s o = FitIn n o.state
Fits n (Close k) s o = FitIn n o.state
Fits n (Reopen k) s o = FitIn n o.state
Fits n (Forget k) s o = FitIn n o.state
Fits n (Report k l i xs) s o = FitIn n o.state
Fits n (Tick t) s o = FitIn n o.state
Fits n (Show k) s o = FitIn n o.state

fits_must : (n : Name) (c : Call) (s : State) → Fine s → FitIn n s → Must (Fits n c s) c s
fits_must n (SetJob k a c l m) s f h =
    let g = fine_pre (SetJob k a c l m) s f in
    (λ e r. fit_settle n _ (g.0 e) (fit_new n k a c l m s h (λ z. r z refl) e), λ j js e r. fit_settle n _ (g.1 j js e) (fit_reset n k a c l m s h (λ z. r z refl)))
fits_must n (EndJob k) s f h = fit_settle n _ (fine_pre (EndJob k) s f) (λ j i. h j (in_keep (λ (x : Job). not (is_job k x)) s.jobs j i).0)
fits_must n (AddMachine k c m tags) s f h = λ e. fit_settle n _ (fine_pre (AddMachine k c m tags) s f e) h
fits_must n (Close k) s f h = fit_settle n _ (fine_pre (Close k) s f) h
fits_must n (Reopen k) s f h = fit_settle n _ (fine_pre (Reopen k) s f) h
fits_must n (Forget k) s f h = fit_settle n _ (fine_pre (Forget k) s f) (fit_pass n s.jobs (keep_kin (λ (t : Task). not (on_machine k t)) s.tasks) h)
fits_must n (Report k l i xs) s f h = λ m ms e q. fit_settle n _ (fine_pre (Report k l i xs) s f m ms e q) (fit_pass n s.jobs (heard_kin k l xs s.tasks) h)
fits_must n (Tick t) s f h = fit_settle n _ (fine_pre (Tick t) s f) (fit_pass n s.jobs (timed_kin (later t s.now) s.machines s.tasks) h)
fits_must n (Show k) s f h = h

pub fit_does : (n : Name) (c : Call) (s : State) → Fine s → FitIn n s → Spares n c s → FitIn n (does c s).state
fit_does n c s f h = pick c (does_is (Fits n c s) c s (refused c) (fits_must n c s f h))
  where
    refused : (d : Call) (k : ℕ) → Fits n d s (record { reply = No k; state = s })
    refused (SetJob k a q l m) i = λ r. h
    refused (EndJob k) i = h
    refused (AddMachine k q m tags) i = h
    refused (Close k) i = h
    refused (Reopen k) i = h
    refused (Forget k) i = h
    refused (Report k l m xs) i = h
    refused (Tick t) i = h
    refused (Show k) i = h

    pick : (d : Call) → Fits n d s (does d s) → Spares n d s → FitIn n (does d s).state
    pick (SetJob k a q l m) p r = p r
    pick (EndJob k) p r = p
    pick (AddMachine k q m tags) p r = p
    pick (Close k) p r = p
    pick (Reopen k) p r = p
    pick (Forget k) p r = p
    pick (Report k l m xs) p r = p
    pick (Tick t) p r = p
    pick (Show k) p r = p

pub fit_down : (n : Name) (s : State) → FitIn n s → FitIn n (down s)
fit_down n s h = fit_pass n s.jobs (down_kin s) h

raises : {n : Name} {a : Spec} {c l m : ℕ} {s : State} → Raises (SetJob n a c l m) s → Raised n m s
raises (Raises.set n a c l m s p q) = (p, q)

pub never_more_lem : NeverMore
never_more_lem c s g a r = let h = fit_from s s.jobs (to_true _ a) in from_true _ (fit_to (does c s).state (does c s).state.jobs (λ j i. fit_does j.name c s (fine_from s g) (λ k ki e. h k ki) (spares j.name c r) j i refl))
  where
    spares : (n : Name) (d : Call) → (SetsAJob d → Raises d s) → Spares n d s
    spares n (SetJob k b q l m) z = λ e y. subst (λ (v : Name). Raised v m s) e (raises (z (k, b, q, l, m, refl)))
    spares n (EndJob k) z = tt
    spares n (AddMachine k q m tags) z = tt
    spares n (Close k) z = tt
    spares n (Reopen k) z = tt
    spares n (Forget k) z = tt
    spares n (Report k l m xs) z = tt
    spares n (Tick t) z = tt
    spares n (Show k) z = tt
