-- Orderly states: jobs are as setting allows, and tasks of the present version are as their job says. A pass keeps that.
-- Assumes nothing.
use Rattle.std.proofs.Common.{◌≡◌, ℕ, ◌≤◌, Bool, true, false, cond, not, ◌⊎◌, List, [], ◌∷◌, sym, refl, ap, ◌∙◌, subst, inl, inr, arith}
use Rattle.std.proofs.lemmas.Bool.{not-true}
use Rattle.model.specs.State.{Job, Ending, Task, State, is_waiting, is_ending, phased, with_tasks}
use Rattle.model.specs.Lists.{some, same}
use Rattle.model.specs.Settle.{ended, fresh, orphans_end, settle, more, unplaced}
use Rattle.model.specs.Calls.{all_most}
use Rattle.rest.proofs.Stuck.{Lawful}
use Rattle.model.proofs.Lists.{clash, In, in_end, some_from, Pass, pass_from}
use Rattle.model.proofs.Tasks.{eq_same, jobless, ended_pass, MayEnd, step_is, steps_are, Put, Never, orphans_pass}
use Rattle.model.proofs.Settles.{Tidy, tidy_pass, tidy_step, orphan_id, EndsOne, unplaced_alike, settle_pass, once_job, Fine}
use Rattle.model.proofs.Acts.{fine_settle}
use Rattle.rest.proofs.Falls.{Wanted, waiting_alive}
use Rattle.rest.proofs.Origins.{Origin, origins}

abbrev pub Like : Task → Job → Type 0
Like t j = (t.version ≤ j.version) × (t.version ≡ j.version → t.spec ≡ j.spec)

pub record Laws (s : State) : Type 0 where
  pub lawful : (j : Job) → In j s.jobs → Lawful j
  pub mosts : all_most s.jobs ≤ 2048
  pub like : (t : Task) (j : Job) → In t s.tasks → In j s.jobs → j.name ≡ t.job → is_ending t.phase ≡ false → Like t j

pub record Kempt (s : State) : Type 0 where
  pub fine : Fine s
  pub laws : Laws s
  pub wanted : Wanted s.jobs s.tasks

-- A PASS

laws_settle : (s : State) → Fine s → Laws s → Laws (settle s)
laws_settle s f h =
    record {
      lawful = λ j i. h.lawful j (jobs j i);
      mosts = subst (λ (js : List Job). all_most js ≤ 2048) (sym (unplaced_alike s).2) h.mosts;
      like = λ t j i k n a. pick t j (jobs j k) n a (origins s f.tidy t i);
    }
  where
    jobs : (j : Job) → In j (settle s).jobs → In j s.jobs
    jobs j i = subst (λ (js : List Job). In j js) (unplaced_alike s).2 i

    pick : (t : Task) (j : Job) → In j s.jobs → j.name ≡ t.job → is_ending t.phase ≡ false → Origin s t → Like t j
    pick t j k n a (inl (x, i, p)) =
        let w = h.like x j i k (n ∙ p.0) (not-true _ (p.3 (ap not a))) in
        (subst (λ (v : ℕ). v ≤ j.version) (sym p.1) w.0, λ e. p.2 ∙ w.1 (sym p.1 ∙ e))
    pick t j k n a (inr (g, i, p, q, r, z)) =
        let c : g ≡ j = once_job s.jobs f.jobs g j i k (eq_same _ _ (sym p ∙ sym n)) in
        let v : t.version ≡ j.version = q ∙ ap (λ (y : Job). y.version) c in (omega arith, λ e. r ∙ ap (λ (y : Job). y.spec) c)

orphans_wanted : (js : List Job) (ts : List Task) → Wanted js (orphans_end js ts)
unfolding orphans_end
orphans_wanted js [] t i e = absurd i
orphans_wanted js (x ∷ xs) t i e = pick (some (λ (j : Job). same j.name x.job) js) (is_waiting x.phase) refl i (λ k. orphans_wanted js xs t k e)
  where
    O : List Task
    O = orphans_end js xs

    pick : (a b : Bool) → some (λ (j : Job). same j.name x.job) js ≡ a → In t (cond a (x ∷ O) (cond b O (phased Ending x ∷ O))) → (In t O → is_ending t.phase ≡ true) → is_ending t.phase ≡ true
    pick true b p (inl q) r = clash (some (λ (j : Job). same j.name x.job) js) p (not-true _ (sym (ap (jobless js) q) ∙ e))
    pick true b p (inr k) r = r k
    pick false true p k r = r k
    pick false false p (inl q) r = ap (λ (z : Task). is_ending z.phase) q
    pick false false p (inr k) r = r k

ending_is : is_ending Ending ≡ true
ending_is = refl

wanted_settle : (s : State) → Fine s → Wanted (settle s).jobs (settle s).tasks
unfolding ended
wanted_settle s f = subst (λ (ks : List Job). Wanted ks (settle s).tasks) (sym (unplaced_alike s).2) placing
  where
    js : List Job
    js = s.jobs

    P : State → Type 0
    P u = Tidy u × Wanted js u.tasks

    via : (D : Task → Type 0) (R : Task → Task → Type 0) → ((x y : Task) → R x y → (y ≡ x) ⊎ (is_ending y.phase ≡ true)) → {xs ys : List Task} → Pass D R xs ys → Wanted js xs → Wanted js ys
    via D R h {xs} p w t i e = let q = pass_from D R p t i in pick q.0 q.1 q.2 q.4 (h q.0 q.2 q.3)
      where
        pick : (x : Task) → In x xs → (y : Task) → t ≡ y → (y ≡ x) ⊎ (is_ending y.phase ≡ true) → is_ending t.phase ≡ true
        pick x k y c (inl d) = ap (λ (z : Task). is_ending z.phase) (c ∙ d) ∙ w x k (sym (ap (jobless js) (c ∙ d)) ∙ e)
        pick x k y c (inr d) = ap (λ (z : Task). is_ending z.phase) c ∙ d

    ends : (t x y : Task) → EndsOne t x y → (y ≡ x) ⊎ (is_ending y.phase ≡ true)
    ends t x y (inl e) = inl e
    ends t x y (inr e) = inr (ap (λ (z : Task). is_ending z.phase) e.1.1 ∙ ending_is)

    ending : (j : Job) (u : State) → P u → (xs : List Task) → MayEnd u j xs → Wanted js (ended xs u.tasks)
    ending j u p [] m = p.1
    ending j u p (x ∷ xs) m = via _ _ (ends x) (ended_pass 0 u.tasks p.0.0 x m.0 xs) p.1

    coming : (j : Job) → In j js → (u : State) → Wanted js u.tasks → Wanted js (more j u).tasks
    coming j ji u w t i e = pick (in_end t (fresh j u.next_id) u.tasks i)
      where
        pick : In t u.tasks ⊎ (t ≡ fresh j u.next_id) → is_ending t.phase ≡ true
        pick (inl k) = w t k e
        pick (inr c) = clash (some (λ (k : Job). same k.name t.job) js) (some_from (λ (k : Job). same k.name t.job) js j ji (eq_same _ _ (sym (ap (λ (z : Task). z.job) c)))) (not-true _ e)

    all : P (unplaced s)
    all = steps_are P js (with_tasks (orphans_end js s.tasks) s) (λ j ji u p. (tidy_step j u p.0, step_is (λ (v : State). Wanted js v.tasks) j u (ending j u p) (λ xs m g. coming j ji (with_tasks (ended xs u.tasks) u) (ending j u p xs m))))
        (tidy_pass _ _ (orphan_id js) s (orphans_pass js s.tasks) f.tidy, orphans_wanted js s.tasks)

    placing : Wanted js (settle s).tasks
    placing t i e = let q = pass_from Never Put (settle_pass s f.tidy) t i in pick q.0 q.1 q.2 q.4 q.3
      where
        pick : (x : Task) → In x (unplaced s).tasks → (y : Task) → t ≡ y → Put x y → is_ending t.phase ≡ true
        pick x k y c (inl d) = ap (λ (z : Task). is_ending z.phase) (c ∙ d) ∙ all.1 x k (sym (ap (jobless js) (c ∙ d)) ∙ e)
        pick x k y c (inr d) = clash (is_ending x.phase) (all.1 x k (sym (ap (jobless js) (c ∙ d.3)) ∙ e)) (waiting_alive x.phase d.0)

pub kempt_settle : (s : State) → Fine s → Laws s → Kempt (settle s)
kempt_settle s f h = record { fine = fine_settle s f; laws = laws_settle s f h; wanted = wanted_settle s f }
