-- What is left to do never grows in a pass, and where it stays the same the pass has done nothing for jobs.
-- Assumes nothing.
use Rattle.std.proofs.Common.{◌≡◌, ℕ, suc, ◌<◌, ◌≤◌, Bool, true, false, cond, not, ◌&&◌, eqb, ltb, ◌⊎◌, List, [], ◌∷◌, sym, refl, ap, ◌∙◌, subst, inl, inr, arith}
use Rattle.std.proofs.lemmas.Bool.{false≢true, and_parts, and_from, and_right, not-true, ltb-true}
use Rattle.model.specs.State.{Job, Phase, Waiting, Told, Ready, Ending, Task, State, is_waiting, is_ready_lem, is_ending, of_job, phased, with_tasks}
use Rattle.model.specs.Lists.{some, keep, same}
use Rattle.model.specs.Settle.{mine, alive, ended, for_job, for_jobs, orphans_end, place_all_lem, settle, may_grow_lem, more, unplaced, old_to_end, new_to_end}
use Rattle.rest.specs.Rest.{is_alive, is_new, missing, to_do}
use Rattle.model.proofs.Lists.{clash, bool, In, in_keep, keep_yes, keep_no, count_cons, bump, some_from, Pass, pass_up, pass_down}
use Rattle.model.proofs.Tasks.{same_eq, eq_same, jobless, Ends, orphans_pass, Put, Never}
use Rattle.model.proofs.Settles.{Tidy, tidy_pass, tidy_step, orphan_id, settle_pass}
use Rattle.rest.proofs.Steps.{new_count, Idle, step_cases, idle_same, to_end_in}
use Rattle.rest.proofs.Lacks.{news, lacks, new_count_is, missing_le, alives, to_do_le, ended_alive, ended_others, ended_one, grown_less}

-- A STEP

abbrev pub Less : List Job → State → State → Type 0
Less js s u = to_do js u.tasks < to_do js s.tasks

module _ (js : List Job) (one : (a b : Job) → In a js → In b js → same a.name b.name ≡ true → a ≡ b) where
  pub end_parts : (j : Job) → In j js → (s : State) → Tidy s → (t : Task) (ts : List Task) → In t s.tasks → of_job j.name t ≡ true → is_alive t ≡ true → (is_new j t ≡ false) ⊎ (j.count < news j s.tasks) → (alives (ended (t ∷ ts) s.tasks) < alives s.tasks) × (missing js (ended (t ∷ ts) s.tasks) ≤ missing js s.tasks)
  end_parts j ji s h t ts i o a c = (ended_alive s.tasks h.0 t i a ts, missing_le js s.tasks (ended (t ∷ ts) s.tasks) (λ k ki. less k ki (is_new k t) refl c))
    where
      keeps_new : (k : Job) → is_new k t ≡ false → lacks k (ended (t ∷ ts) s.tasks) ≤ lacks k s.tasks
      keeps_new k e = let p : news k s.tasks ≤ news k (ended (t ∷ ts) s.tasks) = ended_others k s.tasks h.0 t i e ts in omega arith

      is_j : (k : Job) → In k js → is_new k t ≡ true → k ≡ j
      is_j k ki e = let p = (and_parts _ _ (and_parts _ _ e).0).0 in one k j ki ji (eq_same k.name j.name (same_eq k.name t.job p ∙ sym (same_eq j.name t.job o)))

      less : (k : Job) → In k js → (b : Bool) → is_new k t ≡ b → (is_new j t ≡ false) ⊎ (j.count < news j s.tasks) → lacks k (ended (t ∷ ts) s.tasks) ≤ lacks k s.tasks
      less k ki false e d = keeps_new k e
      less k ki true e (inl d) = clash (is_new k t) e (ap (λ (z : Job). is_new z t) (is_j k ki e) ∙ d)
      less k ki true e (inr d) = subst (λ (z : Job). lacks z (ended (t ∷ ts) s.tasks) ≤ lacks z s.tasks) (sym (is_j k ki e)) (let p : news j s.tasks ≤ suc (news j (ended (t ∷ ts) s.tasks)) = ended_one j s.tasks h.0 t ts in omega arith)

  end_less : (j : Job) → In j js → (s : State) → Tidy s → (t : Task) (ts : List Task) → In t s.tasks → of_job j.name t ≡ true → is_alive t ≡ true → (is_new j t ≡ false) ⊎ (j.count < news j s.tasks) → Less js s (with_tasks (ended (t ∷ ts) s.tasks) s)
  unfolding to_do
  end_less j ji s h t ts i o a c =
      let p = end_parts j ji s h t ts i o a c in
      let x : alives (ended (t ∷ ts) s.tasks) < alives s.tasks = p.0 in let y : missing js (ended (t ∷ ts) s.tasks) ≤ missing js s.tasks = p.1 in omega arith

  pub step_falls : (j : Job) → In j js → (s : State) → Tidy s → Less js s (for_job j s) ⊎ (Idle j s × (for_job j s ≡ s))
  step_falls j ji s h = step_cases (λ (u : State). Less js s u ⊎ (Idle j s × (for_job j s ≡ s))) j s olds newer (λ g p q. inl (grown_less js j ji s g)) (λ i. inr (i, idle_same j s i))
    where
      known : (f : Task → Bool) (t : Task) → In t (keep f (alive (mine j s.tasks))) → In t s.tasks × (of_job j.name t ≡ true) × (is_alive t ≡ true) × (f t ≡ true)
      known f t i = let a = in_keep f (alive (mine j s.tasks)) t i in let b = in_keep is_alive (mine j s.tasks) t a.0 in let c = in_keep (of_job j.name) s.tasks t b.0 in (c.0, c.1, b.1, a.1)

      olds : (t : Task) (ts : List Task) → old_to_end j s ≡ t ∷ ts → let u = with_tasks (ended (t ∷ ts) s.tasks) s in (may_grow_lem j u ≡ true → Less js s (more j u) ⊎ (Idle j s × (for_job j s ≡ s))) × (Less js s u ⊎ (Idle j s × (for_job j s ≡ s)))
      olds t ts e = (λ g. inl (let p : Less js u (more j u) = grown_less js j ji u g in let q : Less js s u = first in omega arith), inl first)
        where
          u : State
          u = with_tasks (ended (t ∷ ts) s.tasks) s

          k : In t s.tasks × (of_job j.name t ≡ true) × (is_alive t ≡ true) × (not (eqb t.version j.version) ≡ true)
          k = known (λ (x : Task). not (eqb x.version j.version)) t (to_end_in s j _ _ t (subst (λ (xs : List Task). In t xs) (sym e) (inl refl)))

          first : Less js s u
          first = end_less j ji s h t ts k.0 k.1 k.2 (inl (and_right (of_job j.name t && is_alive t) (eqb t.version j.version) (not-true _ k.3)))

      newer : ltb j.count (new_count j s) ≡ true → (t : Task) (ts : List Task) → old_to_end j s ≡ [] → new_to_end j s ≡ t ∷ ts → Less js s (with_tasks (ended (t ∷ ts) s.tasks) s) ⊎ (Idle j s × (for_job j s ≡ s))
      newer r t ts p e =
          let k = known (λ (x : Task). eqb x.version j.version) t (to_end_in s j _ _ t (subst (λ (xs : List Task). In t xs) (sym e) (inl refl))) in
          inl (end_less j ji s h t ts k.0 k.1 k.2 (inr (subst (λ (n : ℕ). j.count < n) (new_count_is j s) (ltb-true j.count (new_count j s) r))))

  pub steps_fall : (xs : List Job) → ((j : Job) → In j xs → In j js) → (s : State) → Tidy s → Less js s (for_jobs xs s) ⊎ (((j : Job) → In j xs → Idle j s) × (for_jobs xs s ≡ s))
  unfolding for_jobs
  steps_fall [] sub s h = inr (λ j i. absurd i, refl)
  steps_fall (j ∷ xs) sub s h = pick (λ u t. steps_fall xs (λ k i. sub k (inr i)) u t) (step_falls j (sub j (inl refl)) s h)
    where
      P : State → Type 0
      P u = Less js s (for_jobs xs u) ⊎ (((k : Job) → In k (j ∷ xs) → Idle k s) × (for_jobs xs u ≡ s))

      then : Less js s (for_job j s) → Less js (for_job j s) (for_jobs xs (for_job j s)) ⊎ (((k : Job) → In k xs → Idle k (for_job j s)) × (for_jobs xs (for_job j s) ≡ for_job j s)) → P (for_job j s)
      then l (inl m) = inl (omega arith)
      then l (inr m) = inl (subst (λ (u : State). Less js s u) (sym m.1) l)

      both : Idle j s → ((k : Job) → In k xs → Idle k s) → (k : Job) → In k (j ∷ xs) → Idle k s
      both i f k (inl e) = subst (λ (z : Job). Idle z s) (sym e) i
      both i f k (inr m) = f k m

      same' : Idle j s → Less js s (for_jobs xs s) ⊎ (((k : Job) → In k xs → Idle k s) × (for_jobs xs s ≡ s)) → P s
      same' i (inl m) = inl m
      same' i (inr m) = inr (both i m.0, m.1)

      pick : ((u : State) → Tidy u → Less js u (for_jobs xs u) ⊎ (((k : Job) → In k xs → Idle k u) × (for_jobs xs u ≡ u))) → Less js s (for_job j s) ⊎ (Idle j s × (for_job j s ≡ s)) → P (for_job j s)
      pick rest (inl l) = then l (rest (for_job j s) (tidy_step j s h))
      pick rest (inr (i, e)) = subst P (sym e) (same' i (rest s h))

-- ORPHANS

pub ending_ending : (t : Task) → is_ending t.phase ≡ true → phased Ending t ≡ t
ending_ending t e = pick t.phase refl e
  where
    pick : (p : Phase) → t.phase ≡ p → is_ending p ≡ true → phased Ending t ≡ t
    pick Waiting q f = absurd (false≢true f)
    pick Told q f = absurd (false≢true f)
    pick Ready q f = absurd (false≢true f)
    pick Ending q f = λ i. record { id = t.id; job = t.job; version = t.version; spec = t.spec; phase = sym q i; machine = t.machine; life = t.life }

pub waiting_alive : (p : Phase) → is_waiting p ≡ true → is_ending p ≡ false
waiting_alive Waiting e = refl
waiting_alive Told e = refl
waiting_alive Ready e = refl
waiting_alive Ending e = absurd (false≢true e)

pub ready_alive : (p : Phase) → is_ready_lem p ≡ true → is_ending p ≡ false
ready_alive Waiting e = refl
ready_alive Told e = refl
ready_alive Ready e = refl
ready_alive Ending e = absurd (false≢true e)

ends_alive : (x y : Task) → Ends x y → is_alive y ≡ true → is_alive x ≡ true
ends_alive x y h e = absurd (false≢true (sym (ap is_alive h.1) ∙ e))

pub orphans_le : (js : List Job) (ts : List Task) → alives (orphans_end js ts) ≤ alives ts
orphans_le js ts = pass_down _ _ is_alive h (orphans_pass js ts)
  where
    h : (x y : Task) → (y ≡ x) ⊎ ((jobless js x ≡ true) × Ends x y) → is_alive y ≡ true → is_alive x ≡ true
    h x y (inl e) q = sym (ap is_alive e) ∙ q
    h x y (inr e) q = ends_alive x y e.1 q

jobless_not : (js : List Job) (k : Job) → In k js → (x : Task) → jobless js x ≡ true → is_new k x ≡ false
jobless_not js k i x e =
    elim (bool (is_new k x)) [ inl p ↦ clash (some (λ (j : Job). same j.name x.job) js) (some_from (λ (j : Job). same j.name x.job) js k i (and_parts _ _ (and_parts _ _ p).0).0) (not-true _ e) | inr p ↦ p ]

pub orphans_news : (js : List Job) (ts : List Task) (k : Job) → In k js → news k ts ≤ news k (orphans_end js ts)
orphans_news js ts k i = pass_up _ _ (is_new k) (λ x d. jobless_not js k i x d.0) h (orphans_pass js ts)
  where
    h : (x y : Task) → (y ≡ x) ⊎ ((jobless js x ≡ true) × Ends x y) → is_new k x ≡ true → is_new k y ≡ true
    h x y (inl e) q = ap (is_new k) e ∙ q
    h x y (inr e) q = clash (is_new k x) q (jobless_not js k i x e.0)

abbrev pub Wanted : List Job → List Task → Type 0
Wanted js ts = (t : Task) → In t ts → jobless js t ≡ true → is_ending t.phase ≡ true

pub orphans_fall : (js : List Job) (ts : List Task) → (alives (orphans_end js ts) < alives ts) ⊎ ((orphans_end js ts ≡ ts) × Wanted js ts)
unfolding orphans_end keep
orphans_fall js [] = inr (refl, λ t i. absurd i)
orphans_fall js (t ∷ ts) = pick (some (λ (j : Job). same j.name t.job) js) (is_waiting t.phase) (is_ending t.phase) refl refl refl (orphans_fall js ts)
  where
    R : List Task → List Task → Type 0
    R ys xs = (alives ys < alives xs) ⊎ ((ys ≡ xs) × Wanted js xs)

    O : List Task
    O = orphans_end js ts

    up : (a : Bool) (m n : ℕ) → m < n → bump a m < bump a n
    up true m n l = omega arith
    up false m n l = l

    all : (jobless js t ≡ true → is_ending t.phase ≡ true) → Wanted js ts → Wanted js (t ∷ ts)
    all f w x (inl e) j = ap (λ (z : Task). is_ending z.phase) e ∙ f (sym (ap (jobless js) e) ∙ j)
    all f w x (inr i) j = w x i j

    cons : (jobless js t ≡ true → is_ending t.phase ≡ true) → R O ts → R (t ∷ O) (t ∷ ts)
    cons f (inl l) = inl (rw (count_cons is_alive t O, count_cons is_alive t ts) (up (is_alive t) _ _ l))
    cons f (inr h) = inr (ap (λ ys. t ∷ ys) h.0, all f h.1)

    pick : (a b c : Bool) → some (λ (j : Job). same j.name t.job) js ≡ a → is_waiting t.phase ≡ b → is_ending t.phase ≡ c → R O ts → R (cond a (t ∷ O) (cond b O (phased Ending t ∷ O))) (t ∷ ts)
    pick true b c p q e r = cons (λ j. clash (some (λ (k : Job). same k.name t.job) js) p (not-true _ j)) r
    pick false true c p q e r = inl (let l : alives O ≤ alives ts = orphans_le js ts in rw (keep_yes is_alive t ts (ap not (waiting_alive t.phase q))) (omega arith))
    pick false false true p q e r = subst (λ (z : Task). R (z ∷ O) (t ∷ ts)) (sym (ending_ending t e)) (cons (λ j. e) r)
    pick false false false p q e r = inl (let l : alives O ≤ alives ts = orphans_le js ts in rw (keep_yes is_alive t ts (ap not e), keep_no is_alive (phased Ending t) O refl) (omega arith))

-- A PASS

pub record Quiet (s : State) : Type 0 where
  pub idle : (j : Job) → In j s.jobs → Idle j s
  pub wanted : Wanted s.jobs s.tasks
  pub same : unplaced s ≡ s

told_alive : is_ending Told ≡ false
told_alive = refl

pub placing_le : (js : List Job) {xs ys : List Task} → Pass Never Put xs ys → to_do js ys ≤ to_do js xs
placing_le js {xs} {ys} p = to_do_le js xs ys (pass_down Never Put is_alive back p) (λ k i. pass_up Never Put (is_new k) (λ x d. absurd d) (on k) p)
  where
    back : (x y : Task) → Put x y → is_alive y ≡ true → is_alive x ≡ true
    back x y (inl e) q = sym (ap is_alive e) ∙ q
    back x y (inr e) q = ap not (waiting_alive x.phase e.0)

    on : (k : Job) (x y : Task) → Put x y → is_new k x ≡ true → is_new k y ≡ true
    on k x y (inl e) q = ap (is_new k) e ∙ q
    on k x y (inr e) q =
        let a = and_parts (of_job k.name x && is_alive x) (eqb x.version k.version) q in let b = and_parts (of_job k.name x) (is_alive x) a.0 in
        ap (is_new k) e.3 ∙ and_from _ _ (and_from _ _ b.0 (ap not told_alive)) a.1

module _ (s : State) (one : (a b : Job) → In a s.jobs → In b s.jobs → same a.name b.name ≡ true → a ≡ b) (h : Tidy s) where
  unplaced_falls : Less s.jobs s (unplaced s) ⊎ Quiet s
  unfolding to_do
  unplaced_falls = pick (orphans_fall js ts)
    where
      js : List Job
      js = s.jobs

      ts : List Task
      ts = s.tasks

      O : State
      O = with_tasks (orphans_end js ts) s

      tidy : Tidy O
      tidy = tidy_pass _ _ (orphan_id js) s (orphans_pass js ts) h

      m : missing js (orphans_end js ts) ≤ missing js ts
      m = missing_le js ts (orphans_end js ts) (λ k i. let l : news k ts ≤ news k (orphans_end js ts) = orphans_news js ts k i in omega arith)

      steps : (u : State) → Tidy u → Less js u (for_jobs js u) ⊎ (((j : Job) → In j js → Idle j u) × (for_jobs js u ≡ u))
      steps u t = steps_fall js one js (λ j i. i) u t

      on : Less js s O → Less js O (for_jobs js O) ⊎ (((j : Job) → In j js → Idle j O) × (for_jobs js O ≡ O)) → Less js s (unplaced s)
      on l (inl k) = omega arith
      on l (inr k) = subst (λ (u : State). Less js s u) (sym k.1) l

      still : Wanted js ts → Less js s (for_jobs js s) ⊎ (((j : Job) → In j js → Idle j s) × (for_jobs js s ≡ s)) → orphans_end js ts ≡ ts → Less js s (unplaced s) ⊎ Quiet s
      still w (inl k) e = inl (subst (λ (xs : List Task). Less js s (for_jobs js (with_tasks xs s))) (sym e) k)
      still w (inr k) e = inr (record { idle = k.0; wanted = w; same = ap (λ (xs : List Task). for_jobs js (with_tasks xs s)) e ∙ k.1 })

      pick : (alives (orphans_end js ts) < alives ts) ⊎ ((orphans_end js ts ≡ ts) × Wanted js ts) → Less js s (unplaced s) ⊎ Quiet s
      pick (inl l) = inl (on (let k : missing js (orphans_end js ts) ≤ missing js ts = m in omega arith) (steps O tidy))
      pick (inr (e, w)) = still w (steps s h) e

  pub settle_falls : Less s.jobs s (settle s) ⊎ Quiet s
  settle_falls = pick unplaced_falls
    where
      pick : Less s.jobs s (unplaced s) ⊎ Quiet s → Less s.jobs s (settle s) ⊎ Quiet s
      pick (inl l) = inl (let p : to_do s.jobs (settle s).tasks ≤ to_do s.jobs (unplaced s).tasks = placing_le s.jobs (settle_pass s h) in omega arith)
      pick (inr q) = inr q

  -- WHAT IS LEFT TO DO NEVER GROWS IN A PASS
  pub settle_le : to_do s.jobs (settle s).tasks ≤ to_do s.jobs s.tasks
  settle_le = pick unplaced_falls
    where
      p : to_do s.jobs (settle s).tasks ≤ to_do s.jobs (unplaced s).tasks
      p = placing_le s.jobs (settle_pass s h)

      pick : Less s.jobs s (unplaced s) ⊎ Quiet s → to_do s.jobs (settle s).tasks ≤ to_do s.jobs s.tasks
      pick (inl l) = let p' : to_do s.jobs (settle s).tasks ≤ to_do s.jobs (unplaced s).tasks = p in omega arith
      pick (inr q) = subst (λ (u : State). to_do s.jobs (settle s).tasks ≤ to_do s.jobs u.tasks) q.same p

-- nothing waits: then a pass with nothing to do leaves all as it is
pub quiet_same : (s : State) → Quiet s → keep (λ (t : Task). is_waiting t.phase) s.tasks ≡ [] → settle s ≡ s
unfolding place_all_lem
quiet_same s q e = ap settled q.same ∙ (λ i. with_tasks (place_all_lem s.now s.machines (e i) s.tasks) s)
  where
    settled : State → State
    settled u = with_tasks (place_all_lem u.now u.machines (keep (λ (t : Task). is_waiting t.phase) u.tasks) u.tasks) u
