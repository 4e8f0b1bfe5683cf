-- What a whole pass does to one job's tasks: what is left to do for it is less, or nothing was done for it.
-- Assumes nothing.
use Rattle.std.proofs.Common.{◌≡◌, ℕ, ◌+◌, ◌<◌, ◌≤◌, Bool, true, false, ◌&&◌, ltb, ◌⊎◌, List, [], ◌∷◌, length, sym, refl, ap, ◌∙◌, subst, inl, inr, le_trans, arith}
use Rattle.std.proofs.lemmas.Bool.{and_parts, and_from, not-true, ltb-true, lt-ltb}
use Rattle.model.specs.State.{Machine, Job, Task, State, of_job, with_tasks}
use Rattle.model.specs.Lists.{some, same}
use Rattle.model.specs.Settle.{mine, alive, new_ones, old_ones, to_end_lem, for_job, for_jobs, orphans_end, unplaced, settle, may_grow_lem}
use Rattle.rest.specs.Rest.{is_alive, is_new}
use Rattle.rest.specs.Sooner.{widest, strays}
use Rattle.model.proofs.Lists.{clash, bool, In, some_from, pass_up, pass_down, Once}
use Rattle.model.proofs.Tasks.{same_refl, unsame_sym, jobless, orphans_pass, Put, Never}
use Rattle.model.proofs.Settles.{Tidy, tidy_pass, tidy_step, orphan_id, settle_pass, Fine}
use Rattle.rest.proofs.Stuck.{OneName}
use Rattle.rest.proofs.Steps.{Idle}
use Rattle.rest.proofs.Lacks.{news}
use Rattle.rest.proofs.Knows.{placed_new}
use Rattle.rest.proofs.Comes.{one_of}
use Rattle.rest.proofs.Own.{keep_pass, own, owns, left_of, whole_of, left_same, whole_same, Stepped, own_step, other_step}
use Rattle.rest.proofs.Bounds.{Bounded, bounded_step, bounded_orphans, short, Onward, onward_step, onward_steps}

-- NOTHING IS DONE FOR A JOB

-- a state of that time and these machines; of no other part is asked
abbrev pub seen_at_by : ℕ → List Machine → State
seen_at_by now ms = record { now = now; next_id = 0; machines = ms; jobs = []; tasks = [] }

-- with these tasks of it none is to end, and none to come for what it asks itself
abbrev pub StillAt : Job → ℕ → List Machine → List Task → Type 0
StillAt j now ms xs =
    (to_end_lem (seen_at_by now ms) j xs (old_ones j (alive xs)) ≡ []) ×
    (((ltb j.count (length (new_ones j (alive xs))) ≡ true) × (to_end_lem (seen_at_by now ms) j xs (new_ones j (alive xs)) ≡ [])) ⊎
    ((ltb j.count (length (new_ones j (alive xs))) ≡ false) × (ltb (length (new_ones j (alive xs))) j.count && ltb (length xs) j.most ≡ false)))

abbrev pub StillIn : Job → State → Type 0
StillIn j s = StillAt j s.now s.machines (mine j s.tasks)

idle_still : (j : Job) (s : State) → (length (mine j s.tasks) < j.most → length s.tasks < 2048) → s.next_id < 4611686018427387904 → Idle j s → StillIn j s
idle_still j s r n (p, inl h) = (p, inl h)
idle_still j s r n (p, inr h) = (p, inr (h.0, elim (bool (c && m)) [ inl e ↦ clash (may_grow_lem j s) (grows e) h.1 | inr e ↦ e ]))
  where
    c : Bool
    c = ltb (length (new_ones j (alive (mine j s.tasks)))) j.count

    m : Bool
    m = ltb (length (mine j s.tasks)) j.most

    grows : c && m ≡ true → may_grow_lem j s ≡ true
    grows e = and_from _ _ (and_from _ _ e (lt-ltb (length s.tasks) 2048 (r (ltb-true (length (mine j s.tasks)) j.most (and_parts c m e).1)))) (lt-ltb s.next_id 4611686018427387904 n)

-- STEPS

abbrev pub Out : Job → State → State → Type 0
Out j s v =
    ((left_of j v.tasks < left_of j s.tasks) × (whole_of j v.tasks ≤ whole_of j s.tasks)) ⊎
    ((mine j v.tasks ≡ mine j s.tasks) × (v.next_id < 4611686018427387904 → StillIn j s))

others_steps : (j : Job) (xs : List Job) → ((k : Job) → In k xs → same k.name j.name ≡ false) → (s : State) → Tidy s → mine j (for_jobs xs s).tasks ≡ mine j s.tasks
unfolding for_jobs
others_steps j [] h s t = refl
others_steps j (k ∷ ks) h s t = others_steps j ks (λ z i. h z (inr i)) (for_job k s) (tidy_step k s t) ∙ other_step k j (h k (inl refl)) s t

module _ (js : List Job) (one : OneName js) (at : List Task) (room : widest js at + strays js at ≤ 2048) (j : Job) (ji : In j js) where
  own_steps : (xs : List Job) → Once (λ (a b : Job). same a.name b.name) xs → ((k : Job) → In k xs → In k js) → In j xs → (s : State) → Tidy s → Bounded js at s.tasks → Out j s (for_jobs xs s)
  unfolding for_jobs
  own_steps [] o sub i s t b = absurd i
  own_steps (k ∷ ks) o sub i s t b = pick (same k.name j.name) refl i (λ x. own_steps ks o.1 (λ z y. sub z (inr y)) x (for_job k s) (tidy_step k s t) (bounded_step js one at k (sub k (inl refl)) s t b))
    where
      v : State
      v = for_jobs ks (for_job k s)

      mine' : k ≡ j → Out j s v
      mine' e = done (own_step j s t)
        where
          u : State
          u = for_job j s

          ve : v ≡ for_jobs ks u
          ve = ap (λ (z : Job). for_jobs ks (for_job z s)) e

          off : (z : Job) → In z ks → same z.name j.name ≡ false
          off z y = unsame_sym j.name z.name (sym (ap (λ (q : Job). same q.name z.name) e) ∙ o.0 z y)

          rest : mine j v.tasks ≡ mine j u.tasks
          rest = ap (λ (q : State). mine j q.tasks) ve ∙ others_steps j ks off u (tidy_step j s t)

          done : Stepped j s u → Out j s v
          done (inl l) = inl (subst (λ (n : ℕ). n < left_of j s.tasks) (sym (left_same j u.tasks v.tasks rest)) l.0, subst (λ (n : ℕ). n ≤ whole_of j s.tasks) (sym (whole_same j u.tasks v.tasks rest)) l.1)
          done (inr h) =
              inr (
                rest ∙ ap (λ (q : State). mine j q.tasks) h.1,
                λ n. idle_still j s (λ l. short js at s.tasks b room j ji l) (let a : s.next_id ≤ (for_job k s).next_id = (onward_step k s).0 in let c : (for_job k s).next_id ≤ v.next_id = (onward_steps ks (for_job k s)).0 in omega arith) h.0,
              )

      other : same k.name j.name ≡ false → Out j (for_job k s) v → Out j s v
      other e = pass
        where
          u : State
          u = for_job k s

          m : mine j u.tasks ≡ mine j s.tasks
          m = other_step k j e s t

          a : Onward s u
          a = onward_step k s

          pass : Out j u v → Out j s v
          pass (inl l) = inl (subst (λ (n : ℕ). left_of j v.tasks < n) (left_same j s.tasks u.tasks m) l.0, subst (λ (n : ℕ). whole_of j v.tasks ≤ n) (whole_same j s.tasks u.tasks m) l.1)
          pass (inr h) =
              inr (
                h.0 ∙ m,
                λ n. subst (λ (xs : List Task). StillAt j s.now s.machines xs) m (subst (λ (ms : List Machine). StillAt j s.now ms (mine j u.tasks)) a.2 (subst (λ (c : ℕ). StillAt j c u.machines (mine j u.tasks)) a.1 (h.1 n))),
              )

      pick : (c : Bool) → same k.name j.name ≡ c → In j (k ∷ ks) → (In j ks → Out j (for_job k s) v) → Out j s v
      pick true e x ih = mine' (one k j (sub k (inl refl)) ji e)
      pick false e (inl x) ih = clash (same k.name j.name) (subst (λ (z : Job). same k.name z.name ≡ true) (sym x) (same_refl k.name)) e
      pick false e (inr x) ih = other e (ih x)

-- A PASS

pub orphans_mine : (js : List Job) (j : Job) → In j js → (ts : List Task) → mine j (orphans_end js ts) ≡ mine j ts
orphans_mine js j i ts = keep_pass _ _ (of_job j.name) (orphans_pass js ts) (λ x y d. none x d.0) (λ x y k r. elim r [ inl e ↦ ap (of_job j.name) e | inr e ↦ ap (of_job j.name) e.1.1 ]) (λ x y k r q. elim r [ inl e ↦ e | inr e ↦ clash (of_job j.name x) q (none x e.0) ])
  where
    none : (x : Task) → jobless js x ≡ true → of_job j.name x ≡ false
    none x e = elim (bool (of_job j.name x)) [ inl p ↦ clash (some (λ (k : Job). same k.name x.job) js) (some_from (λ (k : Job). same k.name x.job) js j i p) (not-true _ e) | inr p ↦ p ]

-- placing leaves as much to do
placed_own : (j : Job) (xs ys : List Task) → ((x y : Task) → Put x y → own j y ≡ true → own j x ≡ true) → (owns j ys ≤ owns j xs) × (news j xs ≤ news j ys) → (left_of j ys ≤ left_of j xs) × (whole_of j ys ≤ whole_of j xs)
unfolding left_of
placed_own j xs ys h (a, b) = (omega arith, omega arith)

put_own : (j : Job) (x y : Task) → Put x y → own j y ≡ true → own j x ≡ true
put_own j x y (inl e) q = sym (ap (own j) e) ∙ q
put_own j x y (inr e) q = let p = and_parts (of_job j.name y) (is_alive y) q in and_from _ _ (sym (ap (of_job j.name) e.3) ∙ p.0) ((placed_new x y (inr e)).0 p.1)

abbrev pub QuietOf : Job → State → Type 0
QuietOf j s = (mine j (unplaced s).tasks ≡ mine j s.tasks) × ((settle s).next_id < 4611686018427387904 → StillIn j s)

pub record Settled (j : Job) (s : State) : Type 0 where
  pub falls : (left_of j (settle s).tasks < left_of j s.tasks) ⊎ QuietOf j s
  pub left : left_of j (settle s).tasks ≤ left_of j s.tasks
  pub whole : whole_of j (settle s).tasks ≤ whole_of j s.tasks

pub own_settle : (s : State) → Fine s → (at : List Task) → widest s.jobs at + strays s.jobs at ≤ 2048 → Bounded s.jobs at s.tasks → (j : Job) → In j s.jobs → Settled j s
own_settle s f at room b j ji = pick (own_steps js (one_of s f) at room j ji js f.jobs (λ k i. i) ji o (tidy_pass _ _ (orphan_id js) s (orphans_pass js s.tasks) f.tidy) (bounded_orphans js (one_of s f) at s.tasks b))
  where
    js : List Job
    js = s.jobs

    o : State
    o = with_tasks (orphans_end js s.tasks) s

    m : mine j o.tasks ≡ mine j s.tasks
    m = orphans_mine js j ji s.tasks

    put : (left_of j (settle s).tasks ≤ left_of j (unplaced s).tasks) × (whole_of j (settle s).tasks ≤ whole_of j (unplaced s).tasks)
    put = placed_own j (unplaced s).tasks (settle s).tasks (put_own j) (pass_down Never Put (own j) (put_own j) (settle_pass s f.tidy), pass_up Never Put (is_new j) (λ x d. absurd d) (λ x y r. (placed_new x y r).1 j) (settle_pass s f.tidy))

    ls : left_of j o.tasks ≡ left_of j s.tasks
    ls = left_same j s.tasks o.tasks m

    wh : whole_of j o.tasks ≡ whole_of j s.tasks
    wh = whole_same j s.tasks o.tasks m

    pick : Out j o (unplaced s) → Settled j s
    pick (inl l) =
        let a : left_of j (unplaced s).tasks < left_of j o.tasks = l.0 in let c : left_of j (settle s).tasks ≤ left_of j (unplaced s).tasks = put.0 in let e : left_of j o.tasks ≡ left_of j s.tasks = ls in
        record { falls = inl (omega arith); left = omega arith; whole = le_trans put.1 (subst (λ (n : ℕ). whole_of j (unplaced s).tasks ≤ n) wh l.1) }
    pick (inr h) =
        let q : mine j (unplaced s).tasks ≡ mine j s.tasks = h.0 ∙ m in
        record {
          falls = inr (q, λ n. subst (λ (xs : List Task). StillAt j s.now s.machines xs) m (h.1 n));
          left = subst (λ (n : ℕ). left_of j (settle s).tasks ≤ n) (left_same j s.tasks (unplaced s).tasks q) put.0;
          whole = subst (λ (n : ℕ). whole_of j (settle s).tasks ≤ n) (whole_same j s.tasks (unplaced s).tasks q) put.1;
        }
