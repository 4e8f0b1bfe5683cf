-- Where the limit of 2,048 tasks cannot bind at the beginning, it cannot bind later; and numbers only rise in a pass.
-- Assumes nothing.
use Rattle.std.proofs.Common.{◌≡◌, suc, ◌+◌, ◌<◌, ◌≤◌, max, Bool, true, false, not, ◌&&◌, ltb, List, [], ◌∷◌, length, sym, refl, ap, ◌∙◌, subst, inl, inr, le_trans, le_refl, arith}
use Rattle.std.proofs.lemmas.Bool.{and_parts, ltb-true}
use Rattle.std.proofs.Math.Nat.{le-max_left, le-max_right}
use Rattle.model.specs.State.{Job, Task, State, of_job, with_tasks}
use Rattle.model.specs.Lists.{some, same}
use Rattle.model.specs.Settle.{mine, alive, new_ones, ended, fresh, for_job, for_jobs, orphans_end, unplaced, settle, may_grow_lem, more}
use Rattle.model.specs.Calls.{all_most}
use Rattle.rest.specs.Sooner.{widest, strays, ApartWhereKept, ApartUnlowered}
use Rattle.model.proofs.Over.{never_over_lem}
use Rattle.rest.proofs.Steps.{keep_none}
use Rattle.rest.proofs.Orderlies.{steady_reach}
use Rattle.model.proofs.Lists.{in_from, in_to, In, keep_end, count_cons, bump, some_from, Pass, pass_down}
use Rattle.model.proofs.Tasks.{same_refl, eq_same, jobless, orphans_pass, ended_pass, MayEnd, step_is, steps_are, Put, Never}
use Rattle.model.proofs.Settles.{Tidy, tidy_pass, tidy_step, orphan_id, settle_pass, Fine}
use Rattle.rest.proofs.Stuck.{OneName, sum_mine, sum_cons}
use Rattle.rest.proofs.Own.{keep_off}

-- no job has more than it had, or than its most if that is more; and no more are of no job
pub record Bounded (js : List Job) (at : List Task) (ts : List Task) : Type 0 where
  pub own : (k : Job) → In k js → length (mine k ts) ≤ max (length (mine k at)) k.most
  pub others : strays js ts ≤ strays js at

pub bounded_first : (js : List Job) (ts : List Task) → Bounded js ts ts
bounded_first js ts = record { own = λ k i. le-max_left (length (mine k ts)) k.most; others = le_refl _ }

pub bounded_pass : (js : List Job) (at : List Task) (D : Task → Type 0) (R : Task → Task → Type 0) → ((x y : Task) → R x y → y.job ≡ x.job) → (xs ys : List Task) → Pass D R xs ys → Bounded js at xs → Bounded js at ys
bounded_pass js at D R h xs ys p b =
    record {
      own = λ k i. le_trans (pass_down D R (of_job k.name) (λ x y r e. sym (ap (same k.name) (h x y r)) ∙ e) p) (b.own k i);
      others = le_trans (pass_down D R (jobless js) (λ x y r e. sym (ap (λ n. not (some (λ (j : Job). same j.name n) js)) (h x y r)) ∙ e) p) b.others;
    }

module _ (js : List Job) (one : OneName js) (at : List Task) where
  bounded_more : (j : Job) → In j js → (s : State) → may_grow_lem j s ≡ true → Bounded js at s.tasks → Bounded js at (more j s).tasks
  bounded_more j ji s g b = record { own = own; others = subst (λ (xs : List Task). length xs ≤ strays js at) (sym (keep_off (jobless js) s.tasks f stray)) b.others }
    where
      f : Task
      f = fresh j s.next_id

      stray : jobless js f ≡ false
      stray = ap not (some_from (λ (k : Job). same k.name j.name) js j ji (same_refl j.name))

      below : length (mine j s.tasks) < j.most
      below =
          let c = ltb (length (new_ones j (alive (mine j s.tasks)))) j.count in let m = ltb (length (mine j s.tasks)) j.most in let d = ltb (length s.tasks) 2048 in let e = ltb s.next_id 4611686018427387904 in
          ltb-true (length (mine j s.tasks)) j.most (and_parts c m (and_parts (c && m) d (and_parts (c && m && d) e g).0).0).1

      own : (k : Job) → In k js → length (mine k (more j s).tasks) ≤ max (length (mine k at)) k.most
      own k i = pick (same k.name j.name) refl (keep_end (of_job k.name) s.tasks f)
        where
          pick : (c : Bool) → same k.name j.name ≡ c → length (mine k (more j s).tasks) ≡ bump (same k.name j.name) (length (mine k s.tasks)) → length (mine k (more j s).tasks) ≤ max (length (mine k at)) k.most
          pick true e q =
              let z : length (mine k (more j s).tasks) ≡ suc (length (mine k s.tasks)) = q ∙ ap (λ (c : Bool). bump c (length (mine k s.tasks))) e in
              let l : length (mine k s.tasks) < k.most = subst (λ (x : Job). length (mine x s.tasks) < x.most) (sym (one k j i ji e)) below in
              let r : k.most ≤ max (length (mine k at)) k.most = le-max_right (length (mine k at)) k.most in omega arith
          pick false e q =
              let z : length (mine k (more j s).tasks) ≡ length (mine k s.tasks) = q ∙ ap (λ (c : Bool). bump c (length (mine k s.tasks))) e in
              let l : length (mine k s.tasks) ≤ max (length (mine k at)) k.most = b.own k i in omega arith

  pub bounded_step : (j : Job) → In j js → (s : State) → Tidy s → Bounded js at s.tasks → Bounded js at (for_job j s).tasks
  unfolding ended
  bounded_step j ji s h b = step_is (λ (u : State). Bounded js at u.tasks) j s ending (λ xs m g. bounded_more j ji (with_tasks (ended xs s.tasks) s) g (ending xs m))
    where
      ending : (xs : List Task) → MayEnd s j xs → Bounded js at (ended xs s.tasks)
      ending [] m = b
      ending (t ∷ ts) m = bounded_pass js at _ _ (λ x y r. elim r [ inl e ↦ ap (λ (z : Task). z.job) e | inr e ↦ ap (λ (z : Task). z.job) e.1.1 ]) s.tasks (ended (t ∷ ts) s.tasks) (ended_pass 0 s.tasks h.0 t m.0 ts) b

  pub bounded_orphans : (ts : List Task) → Bounded js at ts → Bounded js at (orphans_end js ts)
  bounded_orphans ts b = bounded_pass js at _ _ (λ x y r. elim r [ inl e ↦ ap (λ (z : Task). z.job) e | inr e ↦ ap (λ (z : Task). z.job) e.1.1 ]) ts (orphans_end js ts) (orphans_pass js ts) b

put_job : (x y : Task) → Put x y → y.job ≡ x.job
put_job x y (inl e) = ap (λ (z : Task). z.job) e
put_job x y (inr e) = ap (λ (z : Task). z.job) e.3

pub bounded_settle : (s : State) → Fine s → OneName s.jobs → (at : List Task) → Bounded s.jobs at s.tasks → Bounded s.jobs at (settle s).tasks
bounded_settle s f one at b = bounded_pass s.jobs at Never Put put_job (unplaced s).tasks (settle s).tasks (settle_pass s f.tidy) all.1
  where
    P : State → Type 0
    P u = Tidy u × Bounded s.jobs at u.tasks

    all : P (unplaced s)
    all = steps_are P s.jobs (with_tasks (orphans_end s.jobs s.tasks) s) (λ j i u p. (tidy_step j u p.0, bounded_step s.jobs one at j i u p.0 p.1)) (tidy_pass _ _ (orphan_id s.jobs) s (orphans_pass s.jobs s.tasks) f.tidy, bounded_orphans s.jobs one at s.tasks b)

-- THE LIMIT DOESN'T BIND

sum_over : (js : List Job) (ts : List Task) → length ts ≤ sum_mine js ts + strays js ts
sum_over js [] = omega arith
sum_over js (t ∷ ts) = pick (some (λ (j : Job). same j.name t.job) js) refl (sum_over js ts) (sum_cons js t ts) (count_cons (jobless js) t ts)
  where
    pick : (b : Bool) → some (λ (j : Job). same j.name t.job) js ≡ b → length ts ≤ sum_mine js ts + strays js ts → (sum_mine js ts ≤ sum_mine js (t ∷ ts)) × (some (λ (j : Job). same j.name t.job) js ≡ true → sum_mine js ts < sum_mine js (t ∷ ts)) → strays js (t ∷ ts) ≡ bump (jobless js t) (strays js ts) → suc (length ts) ≤ sum_mine js (t ∷ ts) + strays js (t ∷ ts)
    pick true e i c d = let z : strays js (t ∷ ts) ≡ strays js ts = d ∙ ap (λ (b : Bool). bump (not b) (strays js ts)) e in let l : sum_mine js ts < sum_mine js (t ∷ ts) = c.1 e in omega arith
    pick false e i c d = let z : strays js (t ∷ ts) ≡ suc (strays js ts) = d ∙ ap (λ (b : Bool). bump (not b) (strays js ts)) e in let l : sum_mine js ts ≤ sum_mine js (t ∷ ts) = c.0 in omega arith

sum_under : (js : List Job) (at ts : List Task) → ((k : Job) → In k js → length (mine k ts) ≤ max (length (mine k at)) k.most) → sum_mine js ts ≤ widest js at
unfolding sum_mine widest
sum_under [] at ts h = omega arith
sum_under (j ∷ js) at ts h = let a : length (mine j ts) ≤ max (length (mine j at)) j.most = h j (inl refl) in let b : sum_mine js ts ≤ widest js at = sum_under js at ts (λ k i. h k (inr i)) in omega arith

sum_below : (js : List Job) (at ts : List Task) → ((k : Job) → In k js → length (mine k ts) ≤ max (length (mine k at)) k.most) → (j : Job) → In j js → length (mine j ts) < max (length (mine j at)) j.most → sum_mine js ts < widest js at
unfolding sum_mine widest
sum_below [] at ts h j i l = absurd i
sum_below (k ∷ js) at ts h j (inl e) l =
    let a : length (mine k ts) < max (length (mine k at)) k.most = subst (λ (z : Job). length (mine z ts) < max (length (mine z at)) z.most) e l in let b : sum_mine js ts ≤ widest js at = sum_under js at ts (λ z i. h z (inr i)) in omega arith
sum_below (k ∷ js) at ts h j (inr i) l =
    let a : length (mine k ts) ≤ max (length (mine k at)) k.most = h k (inl refl) in let b : sum_mine js ts < widest js at = sum_below js at ts (λ z c. h z (inr c)) j i l in omega arith

-- a job below its most finds room in the list
pub short : (js : List Job) (at ts : List Task) → Bounded js at ts → widest js at + strays js at ≤ 2048 → (j : Job) → In j js → length (mine j ts) < j.most → length ts < 2048
short js at ts b w j i l =
    let r : j.most ≤ max (length (mine j at)) j.most = le-max_right (length (mine j at)) j.most in
    let a : sum_mine js ts < widest js at = sum_below js at ts b.own j i (le_trans l r) in
    let c : length ts ≤ sum_mine js ts + strays js ts = sum_over js ts in
    let d : strays js ts ≤ strays js at = b.others in omega arith

-- WHAT A STEP KEEPS

-- numbers rise; the time and the machines stay
abbrev pub Onward : State → State → Type 0
Onward s u = (s.next_id ≤ u.next_id) × (u.now ≡ s.now) × (u.machines ≡ s.machines)

pub onward_step : (j : Job) (s : State) → Onward s (for_job j s)
onward_step j s = step_is (Onward s) j s (λ xs m. (le_refl _, refl, refl)) (λ xs m g. (omega arith, refl, refl))

pub onward_steps : (xs : List Job) (s : State) → Onward s (for_jobs xs s)
onward_steps xs s = steps_are (Onward s) xs s (λ j i u p. let q = onward_step j u in (le_trans p.0 q.0, q.1 ∙ p.1, q.2 ∙ p.2)) (le_refl _, refl, refl)

-- WHERE NO JOB HAS MORE THAN ITS MOST

widest_kept : (js : List Job) (ts : List Task) → ((j : Job) → In j js → length (mine j ts) ≤ j.most) → widest js ts ≤ all_most js
unfolding widest all_most
widest_kept [] ts h = omega arith
widest_kept (j ∷ js) ts h = let a : length (mine j ts) ≤ j.most = h j (inl refl) in let b : widest js ts ≤ all_most js = widest_kept js ts (λ k i. h k (inr i)) in omega arith

pub apart_where_kept : ApartWhereKept
apart_where_kept w r h k =
    let a : widest w.herd.jobs w.herd.tasks ≤ all_most w.herd.jobs = widest_kept w.herd.jobs w.herd.tasks (λ j i. h j (in_to j w.herd.jobs i)) in
    let b : all_most w.herd.jobs ≤ 2048 = (steady_reach w r).mosts in
    let c : strays w.herd.jobs w.herd.tasks ≡ 0 = ap length (keep_none (jobless w.herd.jobs) w.herd.tasks none) in omega arith
  where
    none : (t : Task) → In t w.herd.tasks → jobless w.herd.jobs t ≡ false
    none t i = let q = k t (in_to t w.herd.tasks i) in ap not (some_from (λ (j : Job). same j.name t.job) w.herd.jobs q.0 (in_from q.1) (eq_same q.0.name t.job q.2))

pub apart_unlowered : ApartUnlowered
apart_unlowered w r u k = apart_where_kept w r (λ j i. (never_over_lem w r j i (u j i)).0) k
