-- A pass takes no ready task away where that would leave fewer ready than are to stay; and it makes none unready that it doesn't end.
-- Assumes nothing.
use Rattle.std.proofs.Common.{◌≡◌, ℕ, suc, ◌<◌, ◌≤◌, Bool, true, false, ◌&&◌, ◌⊎◌, List, [], ◌∷◌, length, sym, refl, ap, ◌∙◌, subst, inl, inr, le_trans, le_refl, arith}
use Rattle.std.proofs.lemmas.Bool.{and_parts, and_from, and_right, not-true, false≢true}
use Rattle.model.specs.Lists.{some, keep, change, same}
use Rattle.model.specs.State.{Job, Phase, Waiting, Ending, Task, State, is_waiting, is_ready_lem, is_task, of_job, phased, with_tasks}
use Rattle.model.specs.Settle.{mine, ready_ones, ended, fresh, more, for_job, orphans_end, unplaced, settle}
use Rattle.model.specs.Promise.{LeastStay, LeastStays}
use Rattle.model.specs.Always.{TakesFew, PassTakesFew}
use Rattle.model.proofs.Lists.{to_true, clash, bool, In, in_from, in_to, in_left, some_from, keep_keep, bump, keep_end, change_down, pass_to, pass_up}
use Rattle.model.proofs.Tasks.{same_eq, eq_same, waiting_not_ready, jobless, Ends, orphans_pass, ended_pass, MayEnd, step_is, steps_are, Put}
use Rattle.model.proofs.Settles.{Tidy, tidy_pass, tidy_step, orphan_id, EndsOne, settle_pass, once_job, Fine, fine_from}
use Rattle.model.proofs.Room.{put_stays}

-- READY TASKS OF A JOB

abbrev pub ready_of : Job → Task → Bool
ready_of j t = of_job j.name t && is_ready_lem t.phase

pub readies_are : (j : Job) (ts : List Task) → length (ready_ones (mine j ts)) ≡ length (keep (ready_of j) ts)
readies_are j ts = ap length (keep_keep (λ (t : Task). is_ready_lem t.phase) (of_job j.name) ts)

abbrev pub readies : Job → State → ℕ
readies j s = length (keep (ready_of j) s.tasks)

not_ready : (j : Job) (t : Task) → is_ready_lem t.phase ≡ false → ready_of j t ≡ false
not_ready j t e = and_right (of_job j.name t) (is_ready_lem t.phase) e

ready_not_waiting : (p : Phase) → is_ready_lem p ≡ true → is_waiting p ≡ false
ready_not_waiting p e = elim (bool (is_waiting p)) [ inl w ↦ clash (is_ready_lem p) e (waiting_not_ready p w) | inr w ↦ w ]

ending_on : is_waiting Ending ≡ false
ending_on = refl

ended_one : (t : Task) (others ts : List Task) → is_waiting t.phase ≡ false → ended (t ∷ others) ts ≡ change (is_task t.id) (phased Ending) ts
unfolding ended
ended_one t others ts e = rw e

waiting_unready : is_ready_lem Waiting ≡ false
waiting_unready = refl

more_readies : (j k : Job) (s : State) → readies j (more k s) ≡ readies j s
more_readies j k s = keep_end (ready_of j) s.tasks (fresh k s.next_id) ∙ ap (λ b. bump b (readies j s)) (not_ready j (fresh k s.next_id) waiting_unready)

-- one ends that isn't one of j's ready ones
ended_spares : (j k : Job) (s : State) → Tidy s → (t : Task) (xs : List Task) → MayEnd s k (t ∷ xs) → ready_of j t ≡ false → readies j s ≤ readies j (with_tasks (ended (t ∷ xs) s.tasks) s)
ended_spares j k s h t xs m e = pass_up _ _ (ready_of j) (λ x d. not_ready j x (waiting_not_ready x.phase d.1)) stays (ended_pass 0 s.tasks h.0 t m.0 xs)
  where
    stays : (x y : Task) → EndsOne t x y → ready_of j x ≡ true → ready_of j y ≡ true
    stays x y (inl p) q = ap (ready_of j) p ∙ q
    stays x y (inr p) q = clash (ready_of j t) (sym (ap (ready_of j) p.0) ∙ q) e

least_ended : (j k : Job) (s : State) → Tidy s → (same j.name k.name ≡ true → k ≡ j) → (xs : List Task) → MayEnd s k xs → let u = with_tasks (ended xs s.tasks) s in (readies j s ≤ readies j u) ⊎ (j.least ≤ readies j u)
unfolding ended
least_ended j k s h one [] m = inl (le_refl _)
least_ended j k s h one (t ∷ xs) m = pick (ready_of j t) refl m.2
  where
    u : State
    u = with_tasks (ended (t ∷ xs) s.tasks) s

    pick : (b : Bool) → ready_of j t ≡ b → (is_ready_lem t.phase ≡ false) ⊎ (k.least < length (ready_ones (mine k s.tasks))) → (readies j s ≤ readies j u) ⊎ (j.least ≤ readies j u)
    pick false e o = inl (ended_spares j k s h t xs m e)
    pick true e (inl o) = clash (is_ready_lem t.phase) (and_parts (of_job j.name t) (is_ready_lem t.phase) e).1 o
    pick true e (inr o) =
        let p = and_parts (of_job j.name t) (is_ready_lem t.phase) e in
        let n : same j.name k.name ≡ true = eq_same j.name k.name (same_eq j.name t.job p.0 ∙ sym (same_eq k.name t.job m.1)) in
        let o' : j.least < readies j s = subst (λ (x : Job). x.least < readies x s) (one n) (subst (λ (z : ℕ). k.least < z) (readies_are k s.tasks) o) in
        let c : readies j s ≤ suc (length (keep (ready_of j) (change (is_task t.id) (phased Ending) s.tasks))) = change_down (ready_of j) (is_task t.id) (phased Ending) s.tasks in
        let c' : readies j s ≤ suc (readies j u) = rw (ended_one t xs s.tasks (ready_not_waiting t.phase p.1)) c in
        inr (omega arith)

pub least_step : (j k : Job) (s : State) → Tidy s → (same j.name k.name ≡ true → k ≡ j) → (readies j s ≤ readies j (for_job k s)) ⊎ (j.least ≤ readies j (for_job k s))
least_step j k s h one = step_is (λ (u : State). (readies j s ≤ readies j u) ⊎ (j.least ≤ readies j u)) k s (least_ended j k s h one) (λ xs m g. rw (more_readies j k (with_tasks (ended xs s.tasks) s)) (least_ended j k s h one xs m))

-- ONE PASS

module _ (s : State) (fine : Fine s) (j : Job) (i : In j s.jobs) where
  -- when the tasks of ended jobs have ended
  first : State
  first = with_tasks (orphans_end s.jobs s.tasks) s

  wanted : (x : Task) → of_job j.name x ≡ true → jobless s.jobs x ≡ true → ⊥
  wanted x o p = clash (some (λ (k : Job). same k.name x.job) s.jobs) (some_from (λ (k : Job). same k.name x.job) s.jobs j i o) (not-true _ p)

  tidy_first : Tidy first
  unfolding first
  tidy_first = tidy_pass _ _ (orphan_id s.jobs) s (orphans_pass s.jobs s.tasks) fine.tidy

  least_first : readies j s ≤ readies j first
  unfolding first
  least_first = pass_up _ _ (ready_of j) (λ x d. not_ready j x (waiting_not_ready x.phase d.1)) goes_on (orphans_pass s.jobs s.tasks)
    where
      goes_on : (x y : Task) → (y ≡ x) ⊎ ((jobless s.jobs x ≡ true) × Ends x y) → ready_of j x ≡ true → ready_of j y ≡ true
      goes_on x y (inl p) q = ap (ready_of j) p ∙ q
      goes_on x y (inr p) q = absurd (wanted x (and_parts (of_job j.name x) (is_ready_lem x.phase) q).0 p.0)

  only : (k : Job) → In k s.jobs → same j.name k.name ≡ true → k ≡ j
  only k ki e = sym (once_job s.jobs fine.jobs j k i ki e)

  least_placing : readies j (unplaced s) ≤ readies j (settle s)
  least_placing = pass_up _ _ (ready_of j) (λ x d. absurd d) puts (settle_pass s fine.tidy)
    where
      puts : (x y : Task) → Put x y → ready_of j x ≡ true → ready_of j y ≡ true
      puts x y (inl p) q = ap (ready_of j) p ∙ q
      puts x y (inr p) q = clash (is_ready_lem x.phase) (and_parts (of_job j.name x) (is_ready_lem x.phase) q).1 (waiting_not_ready x.phase p.0)

  -- the least are ready afterwards, or no fewer than before
  pub least_settle : (j.least ≤ readies j (settle s)) ⊎ (readies j s ≤ readies j (settle s))
  unfolding first
  least_settle = finish (steps_are P s.jobs first (λ k ki u p. (tidy_step k u p.0, join (readies j u) (readies j (for_job k u)) j.least (readies j s) p.1 (least_step j k u p.0 (only k ki)))) (tidy_first, inr least_first)).1
    where
      P : State → Type 0
      P u = Tidy u × ((j.least ≤ readies j u) ⊎ (readies j s ≤ readies j u))

      join : (a b c d : ℕ) → (c ≤ a) ⊎ (d ≤ a) → (a ≤ b) ⊎ (c ≤ b) → (c ≤ b) ⊎ (d ≤ b)
      join a b c d o (inr p) = inl p
      join a b c d (inl q) (inl p) = inl (le_trans q p)
      join a b c d (inr q) (inl p) = inr (le_trans q p)

      finish : (j.least ≤ readies j (unplaced s)) ⊎ (readies j s ≤ readies j (unplaced s)) → (j.least ≤ readies j (settle s)) ⊎ (readies j s ≤ readies j (settle s))
      finish (inl p) = inl (le_trans p least_placing)
      finish (inr p) = inr (le_trans p least_placing)

  -- one ready task of the job: it is there as it was, or it ends and the least are ready
  module _ (t : Task) (own : of_job j.name t ≡ true) (ready : is_ready_lem t.phase ≡ true) where
    abbrev Spared : State → Type 0
    Spared u = In t u.tasks ⊎ (In (phased Ending t) u.tasks × (j.least ≤ readies j u))

    own_ready : ready_of j t ≡ true
    own_ready = and_from _ _ own ready

    -- the least go on being ready
    still : (k : Job) → In k s.jobs → (u : State) → Tidy u → (xs : List Task) → MayEnd u k xs → let v = with_tasks (ended xs u.tasks) u in j.least ≤ readies j u → j.least ≤ readies j v
    still k ki u h xs m l = elim (least_ended j k u h (only k ki) xs m) [ inl p ↦ le_trans l p | inr p ↦ p ]

    spared_ended : (k : Job) → In k s.jobs → (u : State) → Tidy u → Spared u → (xs : List Task) → MayEnd u k xs → Spared (with_tasks (ended xs u.tasks) u)
    unfolding ended
    spared_ended k ki u h p [] m = p
    spared_ended k ki u h (inl p) (x ∷ xs) m = pick (pass_to _ _ (ended_pass 0 u.tasks h.0 x m.0 xs) t p)
      where
        v : State
        v = with_tasks (ended (x ∷ xs) u.tasks) u

        least : t ≡ x → j.least ≤ readies j v
        least e = enough m.2
          where
            its : same j.name k.name ≡ true
            its = eq_same j.name k.name (same_eq j.name t.job own ∙ (ap (λ (y : Task). y.job) e ∙ sym (same_eq k.name x.job m.1)))

            enough : (is_ready_lem x.phase ≡ false) ⊎ (k.least < length (ready_ones (mine k u.tasks))) → j.least ≤ readies j v
            enough (inl n) = clash (is_ready_lem x.phase) (sym (ap (λ (y : Task). is_ready_lem y.phase) e) ∙ ready) n
            enough (inr l) =
                let l' : j.least < readies j u = subst (λ (z : Job). z.least < readies z u) (only k ki its) (subst (λ (z : ℕ). k.least < z) (readies_are k u.tasks) l) in
                still k ki u h (x ∷ xs) m (omega arith)

        pick : ((y : Task) × In y v.tasks × EndsOne x t y) ⊎ ((t ≡ x) × (is_waiting t.phase ≡ true)) → Spared v
        pick (inl (y, yi, inl e)) = inl (subst (λ (z : Task). In z v.tasks) e yi)
        pick (inl (y, yi, inr e)) = inr (subst (λ (z : Task). In z v.tasks) e.1.1 yi, least e.0)
        pick (inr d) = clash (is_ready_lem t.phase) ready (waiting_not_ready t.phase d.1)
    spared_ended k ki u h (inr p) (x ∷ xs) m = inr (pick (pass_to _ _ (ended_pass 0 u.tasks h.0 x m.0 xs) (phased Ending t) p.0), still k ki u h (x ∷ xs) m p.1)
      where
        v : State
        v = with_tasks (ended (x ∷ xs) u.tasks) u

        pick : ((y : Task) × In y v.tasks × EndsOne x (phased Ending t) y) ⊎ ((phased Ending t ≡ x) × (is_waiting Ending ≡ true)) → In (phased Ending t) v.tasks
        pick (inl (y, yi, inl e)) = subst (λ (z : Task). In z v.tasks) e yi
        pick (inl (y, yi, inr e)) = subst (λ (z : Task). In z v.tasks) e.1.1 yi
        pick (inr d) = absurd (false≢true d.1)

    spared_more : (k : Job) (u : State) → Spared u → Spared (more k u)
    spared_more k u (inl p) = inl (in_left u.tasks (fresh k u.next_id) t p)
    spared_more k u (inr p) = inr (in_left u.tasks (fresh k u.next_id) (phased Ending t) p.0, subst (λ (z : ℕ). j.least ≤ z) (sym (more_readies j k u)) p.1)

    spared_step : (k : Job) → In k s.jobs → (u : State) → Tidy u → Spared u → Spared (for_job k u)
    spared_step k ki u h p = step_is Spared k u (spared_ended k ki u h p) (λ xs m g. spared_more k (with_tasks (ended xs u.tasks) u) (spared_ended k ki u h p xs m))

    spared_first : In t s.tasks → Spared first
    unfolding first
    spared_first ti = pick (pass_to _ _ (orphans_pass s.jobs s.tasks) t ti)
      where
        pick : ((y : Task) × In y (orphans_end s.jobs s.tasks) × ((y ≡ t) ⊎ ((jobless s.jobs t ≡ true) × Ends t y))) ⊎ ((jobless s.jobs t ≡ true) × (is_waiting t.phase ≡ true)) → Spared (with_tasks (orphans_end s.jobs s.tasks) s)
        pick (inl (y, yi, inl e)) = inl (subst (λ (z : Task). In z (orphans_end s.jobs s.tasks)) e yi)
        pick (inl (y, yi, inr e)) = absurd (wanted t own e.0)
        pick (inr d) = absurd (wanted t own d.0)

    pub spared_settle : In t s.tasks → Spared (settle s)
    unfolding first
    spared_settle ti = placed_on (steps_are (λ (u : State). Tidy u × Spared u) s.jobs first (λ k ki u p. (tidy_step k u p.0, spared_step k ki u p.0 p.1)) (tidy_first, spared_first ti)).1
      where
        placed_on : Spared (unplaced s) → Spared (settle s)
        placed_on (inl p) = inl (put_stays (settle_pass s fine.tidy) t (ready_not_waiting t.phase ready) p)
        placed_on (inr p) = inr (put_stays (settle_pass s fine.tidy) (phased Ending t) ending_on p.0, le_trans p.1 least_placing)

-- THE PROMISES

pub least_stays : LeastStays
least_stays s j g i = rw (readies_are j (settle s).tasks, readies_are j s.tasks) (least_settle s (fine_from s g) j (in_from i))

pub least_stay_lem : LeastStay
least_stay_lem s j g i e = least_stays s j g i

-- the same of what is known to be fine
pub fine_takes_few : (s : State) → Fine s → TakesFew s (settle s)
fine_takes_few s f j ji t ti o r = elim (spared_settle s f j (in_from ji) t (eq_same j.name t.job (sym o)) (to_true _ r) (in_from ti)) [ inl p ↦ inl (in_to t (settle s).tasks p) | inr p ↦ inr (in_to (phased Ending t) (settle s).tasks p.0, subst (λ (n : ℕ). j.least ≤ n) (sym (readies_are j (settle s).tasks)) p.1) ]

pub pass_takes_few_lem : PassTakesFew
pass_takes_few_lem s g = fine_takes_few s (fine_from s g)
