-- Tasks that aren't ending and tasks that are missing are together no more after a pass than before, nor after a report by which tasks of an earlier life may be lost.
-- Assumes nothing.
use Rattle.std.proofs.Common.{◌≡◌, ℕ, suc, ◌+◌, ◌<◌, ◌≤◌, Bool, true, false, not, ◌&&◌, eqb, ltb, List, [], ◌∷◌, length, sym, refl, ap, ◌∙◌, subst, inl, inr, le_trans, le_refl, arith}
use Rattle.std.proofs.lemmas.Bool.{false≢true, and_parts, and_from, and_right, not-true, not-false, ltb-true}
use Rattle.model.specs.State.{Job, Task, State, of_job, with_tasks}
use Rattle.model.specs.Lists.{keep, same}
use Rattle.model.specs.Settle.{mine, alive, ended, for_job, orphans_end, settle, may_grow_lem, more, unplaced, old_to_end, new_to_end}
use Rattle.model.specs.Calls.{Seen}
use Rattle.rest.specs.Rest.{is_alive, is_new, missing}
use Rattle.model.proofs.Lists.{clash, bool, In, in_keep, keep_yes, keep_no, count_cons, bump, Pass, done, gone, goes, pass_up, pass_down, Once}
use Rattle.model.proofs.Tasks.{same_eq, eq_same, orphans_pass, steps_are, Put, Never}
use Rattle.model.proofs.Settles.{Tidy, tidy_pass, tidy_step, orphan_id, settle_pass, Fine}
use Rattle.rest.proofs.Steps.{new_count, step_cases, to_end_in, keep_none}
use Rattle.rest.proofs.Falls.{end_parts, orphans_le, orphans_news}
use Rattle.rest.proofs.Lacks.{news, lacks, alives, new_count_is, missing_le, grown_parts, not_new, count_le}
use Rattle.rest.proofs.Stuck.{OneName}
use Rattle.rest.proofs.Origins.{Lost, Went}
use Rattle.rest.proofs.Knows.{went_as, went_new, placed_new}
use Rattle.rest.proofs.Comes.{one_of}

unfoldable pub whole : List Job → List Task → ℕ
whole js ts = alives ts + missing js ts

pub whole_le : (js : List Job) (xs ys : List Task) → alives ys ≤ alives xs → ((k : Job) → In k js → news k xs ≤ news k ys) → whole js ys ≤ whole js xs
unfolding whole
whole_le js xs ys a h = let b : missing js ys ≤ missing js xs = missing_le js xs ys (λ k i. less k (h k i)) in omega arith
  where
    less : (k : Job) → news k xs ≤ news k ys → lacks k ys ≤ lacks k xs
    less k l = omega arith

-- A PASS

module _ (js : List Job) (one : OneName js) where
  whole_step : (j : Job) → In j js → (s : State) → Tidy s → whole js (for_job j s).tasks ≤ whole js s.tasks
  unfolding whole
  whole_step j ji s h = step_cases (λ (u : State). alives u.tasks + missing js u.tasks ≤ alives s.tasks + missing js s.tasks) j s olds newer (λ g p q. grown s g) (λ i. le_refl _)
    where
      known : (f : Task → Bool) (t : Task) → In t (keep f (alive (mine j s.tasks))) → In t s.tasks × (of_job j.name t ≡ true) × (is_alive t ≡ true) × (f t ≡ true)
      known f t i = let a = in_keep f (alive (mine j s.tasks)) t i in let b = in_keep is_alive (mine j s.tasks) t a.0 in let c = in_keep (of_job j.name) s.tasks t b.0 in (c.0, c.1, b.1, a.1)

      grown : (u : State) → may_grow_lem j u ≡ true → alives (more j u).tasks + missing js (more j u).tasks ≤ alives u.tasks + missing js u.tasks
      grown u g = let p = grown_parts js j ji u g in let a : alives (more j u).tasks ≡ suc (alives u.tasks) = p.0 in let b : missing js (more j u).tasks < missing js u.tasks = p.1 in omega arith

      olds : (t : Task) (ts : List Task) → old_to_end j s ≡ t ∷ ts → let u = with_tasks (ended (t ∷ ts) s.tasks) s in (may_grow_lem j u ≡ true → alives (more j u).tasks + missing js (more j u).tasks ≤ alives s.tasks + missing js s.tasks) × (alives u.tasks + missing js u.tasks ≤ alives s.tasks + missing js s.tasks)
      olds t ts e =
          let k = known (λ (x : Task). not (eqb x.version j.version)) t (to_end_in s j _ _ t (subst (λ (xs : List Task). In t xs) (sym e) (inl refl))) in
          let p = end_parts js one j ji s h t ts k.0 k.1 k.2 (inl (and_right (of_job j.name t && is_alive t) (eqb t.version j.version) (not-true _ k.3))) in
          let u = with_tasks (ended (t ∷ ts) s.tasks) s in
          let a : alives (ended (t ∷ ts) s.tasks) < alives s.tasks = p.0 in let b : missing js (ended (t ∷ ts) s.tasks) ≤ missing js s.tasks = p.1 in
          let c : alives u.tasks + missing js u.tasks ≤ alives s.tasks + missing js s.tasks = omega arith in
          (λ g. le_trans (grown u g) c, c)

      newer : ltb j.count (new_count j s) ≡ true → (t : Task) (ts : List Task) → old_to_end j s ≡ [] → new_to_end j s ≡ t ∷ ts → alives (ended (t ∷ ts) s.tasks) + missing js (ended (t ∷ ts) s.tasks) ≤ alives s.tasks + missing js s.tasks
      newer r t ts q e =
          let k = known (λ (x : Task). eqb x.version j.version) t (to_end_in s j _ _ t (subst (λ (xs : List Task). In t xs) (sym e) (inl refl))) in
          let p = end_parts js one j ji s h t ts k.0 k.1 k.2 (inr (subst (λ (n : ℕ). j.count < n) (new_count_is j s) (ltb-true j.count (new_count j s) r))) in
          let a : alives (ended (t ∷ ts) s.tasks) < alives s.tasks = p.0 in let b : missing js (ended (t ∷ ts) s.tasks) ≤ missing js s.tasks = p.1 in omega arith

pub whole_settle : (s : State) → Fine s → whole s.jobs (settle s).tasks ≤ whole s.jobs s.tasks
whole_settle s f = le_trans placing all.1
  where
    js : List Job
    js = s.jobs

    P : State → Type 0
    P u = Tidy u × (whole js u.tasks ≤ whole js s.tasks)

    all : P (unplaced s)
    all = steps_are P js (with_tasks (orphans_end js s.tasks) s) (λ j i u p. (tidy_step j u p.0, le_trans (whole_step js (one_of s f) j i u p.0) p.1))
        (tidy_pass _ _ (orphan_id js) s (orphans_pass js s.tasks) f.tidy, whole_le js s.tasks (orphans_end js s.tasks) (orphans_le js s.tasks) (orphans_news js s.tasks))

    placing : whole js (settle s).tasks ≤ whole js (unplaced s).tasks
    placing = whole_le js (unplaced s).tasks (settle s).tasks (pass_down Never Put is_alive (λ x y r. (placed_new x y r).0) (settle_pass s f.tidy)) (λ k i. pass_up Never Put (is_new k) (λ x d. absurd d) (λ x y r. (placed_new x y r).1 k) (settle_pass s f.tidy))

-- A REPORT BY WHICH TASKS MAY BE LOST

unfoldable pub sum_news : List Job → List Task → ℕ
sum_news [] ts = 0
sum_news (j ∷ js) ts = news j ts + sum_news js ts

abbrev pub kinds : List Job → Task → ℕ
kinds js x = length (keep (λ (k : Job). is_new k x) js)

pub sum_cons : (js : List Job) (x : Task) (xs : List Task) → sum_news js (x ∷ xs) ≡ sum_news js xs + kinds js x
unfolding sum_news keep
sum_cons [] x xs = omega arith
sum_cons (j ∷ js) x xs = pick (is_new j x) (count_cons (is_new j) x xs) (count_cons (λ (k : Job). is_new k x) j js) (sum_cons js x xs)
  where
    pick : (b : Bool) → news j (x ∷ xs) ≡ bump b (news j xs) → kinds (j ∷ js) x ≡ bump b (kinds js x) → sum_news js (x ∷ xs) ≡ sum_news js xs + kinds js x → news j (x ∷ xs) + sum_news js (x ∷ xs) ≡ (news j xs + sum_news js xs) + kinds (j ∷ js) x
    pick true a b c = omega arith
    pick false a b c = omega arith

-- a task is a new one of one job at most
pub kinds_le : (js : List Job) → Once (λ (a b : Job). same a.name b.name) js → (x : Task) → kinds js x ≤ bump (is_alive x) 0
kinds_le js o x = pick (is_alive x) refl
  where
    f : Job → Bool
    f k = is_new k x

    one : (ks : List Job) → Once (λ (a b : Job). same a.name b.name) ks → length (keep f ks) ≤ 1
    one [] q = le_trans zero_is (omega arith)
      where
        zero_is : length (keep f []) ≤ 0
        zero_is = subst (λ (ys : List Job). length ys ≤ 0) (sym (keep_none f [] (λ k i. absurd i))) (le_refl 0)
    one (k ∷ ks) q = two (f k) refl (one ks q.1)
      where
        others : f k ≡ true → (z : Job) → In z ks → f z ≡ false
        others e z i = elim (bool (f z)) [ inl p ↦ clash (same k.name z.name) (eq_same _ _ (same_eq k.name x.job (and_parts _ _ (and_parts _ _ e).0).0 ∙ sym (same_eq z.name x.job (and_parts _ _ (and_parts _ _ p).0).0))) (q.0 z i) | inr p ↦ p ]

        two : (b : Bool) → f k ≡ b → length (keep f ks) ≤ 1 → length (keep f (k ∷ ks)) ≤ 1
        two true e h = rw (keep_yes f k ks e, keep_none f ks (others e)) (omega arith)
        two false e h = rw (keep_no f k ks e) h

    pick : (b : Bool) → is_alive x ≡ b → kinds js x ≤ bump b 0
    pick true e = one js o
    pick false e = rw (keep_none f js (λ k i. not_new k x (not-false _ e))) (omega arith)

sums : (js : List Job) → Once (λ (a b : Job). same a.name b.name) js → (D : Task → Type 0) (R : Task → Task → Type 0) → ((x y : Task) → R x y → (k : Job) → is_new k x ≡ true → is_new k y ≡ true) → ((x y : Task) → R x y → is_alive y ≡ true → is_alive x ≡ true) → {xs ys : List Task} → Pass D R xs ys → sum_news js xs + alives ys ≤ sum_news js ys + alives xs
sums js o D R n a done = le_refl _
sums js o D R n a (gone {x = x} {xs = xs} {ys = ys} d p) =
    let i : sum_news js xs + alives ys ≤ sum_news js ys + alives xs = sums js o D R n a p in
    let b : sum_news js (x ∷ xs) ≡ sum_news js xs + kinds js x = sum_cons js x xs in
    let c : kinds js x ≤ bump (is_alive x) 0 = kinds_le js o x in
    let e : alives (x ∷ xs) ≡ bump (is_alive x) (alives xs) = count_cons is_alive x xs in add (is_alive x) i b c e
  where
    add : (g : Bool) → sum_news js xs + alives ys ≤ sum_news js ys + alives xs → sum_news js (x ∷ xs) ≡ sum_news js xs + kinds js x → kinds js x ≤ bump g 0 → alives (x ∷ xs) ≡ bump g (alives xs) → sum_news js (x ∷ xs) + alives ys ≤ sum_news js ys + alives (x ∷ xs)
    add true i b c e = omega arith
    add false i b c e = omega arith
sums js o D R n a (goes {x = x} {y = y} {xs = xs} {ys = ys} r p) =
    let i : sum_news js xs + alives ys ≤ sum_news js ys + alives xs = sums js o D R n a p in
    let b : sum_news js (x ∷ xs) ≡ sum_news js xs + kinds js x = sum_cons js x xs in
    let c : sum_news js (y ∷ ys) ≡ sum_news js ys + kinds js y = sum_cons js y ys in
    let d : kinds js x ≤ kinds js y = count_le (λ (k : Job). is_new k y) (λ (k : Job). is_new k x) js (λ k j. n x y r k) in
    add (is_alive x) (is_alive y) (a x y r) i b c d (count_cons is_alive x xs) (count_cons is_alive y ys)
  where
    add : (g h : Bool) → (h ≡ true → g ≡ true) → sum_news js xs + alives ys ≤ sum_news js ys + alives xs → sum_news js (x ∷ xs) ≡ sum_news js xs + kinds js x → sum_news js (y ∷ ys) ≡ sum_news js ys + kinds js y → kinds js x ≤ kinds js y → alives (x ∷ xs) ≡ bump g (alives xs) → alives (y ∷ ys) ≡ bump h (alives ys) → sum_news js (x ∷ xs) + alives (y ∷ ys) ≤ sum_news js (y ∷ ys) + alives (x ∷ xs)
    add true true q i b c d e f = omega arith
    add true false q i b c d e f = omega arith
    add false true q i b c d e f = absurd (false≢true (q refl))
    add false false q i b c d e f = omega arith

missing_sums : (js : List Job) (xs ys : List Task) → ((k : Job) → In k js → news k ys ≤ news k xs) → missing js ys + sum_news js ys ≤ missing js xs + sum_news js xs
unfolding missing sum_news
missing_sums [] xs ys h = omega arith
missing_sums (j ∷ js) xs ys h =
    let a : news j ys ≤ news j xs = h j (inl refl) in let b : missing js ys + sum_news js ys ≤ missing js xs + sum_news js xs = missing_sums js xs ys (λ k i. h k (inr i)) in omega arith

pub whole_heard : (js : List Job) → Once (λ (a b : Job). same a.name b.name) js → (k l : ℕ) (xs : List Seen) {ts ys : List Task} → Pass (Lost k l xs) (Went k xs) ts ys → whole js ys ≤ whole js ts
unfolding whole
whole_heard js o k l xs {ts} {ys} p =
    let a : sum_news js ts + alives ys ≤ sum_news js ys + alives ts = sums js o _ _ (λ x y r j. went_new j k xs x y r) (λ x y r. (went_as k xs x y r).3) p in
    let b : missing js ys + sum_news js ys ≤ missing js ts + sum_news js ts = missing_sums js ts ys (λ j i. pass_down _ _ (is_new j) (back j) p) in omega arith
  where
    back : (j : Job) (x y : Task) → Went k xs x y → is_new j y ≡ true → is_new j x ≡ true
    back j x y r q =
        let w = went_as k xs x y r in let c = and_parts (of_job j.name y && is_alive y) (eqb y.version j.version) q in let d = and_parts (of_job j.name y) (is_alive y) c.0 in
        and_from _ _ (and_from _ _ (sym (ap (same j.name) w.0) ∙ d.0) (w.3 d.1)) (sym (ap (λ (n : ℕ). eqb n j.version) w.1) ∙ c.1)
