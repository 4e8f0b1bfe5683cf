-- At rest a pass changes nothing; and where all is ready and a pass has nothing to do, it is at rest.
-- Assumes nothing.
use Rattle.std.proofs.Common.{◌≡◌, ℕ, suc, ◌+◌, ◌<◌, ◌≤◌, Bool, true, false, cond, not, ◌||◌, eqb, ltb, ◌⊎◌, List, [], ◌∷◌, length, sym, refl, ap, ◌∙◌, subst, inl, inr, arith}
use Rattle.std.proofs.lemmas.Bool.{true≢false, false≢true, and_from, and_left, not-true, not-false, ltb-true, ltb-false, lt-ltb, le-ltb}
use Rattle.model.specs.State.{Job, Ending, Task, State, is_waiting, is_ready_lem, is_ending, of_job, phased, with_tasks}
use Rattle.model.specs.Lists.{some, keep, same}
use Rattle.model.specs.Settle.{mine, alive, new_ones, old_ones, ready_ones, to_end_lem, for_jobs, orphans_end, settle, may_grow_lem, new_to_end}
use Rattle.model.specs.Calls.{all_most}
use Rattle.rest.specs.Rest.{is_alive}
use Rattle.model.proofs.Lists.{clash, bool, In, in_keep, keep_in, keep_yes, keep_no, count_cons, bump, some_from, some_at}
use Rattle.model.proofs.Tasks.{same_eq, eq_same, waiting_not_ready}
use Rattle.rest.proofs.Steps.{new_count, Idle, idles_same, to_end_none, none_ends, keep_all, keep_none, kept_none}
use Rattle.rest.proofs.Falls.{Quiet, quiet_same, ready_alive}

-- as setting a job allows
abbrev pub Lawful : Job → Type 0
Lawful j = (j.least ≤ j.count) × (j.count ≤ j.most) × ((j.count < j.most) ⊎ ((j.least < j.count) ⊎ (j.count ≡ 0)))

pub record Resting (s : State) : Type 0 where
  pub ready : (t : Task) → In t s.tasks → is_ready_lem t.phase ≡ true
  pub wanted : (t : Task) → In t s.tasks → (j : Job) × In j s.jobs × (same j.name t.job ≡ true) × (eqb t.version j.version ≡ true)
  pub exact : (j : Job) → In j s.jobs → length (mine j s.tasks) ≡ j.count

abbrev pub OneName : List Job → Type 0
OneName js = (a b : Job) → In a js → In b js → same a.name b.name ≡ true → a ≡ b

-- AT REST NOTHING CHANGES

orphans_same : (js : List Job) (ts : List Task) → ((t : Task) → In t ts → some (λ (j : Job). same j.name t.job) js ≡ true) → orphans_end js ts ≡ ts
unfolding orphans_end
orphans_same js [] h = refl
orphans_same js (t ∷ ts) h = pick (some (λ (j : Job). same j.name t.job) js) (h t (inl refl)) (orphans_same js ts (λ x i. h x (inr i)))
  where
    pick : (b : Bool) → b ≡ true → orphans_end js ts ≡ ts → cond b (t ∷ orphans_end js ts) (cond (is_waiting t.phase) (orphans_end js ts) (phased Ending t ∷ orphans_end js ts)) ≡ t ∷ ts
    pick true e r = ap (λ ys. t ∷ ys) r
    pick false e r = absurd (false≢true e)

module _ (s : State) (one : OneName s.jobs) (r : Resting s) where
  mine_new : (j : Job) → In j s.jobs → (t : Task) → In t (mine j s.tasks) → eqb t.version j.version ≡ true
  mine_new j i t k =
      let a = in_keep (of_job j.name) s.tasks t k in let w = r.wanted t a.0 in
      let e : w.0 ≡ j = one w.0 j w.1 i (eq_same _ _ (same_eq w.0.name t.job w.2 ∙ sym (same_eq j.name t.job a.1))) in
      sym (ap (λ (z : Job). eqb t.version z.version) e) ∙ w.3

  mine_alive : (j : Job) → alive (mine j s.tasks) ≡ mine j s.tasks
  mine_alive j = keep_all is_alive (mine j s.tasks) (λ t k. ap not (ready_alive t.phase (r.ready t (in_keep (of_job j.name) s.tasks t k).0)))

  rest_idle : (j : Job) → In j s.jobs → Idle j s
  rest_idle j i = (
    ap (to_end_lem s j (mine j s.tasks)) (ap (old_ones j) (mine_alive j) ∙ keep_none _ (mine j s.tasks) (λ t k. ap not (mine_new j i t k))) ∙ none_ends s j (mine j s.tasks),
    inr (le-ltb j.count (new_count j s) (let n' : new_count j s ≡ j.count = n in omega arith), and_left _ _ (and_left _ _ (and_left _ _ (le-ltb (new_count j s) j.count (let n' : new_count j s ≡ j.count = n in omega arith))))),
  )
    where
      n : new_count j s ≡ j.count
      n = ap length (ap (new_ones j) (mine_alive j) ∙ keep_all _ (mine j s.tasks) (λ t k. mine_new j i t k)) ∙ r.exact j i

  has_job : (t : Task) → In t s.tasks → some (λ (j : Job). same j.name t.job) s.jobs ≡ true
  has_job t k = let w = r.wanted t k in some_from (λ (j : Job). same j.name t.job) s.jobs w.0 w.1 w.2

  pub rest_quiet : Quiet s
  rest_quiet =
      record {
        idle = rest_idle;
        wanted = λ t k e. clash (some (λ (j : Job). same j.name t.job) s.jobs) (has_job t k) (not-true _ e);
        same = ap (λ (xs : List Task). for_jobs s.jobs (with_tasks xs s)) (orphans_same s.jobs s.tasks has_job) ∙ idles_same s.jobs s rest_idle;
      }

  -- the pass leaves a state at rest as it is
  pub rest_settles : settle s ≡ s
  rest_settles = quiet_same s rest_quiet (keep_none _ s.tasks (λ t k. elim (bool (is_waiting t.phase)) [ inl w ↦ clash (is_ready_lem t.phase) (r.ready t k) (waiting_not_ready t.phase w) | inr w ↦ w ]))

-- SUMS OVER JOBS

unfoldable pub sum_mine : List Job → List Task → ℕ
sum_mine [] ts = 0
sum_mine (j ∷ js) ts = length (mine j ts) + sum_mine js ts

pub sum_cons : (js : List Job) (t : Task) (ts : List Task) → (sum_mine js ts ≤ sum_mine js (t ∷ ts)) × (some (λ (j : Job). same j.name t.job) js ≡ true → sum_mine js ts < sum_mine js (t ∷ ts))
unfolding sum_mine some
sum_cons [] t ts = (omega arith, λ e. absurd (false≢true e))
sum_cons (j ∷ js) t ts = pick (same j.name t.job) refl (count_cons (of_job j.name) t ts) (sum_cons js t ts)
  where
    S : Bool
    S = some (λ (k : Job). same k.name t.job) js

    pick : (b : Bool) → same j.name t.job ≡ b → length (mine j (t ∷ ts)) ≡ bump b (length (mine j ts)) → (sum_mine js ts ≤ sum_mine js (t ∷ ts)) × (S ≡ true → sum_mine js ts < sum_mine js (t ∷ ts)) → (length (mine j ts) + sum_mine js ts ≤ length (mine j (t ∷ ts)) + sum_mine js (t ∷ ts)) × (b || S ≡ true → length (mine j ts) + sum_mine js ts < length (mine j (t ∷ ts)) + sum_mine js (t ∷ ts))
    pick true e c r = (omega arith, λ p. omega arith)
    pick false e c r = (omega arith, λ p. let k : sum_mine js ts < sum_mine js (t ∷ ts) = r.1 p in omega arith)

sum_all : (js : List Job) (ts : List Task) → ((t : Task) → In t ts → some (λ (j : Job). same j.name t.job) js ≡ true) → length ts ≤ sum_mine js ts
sum_all js [] h = omega arith
sum_all js (t ∷ ts) h = let a : length ts ≤ sum_mine js ts = sum_all js ts (λ x i. h x (inr i)) in let b : sum_mine js ts < sum_mine js (t ∷ ts) = (sum_cons js t ts).1 (h t (inl refl)) in omega arith

sum_le : (js : List Job) (ts : List Task) → ((j : Job) → In j js → length (mine j ts) ≤ j.most) → sum_mine js ts ≤ all_most js
unfolding sum_mine all_most
sum_le [] ts h = omega arith
sum_le (j ∷ js) ts h = let a : length (mine j ts) ≤ j.most = h j (inl refl) in let b : sum_mine js ts ≤ all_most js = sum_le js ts (λ k i. h k (inr i)) in omega arith

sum_lt : (js : List Job) (ts : List Task) → ((j : Job) → In j js → length (mine j ts) ≤ j.most) → (j : Job) → In j js → length (mine j ts) < j.most → sum_mine js ts < all_most js
unfolding sum_mine all_most
sum_lt [] ts h j i l = absurd i
sum_lt (k ∷ js) ts h j (inl e) l = let a : length (mine k ts) < k.most = subst (λ (z : Job). length (mine z ts) < z.most) e l in let b : sum_mine js ts ≤ all_most js = sum_le js ts (λ z i. h z (inr i)) in omega arith
sum_lt (k ∷ js) ts h j (inr i) l = let a : length (mine k ts) ≤ k.most = h k (inl refl) in let b : sum_mine js ts < all_most js = sum_lt js ts (λ z c. h z (inr c)) j i l in omega arith

-- WHERE NOTHING IS DONE IT IS AT REST

pub split : {A : Type 0} (f : A → Bool) (xs : List A) → length xs ≡ length (keep f xs) + length (keep (λ (x : A). not (f x)) xs)
unfolding keep
split f [] = omega arith
split {A} f (x ∷ xs) = pick (f x) refl (split f xs)
  where
    g : A → Bool
    g y = not (f y)

    pick : (b : Bool) → f x ≡ b → length xs ≡ length (keep f xs) + length (keep g xs) → suc (length xs) ≡ length (keep f (x ∷ xs)) + length (keep g (x ∷ xs))
    pick true e h = rw (keep_yes f x xs e, keep_no g x xs (ap not e)) (omega arith)
    pick false e h = rw (keep_no f x xs e, keep_yes g x xs (ap not e)) (omega arith)

pub no_length : {A : Type 0} (xs : List A) → length xs ≤ 0 → xs ≡ []
no_length [] h = refl
no_length (x ∷ xs) h = absurd (omega arith)

module _ (s : State) (q : Quiet s) (ready : (t : Task) → In t s.tasks → is_ready_lem t.phase ≡ true) (lawful : (j : Job) → In j s.jobs → Lawful j) (mosts : all_most s.jobs ≤ 2048) (left : s.next_id < 4611686018427387904) where
  abbrev of_it : Job → List Task
  of_it j = mine j s.tasks

  all_ready : (j : Job) → ready_ones (of_it j) ≡ of_it j
  all_ready j = keep_all (λ (t : Task). is_ready_lem t.phase) (of_it j) (λ t k. ready t (in_keep (of_job j.name) s.tasks t k).0)

  all_alive : (j : Job) → alive (of_it j) ≡ of_it j
  all_alive j = keep_all is_alive (of_it j) (λ t k. ap not (ready_alive t.phase (ready t (in_keep (of_job j.name) s.tasks t k).0)))

  -- of these all are ready
  some_ready : (j : Job) (f : Task → Bool) → ready_ones (keep f (alive (of_it j))) ≡ keep f (alive (of_it j))
  some_ready j f = keep_all (λ (t : Task). is_ready_lem t.phase) (keep f (alive (of_it j))) (λ t k. ready t (in_keep (of_job j.name) s.tasks t (in_keep is_alive (of_it j) t (in_keep f (alive (of_it j)) t k).0).0).0)

  abbrev olds : Job → ℕ
  olds j = length (old_ones j (alive (of_it j)))

  parts : (j : Job) → length (of_it j) ≡ new_count j s + olds j
  parts j = ap length (sym (all_alive j)) ∙ split (λ (t : Task). eqb t.version j.version) (alive (of_it j))

  none_left : (j : Job) (f : Task → Bool) → to_end_lem s j (of_it j) (keep f (alive (of_it j))) ≡ [] → j.least < length (of_it j) → length (keep f (alive (of_it j))) ≡ 0
  none_left j f e l = ap length (sym (some_ready j f) ∙ (to_end_none s j (of_it j) (keep f (alive (of_it j))) e).1 (subst (λ (xs : List Task). j.least < length xs) (sym (all_ready j)) l))

  old_or : (j : Job) → In j s.jobs → (length (of_it j) ≤ j.least) ⊎ (olds j ≡ 0)
  old_or j i = elim (bool (ltb j.least (length (of_it j)))) [ inl p ↦ inr (none_left j (λ (t : Task). not (eqb t.version j.version)) (q.idle j i).0 (ltb-true _ _ p)) | inr p ↦ inl (ltb-false _ _ p) ]

  new_or : (j : Job) → In j s.jobs → (new_count j s ≤ j.count) × (may_grow_lem j s ≡ false)
  new_or j i = pick (q.idle j i).1
    where
      pick : ((ltb j.count (new_count j s) ≡ true) × (new_to_end j s ≡ [])) ⊎ ((ltb j.count (new_count j s) ≡ false) × (may_grow_lem j s ≡ false)) → (new_count j s ≤ j.count) × (may_grow_lem j s ≡ false)
      pick (inr h) = (ltb-false _ _ h.0, h.1)
      pick (inl h) =
          let a : j.count < new_count j s = ltb-true _ _ h.0 in let p : length (of_it j) ≡ new_count j s + olds j = parts j in let b : j.least ≤ j.count = (lawful j i).0 in
          let c : new_count j s ≡ 0 = none_left j (λ (t : Task). eqb t.version j.version) h.1 (omega arith) in absurd (omega arith)

  fits : (j : Job) → In j s.jobs → length (of_it j) ≤ j.most
  fits j i = let p : length (of_it j) ≡ new_count j s + olds j = parts j in let n : new_count j s ≤ j.count = (new_or j i).0 in let b : j.least ≤ j.count = (lawful j i).0 in let c : j.count ≤ j.most = (lawful j i).1 in pick p n b c (old_or j i)
    where
      pick : length (of_it j) ≡ new_count j s + olds j → new_count j s ≤ j.count → j.least ≤ j.count → j.count ≤ j.most → (length (of_it j) ≤ j.least) ⊎ (olds j ≡ 0) → length (of_it j) ≤ j.most
      pick p n b c (inl h) = omega arith
      pick p n b c (inr h) = omega arith

  has : (t : Task) → In t s.tasks → some (λ (j : Job). same j.name t.job) s.jobs ≡ true
  has t k = elim (bool (some (λ (j : Job). same j.name t.job) s.jobs)) [ inl p ↦ p | inr p ↦ clash (is_ending t.phase) (q.wanted t k (ap not p)) (ready_alive t.phase (ready t k)) ]

  -- there is room in the list for one that is missing
  total : (j : Job) → In j s.jobs → length (of_it j) < j.most → length s.tasks < 2048
  total j i l = let a : length s.tasks ≤ sum_mine s.jobs s.tasks = sum_all s.jobs s.tasks has in let b : sum_mine s.jobs s.tasks < all_most s.jobs = sum_lt s.jobs s.tasks fits j i l in omega arith

  grows : (j : Job) → In j s.jobs → new_count j s < j.count → length (of_it j) < j.most → ⊥
  grows j i a b = absurd (true≢false (sym (and_from _ _ (and_from _ _ (and_from _ _ (lt-ltb (new_count j s) j.count a) (lt-ltb (length (of_it j)) j.most b)) (lt-ltb (length s.tasks) 2048 (total j i b))) (lt-ltb s.next_id 4611686018427387904 left)) ∙ (new_or j i).1))

  settled : (j : Job) → In j s.jobs → (olds j ≡ 0) × (new_count j s ≡ j.count)
  settled j i =
      let p : length (of_it j) ≡ new_count j s + olds j = parts j in let n : new_count j s ≤ j.count = (new_or j i).0 in let l = lawful j i in
      pick p n l.0 l.1 l.2 (bool (ltb (new_count j s) j.count)) (bool (ltb (length (of_it j)) j.most)) (old_or j i)
    where
      pick : length (of_it j) ≡ new_count j s + olds j → new_count j s ≤ j.count → j.least ≤ j.count → j.count ≤ j.most → (j.count < j.most) ⊎ ((j.least < j.count) ⊎ (j.count ≡ 0)) → (ltb (new_count j s) j.count ≡ true) ⊎ (ltb (new_count j s) j.count ≡ false) → (ltb (length (of_it j)) j.most ≡ true) ⊎ (ltb (length (of_it j)) j.most ≡ false) → (length (of_it j) ≤ j.least) ⊎ (olds j ≡ 0) → (olds j ≡ 0) × (new_count j s ≡ j.count)
      pick p n b c d (inl x) (inl y) o = absurd (grows j i (ltb-true _ _ x) (ltb-true _ _ y))
      pick p n b c d (inl x) (inr y) (inr o) = let x' : new_count j s < j.count = ltb-true _ _ x in let y' : j.most ≤ length (of_it j) = ltb-false _ _ y in absurd (omega arith)
      pick p n b c (inl d) (inl x) (inr y) (inl o) = let x' : new_count j s < j.count = ltb-true _ _ x in let y' : j.most ≤ length (of_it j) = ltb-false _ _ y in absurd (omega arith)
      pick p n b c (inr (inl d)) (inl x) (inr y) (inl o) = let x' : new_count j s < j.count = ltb-true _ _ x in let y' : j.most ≤ length (of_it j) = ltb-false _ _ y in absurd (omega arith)
      pick p n b c (inr (inr d)) (inl x) (inr y) (inl o) = let x' : new_count j s < j.count = ltb-true _ _ x in absurd (omega arith)
      pick p n b c d (inr x) y (inl o) = let x' : j.count ≤ new_count j s = ltb-false _ _ x in (omega arith, omega arith)
      pick p n b c d (inr x) y (inr o) = let x' : j.count ≤ new_count j s = ltb-false _ _ x in (o, omega arith)

  pub stuck_rests : Resting s
  stuck_rests =
      record {
        ready = ready;
        wanted = λ t k. let w = some_at (λ (j : Job). same j.name t.job) s.jobs (has t k) in (w.0, w.1, w.2, version t k w.0 w.1 w.2);
        exact = λ j i. let p : length (of_it j) ≡ new_count j s + olds j = parts j in let r = settled j i in let a : olds j ≡ 0 = r.0 in let b : new_count j s ≡ j.count = r.1 in omega arith;
      }
    where
      version : (t : Task) → In t s.tasks → (j : Job) → In j s.jobs → same j.name t.job ≡ true → eqb t.version j.version ≡ true
      version t k j i e =
          let z : olds j ≡ 0 = (settled j i).0 in
          not-false _ (kept_none (λ (x : Task). not (eqb x.version j.version)) (alive (of_it j)) (no_length _ (omega arith)) t (keep_in is_alive (of_it j) t (keep_in (of_job j.name) s.tasks t k e) (ap not (ready_alive t.phase (ready t k)))))
