-- Counts of tasks by tests; what is missing of jobs; and what a task that ends and one that comes do to both.
-- Assumes nothing.
use Rattle.std.proofs.Common.{◌≡◌, ℕ, suc, ◌-◌, ◌<◌, ◌≤◌, Bool, true, false, cond, not, ◌&&◌, eqb, ltb, ◌⊎◌, List, [], ◌∷◌, length, sym, refl, ap, ◌∙◌, subst, inl, inr, arith}
use Rattle.std.proofs.lemmas.Bool.{false≢true, and_parts, and_from, and_left, and_right, ltb-true, eqb-true, eq-eqb, ne_eqb}
use Rattle.model.specs.State.{Job, Ending, Task, State, is_waiting, is_ending, is_task, of_job, phased}
use Rattle.model.specs.Lists.{keep, change}
use Rattle.model.specs.Settle.{mine, ended, fresh, may_grow_lem, more}
use Rattle.rest.specs.Rest.{is_alive, is_new, missing, to_do}
use Rattle.model.proofs.Lists.{clash, In, keep_yes, keep_no, keep_keep, keep_end, count_cons, bump, bump_mono, pass_up, change_down}
use Rattle.model.proofs.Tasks.{same_refl, Rising, rising_over, rising_one, Ends, ended_pass}
use Rattle.rest.proofs.Steps.{new_count, keep_all}

-- COUNTS

pub count_le : {A : Type 0} (f g : A → Bool) (xs : List A) → ((x : A) → In x xs → g x ≡ true → f x ≡ true) → length (keep g xs) ≤ length (keep f xs)
unfolding keep
count_le f g [] h = omega arith
count_le f g (x ∷ xs) h = rw (count_cons f x xs, count_cons g x xs) (bump_mono (g x) (f x) _ _ (h x (inl refl)) (count_le f g xs (λ y i. h y (inr i))))

pub count_less : {A : Type 0} (f g : A → Bool) (xs : List A) → ((x : A) → In x xs → g x ≡ true → f x ≡ true) → (t : A) → In t xs → f t ≡ true → g t ≡ false → length (keep g xs) < length (keep f xs)
count_less f g [] h t i p q = absurd i
count_less {A} f g (x ∷ xs) h t (inl e) p q =
    let l : length (keep g xs) ≤ length (keep f xs) = count_le f g xs (λ y i. h y (inr i)) in
    rw (keep_yes f x xs (sym (ap f e) ∙ p), keep_no g x xs (sym (ap g e) ∙ q)) (omega arith)
count_less {A} f g (x ∷ xs) h t (inr i) p q =
    let l : length (keep g xs) < length (keep f xs) = count_less f g xs (λ y k. h y (inr k)) t i p q in
    rw (count_cons f x xs, count_cons g x xs) (up (g x) (f x) (h x (inl refl)) l)
  where
    up : (a b : Bool) → (a ≡ true → b ≡ true) → length (keep g xs) < length (keep f xs) → bump a (length (keep g xs)) < bump b (length (keep f xs))
    up true true k l = omega arith
    up true false k l = absurd (false≢true (k refl))
    up false true k l = omega arith
    up false false k l = l

pub change_less : {A : Type 0} (p f : A → Bool) (g : A → A) (xs : List A) → ((x : A) → In x xs → p x ≡ true → (f x ≡ true) × (f (g x) ≡ false)) → (t : A) → In t xs → p t ≡ true → length (keep f (change p g xs)) < length (keep f xs)
unfolding change
change_less p f g [] h t i q = absurd i
change_less {A} p f g (x ∷ xs) h t i q = pick (p x) refl i (λ k. change_less p f g xs (λ y j. h y (inr j)) t k q)
  where
    up : (a : Bool) (m n : ℕ) → m < n → bump a m < bump a n
    up true m n l = omega arith
    up false m n l = l

    pick : (b : Bool) → p x ≡ b → (t ≡ x) ⊎ In t xs → (In t xs → length (keep f (change p g xs)) < length (keep f xs)) → length (keep f (cond b (g x ∷ xs) (x ∷ change p g xs))) < length (keep f (x ∷ xs))
    pick true e j r = let w = h x (inl refl) e in rw (keep_no f (g x) xs w.1, keep_yes f x xs w.0) (omega arith)
    pick false e (inl j) r = clash (p x) (sym (ap p j) ∙ q) e
    pick false e (inr j) r = rw (count_cons f x (change p g xs), count_cons f x xs) (up (f x) _ _ (r j))

pub drop_down : (f : Task → Bool) (i n : ℕ) (ts : List Task) → Rising n ts → length (keep f ts) ≤ suc (length (keep f (keep (λ (u : Task). not (is_task i u)) ts)))
unfolding keep
drop_down f i n [] r = omega arith
drop_down f i n (x ∷ xs) r = rw (count_cons f x xs) (pick (is_task i x) refl (drop_down f i (suc x.id) xs r.1))
  where
    q : Task → Bool
    q u = not (is_task i u)

    less : (a : Bool) (k : ℕ) → bump a k ≤ suc k
    less true k = omega arith
    less false k = omega arith

    up : (a : Bool) (m k : ℕ) → m ≤ suc k → bump a m ≤ suc (bump a k)
    up true m k l = omega arith
    up false m k l = l

    others : is_task i x ≡ true → keep q xs ≡ xs
    others e = keep_all q xs (λ y j. ap not (ne_eqb i y.id (λ c. let a : i ≡ x.id = eqb-true i x.id e in let b : suc x.id ≤ y.id = rising_over (suc x.id) xs r.1 y j in omega arith)))

    pick : (b : Bool) → is_task i x ≡ b → length (keep f xs) ≤ suc (length (keep f (keep q xs))) → bump (f x) (length (keep f xs)) ≤ suc (length (keep f (cond (not b) (x ∷ keep q xs) (keep q xs))))
    pick true e h = rw (others e) (less (f x) (length (keep f xs)))
    pick false e h = rw (count_cons f x (keep q xs)) (up (f x) _ _ h)

-- MISSING

abbrev pub news : Job → List Task → ℕ
news j ts = length (keep (is_new j) ts)

abbrev pub lacks : Job → List Task → ℕ
lacks j ts = j.count - news j ts

pub new_count_is : (j : Job) (s : State) → new_count j s ≡ news j s.tasks
new_count_is j s = ap length (ap (keep (λ (t : Task). eqb t.version j.version)) (keep_keep is_alive (of_job j.name) s.tasks) ∙ keep_keep (λ (t : Task). eqb t.version j.version) (λ (t : Task). of_job j.name t && is_alive t) s.tasks)

pub missing_le : (js : List Job) (xs ys : List Task) → ((k : Job) → In k js → lacks k ys ≤ lacks k xs) → missing js ys ≤ missing js xs
unfolding missing
missing_le [] xs ys h = omega arith
missing_le (j ∷ js) xs ys h =
    let a : lacks j ys ≤ lacks j xs = h j (inl refl) in let b : missing js ys ≤ missing js xs = missing_le js xs ys (λ k i. h k (inr i)) in omega arith

pub missing_lt : (js : List Job) (xs ys : List Task) → ((k : Job) → In k js → lacks k ys ≤ lacks k xs) → (j : Job) → In j js → lacks j ys < lacks j xs → missing js ys < missing js xs
unfolding missing
missing_lt [] xs ys h j i l = absurd i
missing_lt (k ∷ js) xs ys h j (inl e) l =
    let a : lacks k ys < lacks k xs = subst (λ (z : Job). lacks z ys < lacks z xs) e l in let b : missing js ys ≤ missing js xs = missing_le js xs ys (λ z i. h z (inr i)) in omega arith
missing_lt (k ∷ js) xs ys h j (inr i) l =
    let a : lacks k ys ≤ lacks k xs = h k (inl refl) in let b : missing js ys < missing js xs = missing_lt js xs ys (λ z c. h z (inr c)) j i l in omega arith

abbrev pub alives : List Task → ℕ
alives ts = length (keep is_alive ts)

pub to_do_le : (js : List Job) (xs ys : List Task) → alives ys ≤ alives xs → ((k : Job) → In k js → news k xs ≤ news k ys) → to_do js ys ≤ to_do js xs
unfolding to_do
to_do_le js xs ys a h = let b : missing js ys ≤ missing js xs = missing_le js xs ys (λ k i. less k (h k i)) in omega arith
  where
    less : (k : Job) → news k xs ≤ news k ys → lacks k ys ≤ lacks k xs
    less k l = omega arith

-- ONE ENDS

pub not_new : (k : Job) (t : Task) → is_ending t.phase ≡ true → is_new k t ≡ false
not_new k t e = and_left (of_job k.name t && is_alive t) _ (and_right (of_job k.name t) (is_alive t) (ap not e))

pub ended_alive : (ts : List Task) → Rising 0 ts → (t : Task) → In t ts → is_alive t ≡ true → (more : List Task) → alives (ended (t ∷ more) ts) < alives ts
unfolding ended
ended_alive ts r t i a more = pick (is_waiting t.phase)
  where
    it : (x : Task) → In x ts → is_task t.id x ≡ true → x ≡ t
    it x k e = rising_one 0 ts r x t k i (sym (eqb-true t.id x.id e))

    q : Task → Bool
    q u = not (is_task t.id u)

    pick : (b : Bool) → length (keep is_alive (cond b (keep q ts) (change (is_task t.id) (phased Ending) ts))) < alives ts
    pick true = rw (keep_keep is_alive q ts) (count_less is_alive (λ (x : Task). q x && is_alive x) ts (λ x k e. (and_parts (q x) (is_alive x) e).1) t i a (and_left (q t) (is_alive t) (ap not (eq-eqb t.id t.id refl))))
    pick false = change_less (is_task t.id) is_alive (phased Ending) ts (λ x k e. (ap is_alive (it x k e) ∙ a, refl)) t i (eq-eqb t.id t.id refl)

pub ended_others : (k : Job) (ts : List Task) → Rising 0 ts → (t : Task) → In t ts → is_new k t ≡ false → (more : List Task) → news k ts ≤ news k (ended (t ∷ more) ts)
ended_others k ts r t i e more = pass_up _ _ (is_new k) (λ x d. ap (is_new k) d.0 ∙ e) stays (ended_pass 0 ts r t i more)
  where
    stays : (x y : Task) → (y ≡ x) ⊎ ((x ≡ t) × Ends x y) → is_new k x ≡ true → is_new k y ≡ true
    stays x y (inl p) q = ap (is_new k) p ∙ q
    stays x y (inr p) q = clash (is_new k t) (sym (ap (is_new k) p.0) ∙ q) e

pub ended_one : (k : Job) (ts : List Task) → Rising 0 ts → (t : Task) (more : List Task) → news k ts ≤ suc (news k (ended (t ∷ more) ts))
unfolding ended
ended_one k ts r t more = pick (is_waiting t.phase)
  where
    pick : (b : Bool) → news k ts ≤ suc (news k (cond b (keep (λ (u : Task). not (is_task t.id u)) ts) (change (is_task t.id) (phased Ending) ts)))
    pick true = drop_down (is_new k) t.id 0 ts r
    pick false = change_down (is_new k) (is_task t.id) (phased Ending) ts

-- ONE COMES

pub grown_parts : (js : List Job) (j : Job) → In j js → (s : State) → may_grow_lem j s ≡ true → (alives (more j s).tasks ≡ suc (alives s.tasks)) × (missing js (more j s).tasks < missing js s.tasks)
grown_parts js j i s g = (keep_end is_alive s.tasks (fresh j s.next_id), missing_lt js s.tasks (more j s).tasks (λ k ki. less k) j i strict)
  where
    u : Task
    u = fresh j s.next_id

    up : (b : Bool) (n : ℕ) → n ≤ bump b n
    up true n = omega arith
    up false n = omega arith

    less : (k : Job) → lacks k (more j s).tasks ≤ lacks k s.tasks
    less k = let p : news k (more j s).tasks ≡ bump (is_new k u) (news k s.tasks) = keep_end (is_new k) s.tasks u in let q : news k s.tasks ≤ bump (is_new k u) (news k s.tasks) = up (is_new k u) _ in omega arith

    isnew : is_new j u ≡ true
    isnew = and_from _ _ (and_from _ _ (same_refl j.name) refl) (eq-eqb j.version j.version refl)

    wants : news j s.tasks < j.count
    wants =
        let c = ltb (new_count j s) j.count in let b = ltb (length (mine j s.tasks)) j.most in let d = ltb (length s.tasks) 2048 in let e = ltb s.next_id 4611686018427387904 in
        subst (λ (n : ℕ). n < j.count) (new_count_is j s) (ltb-true (new_count j s) j.count (and_parts c b (and_parts (c && b) d (and_parts (c && b && d) e g).0).0).0)

    strict : lacks j (more j s).tasks < lacks j s.tasks
    strict =
        let p : news j (more j s).tasks ≡ bump (is_new j u) (news j s.tasks) = keep_end (is_new j) s.tasks u in
        let q : news j (more j s).tasks ≡ suc (news j s.tasks) = p ∙ ap (λ b. bump b (news j s.tasks)) isnew in
        let w : news j s.tasks < j.count = wants in omega arith

pub grown_less : (js : List Job) (j : Job) → In j js → (s : State) → may_grow_lem j s ≡ true → to_do js (more j s).tasks < to_do js s.tasks
unfolding to_do
grown_less js j i s g =
    let p = grown_parts js j i s g in
    let a : alives (more j s).tasks ≡ suc (alives s.tasks) = p.0 in let b : missing js (more j s).tasks < missing js s.tasks = p.1 in omega arith
