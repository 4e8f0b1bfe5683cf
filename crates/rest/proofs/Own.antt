-- A job's own tasks: one step for it makes less what is left to do for it, and steps for other jobs leave its tasks as they are.
-- Assumes nothing.
use Rattle.std.proofs.Common.{◌≡◌, ℕ, suc, ◌+◌, ◌*◌, ◌<◌, ◌≤◌, Bool, true, false, cond, not, ◌&&◌, ltb, eqb, ◌⊎◌, List, [], ◌∷◌, ◌++◌, length, sym, refl, ap, ◌∙◌, subst, inl, inr, le_trans, arith}
use Rattle.std.proofs.lemmas.Bool.{and_parts, and_from, and_left, and_right, not-true, ltb-true, eqb-true, eq-eqb}
use Rattle.model.specs.State.{Job, Ending, Task, State, is_waiting, is_task, of_job, phased, with_tasks}
use Rattle.model.specs.Lists.{keep, change, same}
use Rattle.model.specs.Settle.{mine, alive, new_ones, ended, fresh, for_job, may_grow_lem, more, old_to_end, new_to_end}
use Rattle.rest.specs.Rest.{is_alive, is_new, missing}
use Rattle.model.proofs.Lists.{clash, bool, In, in_keep, keep_yes, keep_no, keep_keep, keep_end, bump, Pass, done, gone, goes}
use Rattle.model.proofs.Tasks.{same_refl, same_eq, eq_same, unsame_sym, Rising, rising_one, ended_pass, MayEnd, step_is}
use Rattle.model.proofs.Settles.{Tidy}
use Rattle.rest.proofs.Steps.{new_count, Idle, step_cases, to_end_in}
use Rattle.rest.proofs.Lacks.{count_less, change_less, news, lacks, new_count_is, ended_others, ended_one, grown_parts}

-- what passes a test goes on as it is, in a pass in which nothing that passes is gone or changed
pub keep_pass : {A : Type 0} (D : A → Type 0) (R : A → A → Type 0) (f : A → Bool) {xs ys : List A} → Pass D R xs ys → ((x : A) → In x xs → D x → f x ≡ false) → ((x y : A) → In x xs → R x y → f y ≡ f x) → ((x y : A) → In x xs → R x y → f x ≡ true → y ≡ x) → keep f ys ≡ keep f xs
keep_pass D R f done d s e = refl
keep_pass D R f (gone {x = x} {xs = xs} h p) d s e = keep_pass D R f p (λ z i. d z (inr i)) (λ z v i. s z v (inr i)) (λ z v i. e z v (inr i)) ∙ sym (keep_no f x xs (d x (inl refl) h))
keep_pass {A} D R f (goes {x = x} {y = y} {xs = xs} {ys = ys} h p) d s e = pick (f x) refl (keep_pass D R f p (λ z i. d z (inr i)) (λ z v i. s z v (inr i)) (λ z v i. e z v (inr i)))
  where
    pick : (b : Bool) → f x ≡ b → keep f ys ≡ keep f xs → keep f (y ∷ ys) ≡ keep f (x ∷ xs)
    pick true q r =
        let c : y ≡ x = e x y (inl refl) h q in let z : y ∷ keep f ys ≡ x ∷ keep f xs = cc in
        keep_yes f y ys (s x y (inl refl) h ∙ q) ∙ (z ∙ sym (keep_yes f x xs q))
    pick false q r = keep_no f y ys (s x y (inl refl) h ∙ q) ∙ (r ∙ sym (keep_no f x xs q))

pub keep_off : {A : Type 0} (f : A → Bool) (xs : List A) (y : A) → f y ≡ false → keep f (xs ++ (y ∷ [])) ≡ keep f xs
keep_off f [] y e = keep_no f y [] e
keep_off {A} f (x ∷ xs) y e = pick (f x) refl (keep_off f xs y e)
  where
    pick : (b : Bool) → f x ≡ b → keep f (xs ++ (y ∷ [])) ≡ keep f xs → keep f (x ∷ (xs ++ (y ∷ []))) ≡ keep f (x ∷ xs)
    pick true q r = keep_yes f x (xs ++ (y ∷ [])) q ∙ (ap (λ zs. x ∷ zs) r ∙ sym (keep_yes f x xs q))
    pick false q r = keep_no f x (xs ++ (y ∷ [])) q ∙ (r ∙ sym (keep_no f x xs q))

-- WHAT IS LEFT TO DO FOR A JOB

-- a task of the job that isn't ending
abbrev pub own : Job → Task → Bool
own j t = of_job j.name t && is_alive t

abbrev pub owns : Job → List Task → ℕ
owns j ts = length (keep (own j) ts)

unfoldable pub left_of : Job → List Task → ℕ
left_of j ts = owns j ts + 2 * lacks j ts

abbrev pub whole_of : Job → List Task → ℕ
whole_of j ts = owns j ts + lacks j ts

pub owns_mine : (j : Job) (ts : List Task) → length (alive (mine j ts)) ≡ owns j ts
owns_mine j ts = ap length (keep_keep is_alive (of_job j.name) ts)

pub news_mine : (j : Job) (ts : List Task) → length (new_ones j (alive (mine j ts))) ≡ news j ts
news_mine j ts = ap length (ap (keep (λ (t : Task). eqb t.version j.version)) (keep_keep is_alive (of_job j.name) ts) ∙ keep_keep (λ (t : Task). eqb t.version j.version) (λ (t : Task). of_job j.name t && is_alive t) ts)

-- it depends on the job's tasks alone
pub owns_same : (j : Job) (xs ys : List Task) → mine j ys ≡ mine j xs → owns j ys ≡ owns j xs
owns_same j xs ys e = sym (owns_mine j ys) ∙ (ap (λ (ts : List Task). length (alive ts)) e ∙ owns_mine j xs)

pub news_same : (j : Job) (xs ys : List Task) → mine j ys ≡ mine j xs → news j ys ≡ news j xs
news_same j xs ys e = sym (news_mine j ys) ∙ (ap (λ (ts : List Task). length (new_ones j (alive ts))) e ∙ news_mine j xs)

pub left_same : (j : Job) (xs ys : List Task) → mine j ys ≡ mine j xs → left_of j ys ≡ left_of j xs
unfolding left_of
left_same j xs ys e = let a : owns j ys ≡ owns j xs = owns_same j xs ys e in let b : news j ys ≡ news j xs = news_same j xs ys e in omega arith

pub whole_same : (j : Job) (xs ys : List Task) → mine j ys ≡ mine j xs → whole_of j ys ≡ whole_of j xs
whole_same j xs ys e = let a : owns j ys ≡ owns j xs = owns_same j xs ys e in let b : news j ys ≡ news j xs = news_same j xs ys e in omega arith

-- ITS OWN STEP

ended_less : (f : Task → Bool) (ts : List Task) → Rising 0 ts → (t : Task) → In t ts → f t ≡ true → f (phased Ending t) ≡ false → (more : List Task) → length (keep f (ended (t ∷ more) ts)) < length (keep f ts)
unfolding ended
ended_less f ts r t i a b more = pick (is_waiting t.phase)
  where
    it : (x : Task) → In x ts → is_task t.id x ≡ true → x ≡ t
    it x k e = rising_one 0 ts r x t k i (sym (eqb-true t.id x.id e))

    q : Task → Bool
    q u = not (is_task t.id u)

    pick : (c : Bool) → length (keep f (cond c (keep q ts) (change (is_task t.id) (phased Ending) ts))) < length (keep f ts)
    pick true = rw (keep_keep f q ts) (count_less f (λ (x : Task). q x && f x) ts (λ x k e. (and_parts (q x) (f x) e).1) t i a (and_left (q t) (f t) (ap not (eq-eqb t.id t.id refl))))
    pick false = change_less (is_task t.id) f (phased Ending) ts (λ x k e. (ap f (it x k e) ∙ a, ap (λ (z : Task). f (phased Ending z)) (it x k e) ∙ b)) t i (eq-eqb t.id t.id refl)

abbrev Parts : Job → List Task → List Task → Type 0
Parts j xs ys = (owns j ys < owns j xs) × (lacks j ys ≤ lacks j xs)

end_own : (j : Job) (s : State) → Tidy s → (t : Task) (ts : List Task) → In t s.tasks → of_job j.name t ≡ true → is_alive t ≡ true → (is_new j t ≡ false) ⊎ (j.count < news j s.tasks) → Parts j s.tasks (ended (t ∷ ts) s.tasks)
end_own j s h t ts i o a c = (ended_less (own j) s.tasks h.0 t i (and_from _ _ o a) (and_right (of_job j.name t) false refl) ts, less c)
  where
    less : (is_new j t ≡ false) ⊎ (j.count < news j s.tasks) → lacks j (ended (t ∷ ts) s.tasks) ≤ lacks j s.tasks
    less (inl e) = let p : news j s.tasks ≤ news j (ended (t ∷ ts) s.tasks) = ended_others j s.tasks h.0 t i e ts in omega arith
    less (inr d) = let p : news j s.tasks ≤ suc (news j (ended (t ∷ ts) s.tasks)) = ended_one j s.tasks h.0 t ts in omega arith

grow_own : (j : Job) (s : State) → may_grow_lem j s ≡ true → (owns j (more j s).tasks ≡ suc (owns j s.tasks)) × (lacks j (more j s).tasks < lacks j s.tasks)
unfolding missing
grow_own j s g = (
  keep_end (own j) s.tasks (fresh j s.next_id) ∙ ap (λ (b : Bool). bump b (owns j s.tasks)) (and_from (same j.name j.name) true (same_refl j.name) refl),
  let m : missing (j ∷ []) (more j s).tasks < missing (j ∷ []) s.tasks = (grown_parts (j ∷ []) j (inl refl) s g).1 in omega arith,
)

-- the outcomes of the step: something is less, or nothing is done
abbrev pub Stepped : Job → State → State → Type 0
Stepped j s u = ((left_of j u.tasks < left_of j s.tasks) × (whole_of j u.tasks ≤ whole_of j s.tasks)) ⊎ (Idle j s × (u ≡ s))

pub own_step : (j : Job) (s : State) → Tidy s → Stepped j s (for_job j s)
unfolding left_of
own_step j s h = step_cases (Stepped j s) j s olds newer (λ g p q. inl (grown s g)) (λ i. inr (i, refl))
  where
    Less : State → State → Type 0
    Less u v = (owns j v.tasks + 2 * lacks j v.tasks < owns j u.tasks + 2 * lacks j u.tasks) × (whole_of j v.tasks ≤ whole_of j u.tasks)

    known : (f : Task → Bool) (t : Task) → In t (keep f (alive (mine j s.tasks))) → In t s.tasks × (of_job j.name t ≡ true) × (is_alive t ≡ true) × (f t ≡ true)
    known f t i = let a = in_keep f (alive (mine j s.tasks)) t i in let b = in_keep is_alive (mine j s.tasks) t a.0 in let c = in_keep (of_job j.name) s.tasks t b.0 in (c.0, c.1, b.1, a.1)

    grown : (u : State) → may_grow_lem j u ≡ true → Less u (more j u)
    grown u g = let p = grow_own j u g in let a : owns j (more j u).tasks ≡ suc (owns j u.tasks) = p.0 in let b : lacks j (more j u).tasks < lacks j u.tasks = p.1 in (omega arith, omega arith)

    lower : (u v : State) → Parts j u.tasks v.tasks → Less u v
    lower u v p = let a : owns j v.tasks < owns j u.tasks = p.0 in let b : lacks j v.tasks ≤ lacks j u.tasks = p.1 in (omega arith, omega arith)

    both : (u v x : State) → Less u v → Less v x → Less u x
    both u v x p q = (let a = p.0 in let b = q.0 in omega arith, le_trans q.1 p.1)

    olds : (t : Task) (ts : List Task) → old_to_end j s ≡ t ∷ ts → let u = with_tasks (ended (t ∷ ts) s.tasks) s in (may_grow_lem j u ≡ true → Stepped j s (more j u)) × Stepped j s u
    olds t ts e = (λ g. inl (both s u (more j u) first (grown u g)), inl first)
      where
        u : State
        u = with_tasks (ended (t ∷ ts) s.tasks) s

        k : In t s.tasks × (of_job j.name t ≡ true) × (is_alive t ≡ true) × (not (eqb t.version j.version) ≡ true)
        k = known (λ (x : Task). not (eqb x.version j.version)) t (to_end_in s j _ _ t (subst (λ (xs : List Task). In t xs) (sym e) (inl refl)))

        first : Less s u
        first = lower s u (end_own j s h t ts k.0 k.1 k.2 (inl (and_right (of_job j.name t && is_alive t) (eqb t.version j.version) (not-true _ k.3))))

    newer : ltb j.count (new_count j s) ≡ true → (t : Task) (ts : List Task) → old_to_end j s ≡ [] → new_to_end j s ≡ t ∷ ts → Stepped j s (with_tasks (ended (t ∷ ts) s.tasks) s)
    newer r t ts p e =
        let k = known (λ (x : Task). eqb x.version j.version) t (to_end_in s j _ _ t (subst (λ (xs : List Task). In t xs) (sym e) (inl refl))) in
        inl (lower s (with_tasks (ended (t ∷ ts) s.tasks) s) (end_own j s h t ts k.0 k.1 k.2 (inr (subst (λ (n : ℕ). j.count < n) (new_count_is j s) (ltb-true j.count (new_count j s) r)))))

-- A STEP FOR ANOTHER JOB

pub not_of : (k j : Job) (t : Task) → same k.name j.name ≡ false → of_job k.name t ≡ true → of_job j.name t ≡ false
not_of k j t e o = elim (bool (of_job j.name t)) [ inl p ↦ clash (same k.name j.name) (eq_same _ _ (same_eq k.name t.job o ∙ sym (same_eq j.name t.job p))) e | inr p ↦ p ]

pub other_step : (k j : Job) → same k.name j.name ≡ false → (s : State) → Tidy s → mine j (for_job k s).tasks ≡ mine j s.tasks
unfolding ended
other_step k j e s h = step_is (λ (u : State). mine j u.tasks ≡ mine j s.tasks) k s ending (λ xs m g. keep_off (of_job j.name) (ended xs s.tasks) (fresh k s.next_id) (unsame_sym k.name j.name e) ∙ ending xs m)
  where
    ending : (xs : List Task) → MayEnd s k xs → mine j (ended xs s.tasks) ≡ mine j s.tasks
    ending [] m = refl
    ending (t ∷ ts) m =
        keep_pass _ _ (of_job j.name) (ended_pass 0 s.tasks h.0 t m.0 ts) (λ x i d. ap (of_job j.name) d.0 ∙ not_of k j t e m.1)
        (λ x y i r. elim r [ inl p ↦ ap (of_job j.name) p | inr p ↦ ap (of_job j.name) p.1.1 ])
        (λ x y i r q. elim r [ inl p ↦ p | inr p ↦ clash (of_job j.name x) q (ap (of_job j.name) p.0 ∙ not_of k j t e m.1) ])
