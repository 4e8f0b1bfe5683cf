-- One step for a job, by its four outcomes; and what a step leaves where there is nothing to do.
-- Assumes nothing.
use Rattle.std.proofs.Common.{◌≡◌, ℕ, ◌<◌, Bool, true, false, cond, not, ◌&&◌, ltb, ◌⊎◌, List, [], ◌∷◌, length, refl, ap, ◌∙◌, subst, inl, inr, arith}
use Rattle.std.proofs.lemmas.Bool.{false≢true, lt-ltb, cond_both}
use Rattle.model.specs.State.{Job, Task, State, is_ready_lem, with_tasks}
use Rattle.model.specs.Lists.{keep, none, last_of, head_or}
use Rattle.model.specs.Settle.{mine, alive, new_ones, ready_ones, sure, to_end_lem, ended, for_job, for_jobs, may_grow_lem, more, old_to_end, new_to_end}
use Rattle.model.proofs.Lists.{clash, bool, In, in_keep, keep_in, keep_yes, keep_no, last_in, head_in}

abbrev pub new_count : Job → State → ℕ
new_count j s = length (new_ones j (alive (mine j s.tasks)))

-- nothing ends and nothing comes
abbrev pub Idle : Job → State → Type 0
Idle j s = (old_to_end j s ≡ []) × (((ltb j.count (new_count j s) ≡ true) × (new_to_end j s ≡ [])) ⊎ ((ltb j.count (new_count j s) ≡ false) × (may_grow_lem j s ≡ false)))

pub step_cases : (P : State → Type 0) (j : Job) (s : State) →
    ((t : Task) (ts : List Task) → old_to_end j s ≡ t ∷ ts → let u = with_tasks (ended (t ∷ ts) s.tasks) s in (may_grow_lem j u ≡ true → P (more j u)) × P u) →
    (ltb j.count (new_count j s) ≡ true → (t : Task) (ts : List Task) → old_to_end j s ≡ [] → new_to_end j s ≡ t ∷ ts → P (with_tasks (ended (t ∷ ts) s.tasks) s)) →
    (may_grow_lem j s ≡ true → old_to_end j s ≡ [] → ltb j.count (new_count j s) ≡ false → P (more j s)) →
    (Idle j s → P s) → P (for_job j s)
unfolding ended none
step_cases P j s a b c d = pick (old_to_end j s) refl (ltb j.count (new_count j s)) refl
  where
    grew : List Task → State
    grew xs = let u = with_tasks (ended xs s.tasks) s in cond (may_grow_lem j u) (more j u) u

    news : (xs : List Task) → new_to_end j s ≡ xs → old_to_end j s ≡ [] → ltb j.count (new_count j s) ≡ true → P (with_tasks (ended xs s.tasks) s)
    news [] p q r = d (q, inl (r, p))
    news (t ∷ ts) p q r = b r t ts q p

    pick : (xs : List Task) → old_to_end j s ≡ xs → (e : Bool) → ltb j.count (new_count j s) ≡ e → P (cond (not (none xs)) (grew xs) (cond e (with_tasks (ended (new_to_end j s) s.tasks) s) (grew [])))
    pick (t ∷ ts) p e q = let u = with_tasks (ended (t ∷ ts) s.tasks) s in cond_both (may_grow_lem j u) (more j u) u P (λ g. (a t ts p).0 g) (λ g. (a t ts p).1)
    pick [] p true q = news (new_to_end j s) refl p q
    pick [] p false q = cond_both (may_grow_lem j s) (more j s) s P (λ g. c g p q) (λ g. d (p, inr (q, g)))

never : {C : Type 0} → ◌≡◌ {A = ℕ} 0 1 → C
never z = absurd (omega arith)

pub idle_same : (j : Job) (s : State) → Idle j s → for_job j s ≡ s
idle_same j s (p, o) =
    step_cases (λ (u : State). u ≡ s) j s (λ t ts q. never (cc)) (λ r t ts q n. two r t ts n o) (λ g q r. one g r o) (λ i. refl)
  where
    two : {C : Type 0} → ltb j.count (new_count j s) ≡ true → (t : Task) (ts : List Task) → new_to_end j s ≡ t ∷ ts → ((ltb j.count (new_count j s) ≡ true) × (new_to_end j s ≡ [])) ⊎ ((ltb j.count (new_count j s) ≡ false) × (may_grow_lem j s ≡ false)) → C
    two r t ts n (inl h) = let a = h.1 in never (cc)
    two r t ts n (inr h) = clash (ltb j.count (new_count j s)) r h.0

    one : {C : Type 0} → may_grow_lem j s ≡ true → ltb j.count (new_count j s) ≡ false → ((ltb j.count (new_count j s) ≡ true) × (new_to_end j s ≡ [])) ⊎ ((ltb j.count (new_count j s) ≡ false) × (may_grow_lem j s ≡ false)) → C
    one g r (inl h) = clash (ltb j.count (new_count j s)) h.0 r
    one g r (inr h) = clash (may_grow_lem j s) g h.1

pub idles_same : (js : List Job) (s : State) → ((j : Job) → In j js → Idle j s) → for_jobs js s ≡ s
unfolding for_jobs
idles_same [] s h = refl
idles_same (j ∷ js) s h = ap (for_jobs js) (idle_same j s (h j (inl refl))) ∙ idles_same js s (λ k i. h k (inr i))

-- what is to end is one of those
pub to_end_in : (s : State) (j : Job) (all xs : List Task) (x : Task) → In x (to_end_lem s j all xs) → In x xs
to_end_in s j all xs x i = first (head_in _ _ x i)
  where
    f : Task → Bool
    f t = not (is_ready_lem t.phase) && sure s t

    second : (b : Bool) → In x (cond b (last_of (ready_ones xs)) []) → In x xs
    second true k = (in_keep (λ (t : Task). is_ready_lem t.phase) xs x (last_in (ready_ones xs) x k)).0
    second false k = absurd k

    first : In x (last_of (keep f xs)) ⊎ In x (cond (ltb j.least (length (ready_ones all))) (last_of (ready_ones xs)) []) → In x xs
    first (inl k) = (in_keep f xs x (last_in (keep f xs) x k)).0
    first (inr k) = second (ltb j.least (length (ready_ones all))) k

-- if none is to end, none surely isn't ready, and if more are ready than are to stay none is ready
pub last_none : {A : Type 0} (xs : List A) → last_of xs ≡ [] → xs ≡ []
unfolding last_of
last_none [] e = refl
last_none (x ∷ []) e = never (cc)
last_none (x ∷ y ∷ ys) e = let h : y ∷ ys ≡ [] = last_none (y ∷ ys) e in never (cc)

pub head_none : {A : Type 0} (xs ys : List A) → head_or xs ys ≡ [] → (xs ≡ []) × (ys ≡ [])
unfolding head_or
head_none [] ys e = (refl, e)
head_none (x ∷ xs) ys e = never (cc)

pub to_end_none : (s : State) (j : Job) (all xs : List Task) → to_end_lem s j all xs ≡ [] → (keep (λ (t : Task). not (is_ready_lem t.phase) && sure s t) xs ≡ []) × (j.least < length (ready_ones all) → ready_ones xs ≡ [])
to_end_none s j all xs e = (last_none _ h.0, λ l. last_none _ (pick (ltb j.least (length (ready_ones all))) (lt-ltb _ _ l) h.1))
  where
    h : (last_of (keep (λ (t : Task). not (is_ready_lem t.phase) && sure s t) xs) ≡ []) × (cond (ltb j.least (length (ready_ones all))) (last_of (ready_ones xs)) [] ≡ [])
    h = head_none _ _ e

    pick : (b : Bool) → b ≡ true → cond b (last_of (ready_ones xs)) [] ≡ [] → last_of (ready_ones xs) ≡ []
    pick true p q = q
    pick false p q = absurd (false≢true p)

pub none_ends : (s : State) (j : Job) (all : List Task) → to_end_lem s j all [] ≡ []
unfolding keep last_of head_or
none_ends s j all = pick (ltb j.least (length (ready_ones all)))
  where
    pick : (b : Bool) → cond b (last_of (ready_ones [])) [] ≡ []
    pick true = refl
    pick false = refl

-- KEEP ALL, KEEP NONE

pub keep_all : {A : Type 0} (f : A → Bool) (xs : List A) → ((x : A) → In x xs → f x ≡ true) → keep f xs ≡ xs
unfolding keep
keep_all f [] h = refl
keep_all f (x ∷ xs) h = keep_yes f x xs (h x (inl refl)) ∙ ap (λ ys. x ∷ ys) (keep_all f xs (λ y i. h y (inr i)))

pub keep_none : {A : Type 0} (f : A → Bool) (xs : List A) → ((x : A) → In x xs → f x ≡ false) → keep f xs ≡ []
unfolding keep
keep_none f [] h = refl
keep_none f (x ∷ xs) h = keep_no f x xs (h x (inl refl)) ∙ keep_none f xs (λ y i. h y (inr i))

-- what is left of nothing was never there
pub kept_none : {A : Type 0} (f : A → Bool) (xs : List A) → keep f xs ≡ [] → (x : A) → In x xs → f x ≡ false
kept_none f xs e x i = elim (bool (f x)) [ inl p ↦ absurd (subst (λ ys. In x ys) e (keep_in f xs x i p)) | inr p ↦ p ]
