-- Where the tasks that a pass leaves come from; what is ordered of them; and what a report of an agent whose tasks are all ready does.
-- Assumes nothing.
use Rattle.std.proofs.Common.{◌≡◌, ℕ, Bool, true, false, cond, not, ◌||◌, eqb, ◌⊎◌, List, [], ◌∷◌, ◌++◌, sym, refl, ap, ◌∙◌, subst, inl, inr, arith}
use Rattle.std.proofs.lemmas.Bool.{false≢true, or_left, or_right, eqb-true, eq-eqb}
use Rattle.model.specs.State.{Job, Waiting, Told, Ready, Task, State, is_ready_lem, is_ending, on_machine, phased, with_tasks}
use Rattle.model.specs.Lists.{some, find}
use Rattle.model.specs.Settle.{ended, fresh, for_job, orphans_end, settle, more, unplaced}
use Rattle.model.specs.Calls.{Seen, Order, seen_as, heard_of_lem, heard_all, orders}
use Rattle.model.specs.World.{is_order, is_seen, is_ready_in, may_run}
use Rattle.rest.specs.Rest.{is_alive}
use Rattle.model.proofs.Lists.{clash, bool, In, in_end, Pass, done, gone, goes, pass_from}
use Rattle.model.proofs.Tasks.{jobless, Ends, orphans_pass, ended_pass, MayEnd, step_is, steps_are, Put, Never}
use Rattle.model.proofs.Settles.{Tidy, tidy_pass, tidy_step, orphan_id, EndsOne, settle_pass}
use Rattle.rest.proofs.Falls.{waiting_alive}

-- ORIGINS

-- as it was, but for being placed or ended
abbrev pub Kept : Task → Task → Type 0
Kept x t = (t.job ≡ x.job) × (t.version ≡ x.version) × (t.spec ≡ x.spec) × (is_alive t ≡ true → is_alive x ≡ true) × (is_ready_lem t.phase ≡ true → t ≡ x)

abbrev pub Origin : State → Task → Type 0
Origin s t = ((x : Task) × In x s.tasks × Kept x t) ⊎ ((j : Job) × In j s.jobs × (t.job ≡ j.name) × (t.version ≡ j.version) × (t.spec ≡ j.spec) × (is_ready_lem t.phase ≡ false))

kept_eq : (x y : Task) → y ≡ x → Kept x y
kept_eq x y e = (ap (λ (t : Task). t.job) e, ap (λ (t : Task). t.version) e, ap (λ (t : Task). t.spec) e, λ q. sym (ap is_alive e) ∙ q, λ q. e)

kept_ends : (x y : Task) → Ends x y → Kept x y
kept_ends x y h = let e = h.1 in (ap (λ (t : Task). t.job) e, ap (λ (t : Task). t.version) e, ap (λ (t : Task). t.spec) e, λ q. absurd (false≢true (sym (ap is_alive e) ∙ q)), λ q. absurd (false≢true (sym (ap (λ (t : Task). is_ready_lem t.phase) e) ∙ q)))

kept_put : (x y : Task) → Put x y → Kept x y
kept_put x y (inl e) = kept_eq x y e
kept_put x y (inr h) = let e = h.3 in (ap (λ (t : Task). t.job) e, ap (λ (t : Task). t.version) e, ap (λ (t : Task). t.spec) e, λ q. ap not (waiting_alive x.phase h.0), λ q. absurd (false≢true (sym (ap (λ (t : Task). is_ready_lem t.phase) e) ∙ q)))

kept_kept : (x y z : Task) → Kept x y → Kept y z → Kept x z
kept_kept x y z p q = (q.0 ∙ p.0, q.1 ∙ p.1, q.2 ∙ p.2, λ a. p.3 (q.3 a), λ a. q.4 a ∙ p.4 (sym (ap (λ (t : Task). is_ready_lem t.phase) (q.4 a)) ∙ a))

-- one that went on from one with an origin has it
origin_kept : (s : State) (y z : Task) → Kept y z → Origin s y → Origin s z
origin_kept s y z k (inl (x, i, p)) = inl (x, i, kept_kept x y z p k)
origin_kept s y z k (inr (j, i, a, b, c, d)) = inr (j, i, k.0 ∙ a, k.1 ∙ b, k.2 ∙ c, elim (bool (is_ready_lem z.phase)) [ inl r ↦ clash (is_ready_lem y.phase) (sym (ap (λ (t : Task). is_ready_lem t.phase) (k.4 r)) ∙ r) d | inr r ↦ r ])

origin_pass : (s : State) (D : Task → Type 0) (R : Task → Task → Type 0) → ((x y : Task) → R x y → Kept x y) → {xs ys : List Task} → Pass D R xs ys → ((x : Task) → In x xs → Origin s x) → (y : Task) → In y ys → Origin s y
origin_pass s D R h p f y i = let w = pass_from D R p y i in subst (Origin s) (sym w.4) (origin_kept s w.0 w.2 (h w.0 w.2 w.3) (f w.0 w.1))

waits_unready : is_ready_lem Waiting ≡ false
waits_unready = refl

pub origins : (s : State) → Tidy s → (t : Task) → In t (settle s).tasks → Origin s t
unfolding ended
origins s h = origin_pass s Never Put kept_put (settle_pass s h) all.1
  where
    P : State → Type 0
    P u = Tidy u × ((t : Task) → In t u.tasks → Origin s t)

    first : State
    first = with_tasks (orphans_end s.jobs s.tasks) s

    orphan : (x y : Task) → (y ≡ x) ⊎ ((jobless s.jobs x ≡ true) × Ends x y) → Kept x y
    orphan x y (inl e) = kept_eq x y e
    orphan x y (inr e) = kept_ends x y e.1

    ends : (t x y : Task) → EndsOne t x y → Kept x y
    ends t x y (inl e) = kept_eq x y e
    ends t x y (inr e) = kept_ends x y e.1

    ending : (j : Job) (u : State) → P u → (xs : List Task) → MayEnd u j xs → (t : Task) → In t (ended xs u.tasks) → Origin s t
    ending j u p [] m = p.1
    ending j u p (x ∷ xs) m = origin_pass s _ _ (ends x) (ended_pass 0 u.tasks p.0.0 x m.0 xs) p.1

    coming : (j : Job) → In j s.jobs → (u : State) → ((t : Task) → In t u.tasks → Origin s t) → (t : Task) → In t (more j u).tasks → Origin s t
    coming j ji u f t i = pick (in_end t (fresh j u.next_id) u.tasks i)
      where
        pick : In t u.tasks ⊎ (t ≡ fresh j u.next_id) → Origin s t
        pick (inl k) = f t k
        pick (inr e) = inr (j, ji, ap (λ (z : Task). z.job) e, ap (λ (z : Task). z.version) e, ap (λ (z : Task). z.spec) e, ap (λ (z : Task). is_ready_lem z.phase) e ∙ waits_unready)

    step : (j : Job) → In j s.jobs → (u : State) → P u → P (for_job j u)
    step j ji u p = (tidy_step j u p.0, step_is (λ (v : State). (t : Task) → In t v.tasks → Origin s t) j u (ending j u p) (λ xs m g. coming j ji (with_tasks (ended xs u.tasks) u) (ending j u p xs m)))

    all : P (unplaced s)
    all = steps_are P s.jobs first step (tidy_pass _ _ (orphan_id s.jobs) s (orphans_pass s.jobs s.tasks) h, origin_pass s _ _ orphan (orphans_pass s.jobs s.tasks) (λ x i. inl (x, i, kept_eq x x refl)))

-- what is ready after a pass was there
pub ready_from : (s : State) → Tidy s → (t : Task) → In t (settle s).tasks → is_ready_lem t.phase ≡ true → In t s.tasks
ready_from s h t i r = pick (origins s h t i)
  where
    pick : Origin s t → In t s.tasks
    pick (inl (x, k, p)) = subst (λ (z : Task). In z s.tasks) (sym (p.4 r)) k
    pick (inr (j, k, a, b, c, d)) = clash (is_ready_lem t.phase) r d

-- WHAT IS ORDERED

pub orders_has : (ts : List Task) (t : Task) → In t ts → is_ending t.phase ≡ false → some (is_order t.id) (orders ts) ≡ true
unfolding orders some
orders_has [] t i e = absurd i
orders_has (x ∷ xs) t i e = pick (is_ending x.phase) refl i (λ k. orders_has xs t k e)
  where
    pick : (b : Bool) → is_ending x.phase ≡ b → (t ≡ x) ⊎ In t xs → (In t xs → some (is_order t.id) (orders xs) ≡ true) → some (is_order t.id) (cond b (orders xs) (record { id = x.id; spec = x.spec } ∷ orders xs)) ≡ true
    pick true p (inl k) r = clash (is_ending t.phase) (ap (λ (z : Task). is_ending z.phase) k ∙ p) e
    pick true p (inr k) r = r k
    pick false p (inl k) r = or_left (eqb t.id x.id) _ (eq-eqb t.id x.id (ap (λ (z : Task). z.id) k))
    pick false p (inr k) r = or_right (eqb t.id x.id) _ (r k)

pub orders_at : (ts : List Task) (i : ℕ) → some (is_order i) (orders ts) ≡ true → (t : Task) × In t ts × (t.id ≡ i) × (is_ending t.phase ≡ false)
unfolding orders some
orders_at [] i e = absurd (false≢true e)
orders_at (x ∷ xs) i e = pick (is_ending x.phase) refl (eqb i x.id) refl e (λ k. orders_at xs i k)
  where
    Z : List Task → Type 0
    Z ys = (t : Task) × In t ys × (t.id ≡ i) × (is_ending t.phase ≡ false)

    pick : (b : Bool) → is_ending x.phase ≡ b → (c : Bool) → eqb i x.id ≡ c → some (is_order i) (cond b (orders xs) (record { id = x.id; spec = x.spec } ∷ orders xs)) ≡ true → (some (is_order i) (orders xs) ≡ true → Z xs) → Z (x ∷ xs)
    pick true p c q h r = let w = r h in (w.0, inr w.1, w.2, w.3)
    pick false p true q h r = (x, inl refl, sym (eqb-true i x.id q), p)
    pick false p false q h r = let w = r (sym (ap (λ (b : Bool). b || some (is_order i) (orders xs)) q) ∙ h) in (w.0, inr w.1, w.2, w.3)

-- A REPORT OF AN AGENT WHOSE TASKS ARE ALL READY

pub says_ordered : (rs : List Seen) (os : List Order) (i : ℕ) → some (is_seen i) (may_run rs os) ≡ some (is_order i) os
unfolding some may_run
says_ordered rs [] i = refl
says_ordered rs (o ∷ os) i = ap (λ (b : Bool). eqb i o.id || b) (says_ordered rs os i)

pub says_ready : (rs : List Seen) (os : List Order) → ((o : Order) → In o os → is_ready_in o.id rs ≡ true) → (x : Seen) → In x (may_run rs os) → x.ready ≡ true
unfolding may_run
says_ready rs [] h x i = absurd i
says_ready rs (o ∷ os) h x (inl e) = ap (λ (z : Seen). z.ready) e ∙ h o (inl refl)
says_ready rs (o ∷ os) h x (inr i) = says_ready rs os (λ p k. h p (inr k)) x i

seen_none : (i : ℕ) (xs : List Seen) → seen_as i xs ≡ [] → some (is_seen i) xs ≡ false
unfolding seen_as find some
seen_none i [] e = refl
seen_none i (x ∷ xs) e = pick (eqb i x.id) e (λ k. seen_none i xs k)
  where
    pick : (b : Bool) → cond b (x ∷ []) (find (λ (y : Seen). eqb i y.id) xs) ≡ [] → (find (λ (y : Seen). eqb i y.id) xs ≡ [] → some (is_seen i) xs ≡ false) → b || some (is_seen i) xs ≡ false
    pick true q r = let z : ◌≡◌ {A = ℕ} 0 1 = cc in absurd (omega arith)
    pick false q r = r q

seen_one : (i : ℕ) (xs : List Seen) (y : Seen) (ys : List Seen) → seen_as i xs ≡ y ∷ ys → (some (is_seen i) xs ≡ true) × In y xs
unfolding seen_as find some
seen_one i [] y ys e = let z : ◌≡◌ {A = ℕ} 0 1 = cc in absurd (omega arith)
seen_one i (x ∷ xs) y ys e = pick (eqb i x.id) e (λ k. seen_one i xs y ys k)
  where
    pick : (b : Bool) → cond b (x ∷ []) (find (λ (z : Seen). eqb i z.id) xs) ≡ y ∷ ys → (find (λ (z : Seen). eqb i z.id) xs ≡ y ∷ ys → (some (is_seen i) xs ≡ true) × In y xs) → (b || some (is_seen i) xs ≡ true) × In y (x ∷ xs)
    pick true q r = let c : y ≡ x = cc in (refl, inl c)
    pick false q r = let w = r q in (w.0, inr w.1)

abbrev pub Lost : ℕ → ℕ → List Seen → Task → Type 0
Lost k l xs x = (on_machine k x ≡ true) × ((eqb l x.life ≡ false) ⊎ ((is_ending x.phase ≡ true) × (some (is_seen x.id) xs ≡ false)))

abbrev pub Went : ℕ → List Seen → Task → Task → Type 0
Went k xs x y =
    ((on_machine k x ≡ false) × (y ≡ x)) ⊎ ((on_machine k x ≡ true) × (((is_ending x.phase ≡ true) × (some (is_seen x.id) xs ≡ true) × (y ≡ x)) ⊎ ((is_ending x.phase ≡ false) × (y ≡ phased (cond (some (is_seen x.id) xs) Ready Told) x))))

pub hear_pass : (k l : ℕ) (xs : List Seen) → ((x : Seen) → In x xs → x.ready ≡ true) → (ts : List Task) → Pass (Lost k l xs) (Went k xs) ts (heard_all k l xs ts)
unfolding heard_all heard_of_lem
hear_pass k l xs h [] = done
hear_pass k l xs h (t ∷ ts) = pick (on_machine k t) (eqb l t.life) refl refl (hear_pass k l xs h ts)
  where
    P : List Task → List Task → Type 0
    P = Pass (Lost k l xs) (Went k xs)

    S : Bool
    S = some (is_seen t.id) xs

    seen : (ss : List Seen) (b : Bool) → seen_as t.id xs ≡ ss → is_ending t.phase ≡ b → on_machine k t ≡ true → P ts (heard_all k l xs ts) → P (t ∷ ts) (heard_of_lem ss t ++ heard_all k l xs ts)
    seen [] true e f g r = rw f (gone (g, inr (f, seen_none t.id xs e)) r)
    seen [] false e f g r = rw f (goes (inr (g, inr (f, ap (λ (b : Bool). phased (cond b Ready Told) t) (sym (seen_none t.id xs e))))) r)
    seen (x ∷ ss) true e f g r = rw f (goes (inr (g, inl (f, (seen_one t.id xs x ss e).0, refl))) r)
    seen (x ∷ ss) false e f g r =
        let w = seen_one t.id xs x ss e in
        rw f (goes (inr (g, inr (f, ap (λ (b : Bool). phased (cond b Ready Told) t) (h x w.1) ∙ ap (λ (b : Bool). phased (cond b Ready Told) t) (sym w.0)))) r)

    pick : (a b : Bool) → on_machine k t ≡ a → eqb l t.life ≡ b → P ts (heard_all k l xs ts) → P (t ∷ ts) (cond a (cond b (heard_of_lem (seen_as t.id xs) t ++ heard_all k l xs ts) (heard_all k l xs ts)) (t ∷ heard_all k l xs ts))
    pick true true g e r = seen (seen_as t.id xs) (is_ending t.phase) refl refl g r
    pick true false g e r = gone (g, inl e) r
    pick false b g e r = goes (inl (g, refl)) r
