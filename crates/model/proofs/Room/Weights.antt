-- What tasks need together: sums over tasks, through passes, and over what runs.
-- Assumes nothing.
use Rattle.std.proofs.Common.{◌≡◌, ℕ, ◌+◌, ◌≤◌, Bool, true, false, cond, not, eqb, List, [], ◌∷◌, sym, refl, ap, ◌∙◌, inl, inr, arith}
use Rattle.std.proofs.lemmas.Bool.{and_left, eqb-false, not_from_false, not_from_true, eq-eqb, ne_eqb, cond_both}
use Rattle.model.specs.State.{Task, is_waiting, on_machine, cpu_of, mem_of}
use Rattle.model.specs.Lists.{keep}
use Rattle.model.specs.Calls.{Seen}
use Rattle.model.proofs.Lists.{clash, In, keep_no, keep_in, Pass, done, gone, goes, Once}
use Rattle.model.proofs.Tasks.{Put, Never}

-- a sum over tasks
unfoldable pub weigh : (Task → ℕ) → List Task → ℕ
weigh f [] = 0
weigh f (t ∷ ts) = f t + weigh f ts

pub cpu_weigh : (ts : List Task) → cpu_of ts ≡ weigh (λ (t : Task). t.spec.cpu) ts
unfolding cpu_of weigh
cpu_weigh [] = refl
cpu_weigh (t ∷ ts) = ap (λ n. t.spec.cpu + n) (cpu_weigh ts)

pub mem_weigh : (ts : List Task) → mem_of ts ≡ weigh (λ (t : Task). t.spec.mem) ts
unfolding mem_of weigh
mem_weigh [] = refl
mem_weigh (t ∷ ts) = ap (λ n. t.spec.mem + n) (mem_weigh ts)

-- a sum over those that are kept, one by one
pub weigh_cons : (f : Task → ℕ) (p : Task → Bool) (t : Task) (ts : List Task) → weigh f (keep p (t ∷ ts)) ≡ cond (p t) (f t) 0 + weigh f (keep p ts)
unfolding weigh keep
weigh_cons f p t ts = pick (p t)
  where
    pick : (b : Bool) → weigh f (cond b (t ∷ keep p ts) (keep p ts)) ≡ cond b (f t) 0 + weigh f (keep p ts)
    pick true = refl
    pick false = omega arith

pub waits_nowhere : (k : ℕ) (t : Task) → is_waiting t.phase ≡ true → on_machine k t ≡ false
waits_nowhere k t e = and_left (not (is_waiting t.phase)) (eqb k t.machine) (ap not e)

-- placing takes nothing off a machine
pub weigh_up : (f : Task → ℕ) (k : ℕ) {xs ys : List Task} → Pass Never Put xs ys → weigh f (keep (on_machine k) xs) ≤ weigh f (keep (on_machine k) ys)
weigh_up f k done = omega arith
weigh_up f k (gone d p) = absurd d
weigh_up f k (goes {x = x} {y = y} {xs = xs} {ys = ys} (inl e) p) =
    let h : cond (on_machine k y) (f y) 0 ≡ cond (on_machine k x) (f x) 0 = ap (λ (t : Task). cond (on_machine k t) (f t) 0) e in
    let i : weigh f (keep (on_machine k) xs) ≤ weigh f (keep (on_machine k) ys) = weigh_up f k p in
    rw (weigh_cons f (on_machine k) x xs, weigh_cons f (on_machine k) y ys, h) (omega arith)
weigh_up f k (goes {x = x} {y = y} {xs = xs} {ys = ys} (inr h) p) =
    let i : weigh f (keep (on_machine k) xs) ≤ weigh f (keep (on_machine k) ys) = weigh_up f k p in
    rw (keep_no (on_machine k) x xs (waits_nowhere k x h.0), weigh_cons f (on_machine k) y ys) (omega arith)

pub put_stays : {xs ys : List Task} → Pass Never Put xs ys → (x : Task) → is_waiting x.phase ≡ false → In x xs → In x ys
put_stays done x w i = i
put_stays (gone d p) x w i = absurd d
put_stays (goes (inl e) p) x w (inl q) = inl (q ∙ sym e)
put_stays (goes (inr h) p) x w (inl q) = clash (is_waiting x.phase) (ap (λ (t : Task). is_waiting t.phase) q ∙ h.0) w
put_stays (goes h p) x w (inr i) = inr (put_stays p x w i)

pub weigh_less : (f : Task → ℕ) (p : Task → Bool) (ts : List Task) → weigh f (keep p ts) ≤ weigh f ts
unfolding weigh keep
weigh_less f p [] = omega arith
weigh_less f p (t ∷ ts) = let h = weigh_less f p ts in cond_both (p t) (t ∷ keep p ts) (keep p ts) (λ (us : List Task). weigh f us ≤ f t + weigh f ts) (λ _. omega arith) (λ _. omega arith)

abbrev pub Other : Task → Task → Bool
Other t u = not (eqb t.id u.id)

-- a sum is at least one of its tasks and the sum of the others
pub weigh_without : (f : Task → ℕ) (t : Task) (ts : List Task) → In t ts → f t + weigh f (keep (Other t) ts) ≤ weigh f ts
unfolding weigh
weigh_without f t [] i = absurd i
weigh_without f t (u ∷ us) (inl e) =
    let h = weigh_less f (Other t) us in let q = keep_no (Other t) u us (not_from_true _ (eq-eqb t.id u.id (ap (λ (x : Task). x.id) e))) in
    let a : f t ≡ f u = ap f e in let b : weigh f (keep (Other t) (u ∷ us)) ≡ weigh f (keep (Other t) us) = ap (weigh f) q in omega arith
weigh_without f t (u ∷ us) (inr i) =
    let h = weigh_without f t us i in let q = weigh_cons f (Other t) u us in
    let a : cond (Other t u) (f u) 0 ≤ f u = cond_both (Other t u) (f u) 0 (λ (n : ℕ). n ≤ f u) (λ _. omega arith) (λ _. omega arith) in omega arith

-- a sum over what runs
unfoldable pub weigh_seen : (Seen → ℕ) → List Seen → ℕ
weigh_seen g [] = 0
weigh_seen g (x ∷ xs) = g x + weigh_seen g xs

-- different ones that run, each a task of a list with its own number, weigh no more than the list
pub seen_within : (g : Seen → ℕ) (f : Task → ℕ) (xs : List Seen) (ts : List Task) → Once (λ (x y : Seen). eqb x.id y.id) xs → ((x : Seen) → In x xs → (t : Task) × In t ts × (t.id ≡ x.id) × (g x ≤ f t)) → weigh_seen g xs ≤ weigh f ts
unfolding weigh_seen
seen_within g f [] ts o h = omega arith
seen_within g f (x ∷ xs) ts o h =
    let w = h x (inl refl) in
    let a = weigh_without f w.0 ts w.1 in
    let b = seen_within g f xs (keep (Other w.0) ts) o.1 (λ y j. let v = h y (inr j) in (v.0, keep_in (Other w.0) ts v.0 v.1 (not_from_false _ (ne_eqb w.0.id v.0.id (λ e. eqb-false x.id y.id (o.0 y j) (sym w.2 ∙ (e ∙ v.2))))), v.2, v.3)) in
    let d : g x ≤ f w.0 = w.3 in
    omega arith
