-- What placing does: tasks that wait are told to a machine, or go on waiting, and all others stay as they are.
-- Assumes nothing.
use Rattle.std.proofs.Common.{◌≡◌, ℕ, suc, ◌≤◌, Bool, true, false, ◌⊎◌, List, [], ◌∷◌, sym, refl, ap, ◌∙◌, inl, inr, arith}
use Rattle.std.proofs.lemmas.Bool.{eqb-true}
use Rattle.model.specs.State.{Machine, Told, Task, is_waiting, is_task, placed}
use Rattle.model.specs.Lists.{keep}
use Rattle.model.specs.Settle.{takes, best, place, place_all_lem}
use Rattle.model.proofs.Lists.{clash, In, in_keep, Pass, done, gone, goes, pass_same, pass_keep, pass_change, pass_then, pass_weaken}
use Rattle.model.proofs.Tasks.ByNumber.{Rising, rising_over, rising_one, rising_pass}

abbrev pub Places : Task → Task → Type 0
Places x y = (is_waiting x.phase ≡ true) × (k : ℕ) × (l : ℕ) × (y ≡ placed k l x)

abbrev pub Put : Task → Task → Type 0
Put x y = (y ≡ x) ⊎ Places x y

abbrev pub Never : Task → Type 0
Never x = ⊥

pub told_not_waiting : is_waiting Told ≡ false
told_not_waiting = refl

pub put_put : (x y z : Task) → Put x y → Put y z → Put x z
put_put x y z (inl e) (inl f) = inl (f ∙ e)
put_put x y z (inl e) (inr h) = inr (sym (ap (λ (t : Task). is_waiting t.phase) e) ∙ h.0, h.1, h.2, h.3 ∙ ap (placed h.1 h.2) e)
put_put x y z (inr h) (inl f) = inr (h.0, h.1, h.2, f ∙ h.3)
put_put x y z (inr h) (inr k) = clash (is_waiting y.phase) k.0 (ap (λ (t : Task). is_waiting t.phase) h.3 ∙ told_not_waiting)

pub put_id : (x y : Task) → Put x y → y.id ≡ x.id
put_id x y (inl e) = ap (λ (t : Task). t.id) e
put_id x y (inr h) = ap (λ (t : Task). t.id) h.3

-- a task that waits, in a list by rising numbers, is placed or not, and all others stay
pub place_pass : (n : ℕ) (ts : List Task) → Rising n ts → (t : Task) → In t ts → is_waiting t.phase ≡ true → (ms : List Machine) → Pass Never (λ x y. (y ≡ x) ⊎ ((x ≡ t) × Places x y)) ts (place t ms ts)
unfolding place
place_pass n ts r t i w [] = pass_same _ _ ts (λ x k. inl refl)
place_pass n ts r t i w (m ∷ ms) = pass_change _ _ (is_task t.id) (placed m.num m.life) ts (λ x k. inl refl) (λ x k f. let p = it x k f in inr (p, (ap (λ (y : Task). is_waiting y.phase) p ∙ w, m.num, m.life, refl)))
  where
    it : (x : Task) → In x ts → is_task t.id x ≡ true → x ≡ t
    it x k e = rising_one n ts r x t k i (sym (eqb-true t.id x.id e))

-- what isn't t is still there
pub stays_in : (t : Task) (S : Task → Task → Type 0) {xs ys : List Task} → Pass Never (λ x y. (y ≡ x) ⊎ ((x ≡ t) × S x y)) xs ys → (u : Task) → (u ≡ t → ⊥) → In u xs → In u ys
stays_in t S done u n i = i
stays_in t S (gone h p) u n i = absurd h
stays_in t S (goes (inl e) p) u n (inl q) = inl (q ∙ sym e)
stays_in t S (goes (inr h) p) u n (inl q) = absurd (n (q ∙ h.0))
stays_in t S (goes h p) u n (inr i) = inr (stays_in t S p u n i)

-- tasks that wait, each there, by rising numbers
pub record Queue (n : ℕ) (ws ts : List Task) : Type 0 where
  pub rises : Rising n ws
  pub there : (t : Task) → In t ws → In t ts × (is_waiting t.phase ≡ true)
  pub low : Rising 0 ts

-- when the first in line is placed, the others are still in line
pub queue_next : (n : ℕ) (t : Task) (ws ts : List Task) → Queue n (t ∷ ws) ts → (ms : List Machine) → Queue (suc t.id) ws (place t ms ts)
queue_next n t ws ts q ms = record { rises = q.rises.1; there = λ u i. (stays_in t Places pass u (other u i) (q.there u (inr i)).0, (q.there u (inr i)).1); low = rising_pass _ _ ids 0 pass q.low }
  where
    pass : Pass Never (λ x y. (y ≡ x) ⊎ ((x ≡ t) × Places x y)) ts (place t ms ts)
    pass = place_pass 0 ts q.low t (q.there t (inl refl)).0 (q.there t (inl refl)).1 ms

    other : (u : Task) → In u ws → u ≡ t → ⊥
    other u i e = let a : suc t.id ≤ u.id = rising_over (suc t.id) ws q.rises.1 u i in let b : u.id ≡ t.id = ap (λ (x : Task). x.id) e in omega arith

    ids : (x y : Task) → (y ≡ x) ⊎ ((x ≡ t) × Places x y) → y.id ≡ x.id
    ids x y (inl e) = ap (λ (z : Task). z.id) e
    ids x y (inr h) = ap (λ (z : Task). z.id) h.1.3

-- placing tells some that wait to machines, and leaves all others
pub places_pass : (now n : ℕ) (ms : List Machine) (ws ts : List Task) → Queue n ws ts → Pass Never Put ts (place_all_lem now ms ws ts)
unfolding place_all_lem
places_pass now n ms [] ts q = pass_same Never Put ts (λ x i. inl refl)
places_pass now n ms (t ∷ ws) ts q =
    let bs = best (keep (takes now t ts) ms) ts in
    pass_then Never Put put_put (λ x y h d. d) (pass_weaken (λ x d. d) drop_it (place_pass 0 ts q.low t (q.there t (inl refl)).0 (q.there t (inl refl)).1 bs))
    (places_pass now (suc t.id) ms ws (place t bs ts) (queue_next n t ws ts q bs))
  where
    drop_it : (x y : Task) → (y ≡ x) ⊎ ((x ≡ t) × Places x y) → Put x y
    drop_it x y (inl e) = inl e
    drop_it x y (inr h) = inr h.1

-- those that wait, in a list by rising numbers
pub queue_of : (ts : List Task) → Rising 0 ts → Queue 0 (keep (λ (t : Task). is_waiting t.phase) ts) ts
queue_of ts r =
    let f : Task → Bool = λ t. is_waiting t.phase in
    record { rises = rising_pass (λ x. Unit {0}) (λ x y. y ≡ x) (λ x y e. ap (λ (z : Task). z.id) e) 0 (pass_keep _ _ f ts (λ x i e. tt) (λ x i e. refl)) r; there = λ t i. in_keep f ts t i; low = r }
