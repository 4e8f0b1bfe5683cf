-- And so no machine runs too much, no task runs twice, and what runs is on a machine that the herd has.
-- Assumes nothing.
use Rattle.std.proofs.Common.{◌≡◌, ℕ, ◌≤◌, true, false, not, T, eqb, List, [], ◌∷◌, ◌++◌, sym, refl, ap, ◌∙◌, subst, inl, inr}
use Rattle.std.proofs.lemmas.Bool.{false≢true, or_cases, eqb-true, eq-eqb, eqb-false, ne_eqb}
use Rattle.model.specs.State.{Task, on_machine}
use Rattle.model.specs.Settle.{here}
use Rattle.model.specs.Calls.{Seen}
use Rattle.model.specs.World.{World}
use Rattle.model.specs.Promise.{ran, seen_in, NeverTooMuch, NeverTooMuchInAnyLife, Anchored, NeverTwice}
use Rattle.model.proofs.Lists.{to_true, from_true, clash, bool, In, in_from, in_to, some_from, keep_in, Once}
use Rattle.model.proofs.Tasks.{rising_one}
use Rattle.model.proofs.Room.{cpu_weigh, mem_weigh}
use Rattle.model.proofs.Hold.{OnIt}
use Rattle.model.proofs.Keeps.{on_machine_lem}
use Rattle.model.proofs.Worlds.Agreement.{Inv}
use Rattle.model.proofs.Worlds.Hearing.{mi}
use Rattle.model.proofs.Worlds.Moves.{inv_reach}

-- what runs on a machine is a task that the herd has there
pub runs_on : (w : World) → Inv w → (i : ℕ) (x : Seen) → In x (ran w i) → OnIt w.herd.tasks i x.id
runs_on w h i x j = let g = h.agents i in let o = g.runs x j in let t = (g.ordered o.0 o.1).1 in (t.0, t.1, t.2 ∙ o.2, t.3)

pub never_too_much_in_any_life_lem : NeverTooMuchInAnyLife
never_too_much_in_any_life_lem w r i m mi e = (
  λ x xi. let t = runs_on w h i x (in_from xi) in from_true _ (some_from (λ (y : Task). eqb y.id x.id) (here m w.herd.tasks) t.0 (keep_in (on_machine m.num) w.herd.tasks t.0 t.1 (subst (λ (k : ℕ). on_machine k t.0 ≡ true) (sym e) t.3)) (eq-eqb t.0.id x.id t.2)),
  subst (λ (k : ℕ). k ≤ m.cpu) (sym (cpu_weigh (here m w.herd.tasks))) (h.sound.room m (in_from mi)).0,
  subst (λ (k : ℕ). k ≤ m.mem) (sym (mem_weigh (here m w.herd.tasks))) (h.sound.room m (in_from mi)).1,
)
  where
    h : Inv w
    h = inv_reach r

pub never_too_much_lem : NeverTooMuch
never_too_much_lem w r i m mi e l = never_too_much_in_any_life_lem w r i m mi e

pub anchored : Anchored
anchored w r i x xi = let g = (inv_reach r).agents i in let o = g.runs x (in_from xi) in let v = (g.ordered o.0 o.1).0 in (v.0, in_to v.0 w.herd.machines v.1.0, v.1.1, v.1.2)

-- what runs by one number runs on one machine
pub one_place : (w : World) → Inv w → (i j : ℕ) (x y : Seen) → In x (ran w i) → In y (ran w j) → x.id ≡ y.id → i ≡ j
one_place w h i j x y xi yi e =
    let p = runs_on w h i x xi in let q = runs_on w h j y yi in
    let z : p.0 ≡ q.0 = rising_one 0 w.herd.tasks h.sound.fine.tidy.0 p.0 q.0 p.1 q.1 (p.2 ∙ (e ∙ sym q.2)) in
    (on_machine_lem i p.0 p.3).1 ∙ (ap (λ (t : Task). t.machine) z ∙ sym (on_machine_lem j q.0 q.3).1)

seen_at : (k : ℕ) (xs : List Seen) → seen_in k xs ≡ true → (x : Seen) × In x xs × (k ≡ x.id)
unfolding seen_in
seen_at k [] e = absurd (false≢true e)
seen_at k (x ∷ xs) e = elim (or_cases (eqb k x.id) (seen_in k xs) e) [ inl p ↦ (x, inl refl, eqb-true k x.id p) | inr p ↦ let r = seen_at k xs p in (r.0, inr r.1, r.2) ]

unseen : (k : ℕ) (xs : List Seen) → ((x : Seen) → In x xs → eqb k x.id ≡ false) → T (not (seen_in k xs))
unseen k xs h = elim (bool (seen_in k xs)) [ inl p ↦ let r = seen_at k xs p in clash (eqb k r.0.id) (eq-eqb k r.0.id r.2) (h r.0 r.1) | inr p ↦ from_true _ (ap not p) ]

once_mid : (before behind : List Seen) (x : Seen) → Once (λ (a b : Seen). eqb a.id b.id) (before ++ x ∷ behind) → ((y : Seen) → In y before → eqb x.id y.id ≡ false) × ((y : Seen) → In y behind → eqb x.id y.id ≡ false)
once_mid [] behind x o = (λ y j. absurd j, o.0)
once_mid (b ∷ bs) behind x o = let r = once_mid bs behind x o.1 in (front r.0, r.1)
  where
    mid : (cs : List Seen) → In x (cs ++ x ∷ behind)
    mid [] = inl refl
    mid (c ∷ cs) = inr (mid cs)

    front : ((y : Seen) → In y bs → eqb x.id y.id ≡ false) → (y : Seen) → In y (b ∷ bs) → eqb x.id y.id ≡ false
    front f y (inl e) = ne_eqb x.id y.id (λ q. eqb-false b.id x.id (o.0 x (mid bs)) (sym (q ∙ ap (λ (z : Seen). z.id) e)))
    front f y (inr j) = f y j

pub never_twice_lem : NeverTwice
never_twice_lem w r i j k s = (λ t. apart (to_true _ t), λ before behind b e. let q = once_mid before behind (record { id = k; ready = b }) (subst (λ (zs : List Seen). Once (λ (x y : Seen). eqb x.id y.id) zs) e (h.agents i).once) in (unseen k before q.0, unseen k behind q.1))
  where
    h : Inv w
    h = inv_reach r

    apart : seen_in k (ran w j) ≡ true → i ≡ j
    apart t = let x = seen_at k (ran w i) (to_true _ s) in let y = seen_at k (ran w j) t in one_place w h i j x.0 y.0 x.1 y.1 (sym x.2 ∙ y.2)
