-- At rest, after one more round, what an agent has ordered and runs is exactly what the herd has on its machine.
-- Assumes nothing.
use Rattle.std.proofs.Common.{◌≡◌, ℕ, Bool, true, false, not, ◌&&◌, T, eqb, ◌⊎◌, List, [], ◌∷◌, ◌++◌, sym, refl, ap, ◌∙◌, subst, inl, inr}
use mathlib.Core.List.{Memᴰ}
use Rattle.std.proofs.lemmas.Bool.{or_left, or_right, and_parts, not-true, eqb-true, eqb-false, eq-eqb}
use Rattle.model.specs.Lists.{some, keep}
use Rattle.model.specs.State.{Machine, Task, State, on_machine}
use Rattle.model.specs.Calls.{Seen, Order, orders}
use Rattle.model.specs.World.{World, is_order, is_ready_in, may_run, Reach}
use Rattle.model.specs.Promise.{seen_in}
use Rattle.rest.specs.Rest.{said_by}
use Rattle.rest.specs.Listed.{AsListed, RunsAsListed}
use Rattle.model.proofs.Lists.{to_true, from_true, clash, In, in_from, in_to, in_keep, keep_in, some_from, some_at}
use Rattle.model.proofs.Worlds.{inv_reach, never_twice_lem}
use Rattle.model.proofs.Ordered.{runs_within_lem}
use Rattle.rest.proofs.Stuck.{Resting}
use Rattle.rest.proofs.Falls.{ready_alive}
use Rattle.rest.proofs.Origins.{orders_has, orders_at}
use Rattle.rest.proofs.Scenes.{Scene, Move, visit, tick, stays, Moves, stop, go}
use Rattle.rest.proofs.Comes.{Going, going_move}
use Rattle.rest.proofs.Quiets.{in_app, back_run, going_run}
use Rattle.rest.proofs.Rests.{rest_from, rest_move, rest_run}
use Rattle.rest.proofs.Begins.{first_round}
use Rattle.rest.proofs.Orderlies.{steady_reach}
use Rattle.rest.proofs.Lines.{answer_all, scene, runs, run_reach}

-- WHAT IS ORDERED

abbrev pub Listed : Scene → ℕ → Type 0
Listed w i = w.ordered i ≡ orders (keep (on_machine i) w.herd.tasks)

listed_as : (i : ℕ) (os : List Order) {xs ys : List Task} → ys ≡ xs → os ≡ orders (keep (on_machine i) xs) → os ≡ orders (keep (on_machine i) ys)
listed_as i os e h = h ∙ ap (λ (ts : List Task). orders (keep (on_machine i) ts)) (sym e)

listed_move : {ks : List ℕ} {w v : Scene} → Going w → Resting w.herd → Move ks w v → (i : ℕ) → Listed w i ⊎ In i ks → Listed v i
listed_move {w = w} {v = v} g r (visit k vs snd) i o = pick (eqb i k) refl o
  where
    pick : (b : Bool) → eqb i k ≡ b → Listed w i ⊎ In i (k ∷ []) → Listed v i
    pick true e h = subst (Listed v) (sym (eqb-true i k e)) (vs.ordered ∙ ap (λ (s : State). orders (keep (on_machine k) s.tasks)) (sym vs.herd))
    pick false e (inr (inl h)) = absurd (eqb-false i k e h)
    pick false e (inr (inr h)) = absurd h
    pick false e (inl h) = listed_as i (v.ordered i) (rest_move g (visit k vs snd) r).0 (vs.others i e ∙ h)
listed_move g r (tick ts snd) i (inr h) = absurd h
listed_move {v = v} g r (tick ts snd) i (inl h) = listed_as i (v.ordered i) (rest_move g (tick ts snd) r).0 (ts.ordered i ∙ h)
listed_move g r (stays ss snd) i (inr h) = absurd h
listed_move {v = v} g r (stays ss snd) i (inl h) = listed_as i (v.ordered i) (rest_move g (stays ss snd) r).0 (ss.ordered i ∙ h)

pub listed_run : {P : State → Type 0} {ks : List ℕ} {w v : Scene} → Moves P ks w v → Going w → Resting w.herd → (i : ℕ) → Listed w i ⊎ In i ks → Listed v i
listed_run (stop w) g r i o = elim o [ inl h ↦ h | inr h ↦ absurd h ]
listed_run {v = v} (go {ks = ks} {ls = ls} {w = w} {u = u} c p rest) g r i o = pick (listed_run rest (going_move g c) (rest_move g c r).1 i) o
  where
    pick : (Listed u i ⊎ In i ls → Listed v i) → Listed w i ⊎ In i (ks ++ ls) → Listed v i
    pick on (inl h) = on (inl (listed_move g r c i (inl h)))
    pick on (inr h) = elim (in_app i ks ls h) [ inl j ↦ on (inl (listed_move g r c i (inr j))) | inr j ↦ on (inr j) ]

-- WHAT RUNS

ready_said : (rs : List Seen) (os : List Order) → ((x : Seen) → In x (may_run rs os) → x.ready ≡ true) → (o : Order) → In o os → is_ready_in o.id rs ≡ true
unfolding may_run
ready_said rs [] h o i = absurd i
ready_said rs (p ∷ os) h o (inl e) = ap (λ (z : Order). is_ready_in z.id rs) e ∙ h (record { id = p.id; ready = is_ready_in p.id rs }) (inl refl)
ready_said rs (p ∷ os) h o (inr i) = ready_said rs os (λ x k. h x (inr k)) o i

seen_at : (k : ℕ) (xs : List Seen) (x : Seen) → In x xs → x.id ≡ k → seen_in k xs ≡ true
unfolding seen_in
seen_at k [] x i e = absurd i
seen_at k (y ∷ ys) x (inl p) e = or_left (eqb k y.id) _ (eq-eqb k y.id (sym e ∙ ap (λ (z : Seen). z.id) p))
seen_at k (y ∷ ys) x (inr i) e = or_right (eqb k y.id) _ (seen_at k ys x i e)

parts : (x : Seen) (xs : List Seen) → In x xs → (before : List Seen) × (behind : List Seen) × (xs ≡ before ++ x ∷ behind)
parts x [] i = absurd i
parts x (y ∷ ys) (inl e) = ([], ys, ap (λ (z : Seen). z ∷ ys) (sym e))
parts x (y ∷ ys) (inr i) = let q = parts x ys i in (y ∷ q.0, q.1, ap (λ (zs : List Seen). y ∷ zs) q.2)

-- a task that runs runs once
one_run : (w : World) → Reach w → (i : ℕ) (x y : Seen) → In x (w.agent i).runs → In y (w.agent i).runs → y.id ≡ x.id → y ≡ x
one_run w r i x y xi yi e = pick (in_app y q.0 (x ∷ q.1) (subst (λ (zs : List Seen). In y zs) q.2 yi))
  where
    xs : List Seen
    xs = (w.agent i).runs

    q : (before : List Seen) × (behind : List Seen) × (xs ≡ before ++ x ∷ behind)
    q = parts x xs xi

    alone : T (not (seen_in x.id q.0)) × T (not (seen_in x.id q.1))
    alone = (never_twice_lem w r i i x.id (from_true _ (seen_at x.id xs x xi refl))).1 q.0 q.1 x.ready q.2

    pick : In y q.0 ⊎ In y (x ∷ q.1) → y ≡ x
    pick (inl k) = clash (seen_in x.id q.0) (seen_at x.id q.0 y k e) (not-true _ (to_true _ alone.0))
    pick (inr (inl p)) = p
    pick (inr (inr k)) = clash (seen_in x.id q.1) (seen_at x.id q.1 y k e) (not-true _ (to_true _ alone.1))

module _ (w : World) (r : Reach w) (m : Machine) (mi : Memᴰ m w.herd.machines) (e : (w.agent m.num).ordered ≡ orders (keep (on_machine m.num) w.herd.tasks)) (rest : Resting w.herd) (said : (s : Seen) → Memᴰ s (said_by (w.agent m.num)) → s.ready ≡ true) where
  abbrev rs : List Seen
  rs = (w.agent m.num).runs

  abbrev os : List Order
  os = (w.agent m.num).ordered

  -- what is ordered runs, and is ready
  runs_ready : (o : Order) → In o os → (x : Seen) × In x rs × (x.id ≡ o.id) × (x.ready ≡ true)
  runs_ready o i =
      let q = some_at (λ (x : Seen). eqb o.id x.id && x.ready) rs (ready_said rs os (λ x k. said x (in_to x (may_run rs os) k)) o i) in let p = and_parts (eqb o.id q.0.id) q.0.ready q.2 in
      (q.0, q.1, sym (eqb-true o.id q.0.id p.0), p.1)

  pub as_listed : AsListed w m.num
  as_listed =
      record {
        ordered = e;
        all = λ t i o. all t (in_from i) (to_true _ o);
        only = λ x i. only x (in_from i);
      }
    where
      all : (t : Task) → In t w.herd.tasks → on_machine m.num t ≡ true → Memᴰ (record { id = t.id; ready = true }) rs
      all t i o =
          let a = orders_has (keep (on_machine m.num) w.herd.tasks) t (keep_in (on_machine m.num) w.herd.tasks t i o) (ready_alive t.phase (rest.ready t i)) in
          let b = some_at (is_order t.id) os (ap (some (is_order t.id)) e ∙ a) in
          let x = runs_ready b.0 b.1 in
          let p : t.id ≡ x.0.id = eqb-true t.id b.0.id b.2 ∙ sym x.2 in
          in_to _ rs (subst (λ (z : Seen). In z rs) (λ k. record { id = sym p k; ready = x.3 k }) x.1)

      only : (x : Seen) → In x rs → (t : Task) × Memᴰ t w.herd.tasks × T (on_machine m.num t) × (t.id ≡ x.id) × (x.ready ≡ true)
      only x i =
          let o = (runs_within_lem w r m mi).ordered x (in_to x rs i) in
          let b = runs_ready o.0 (in_from o.1) in
          let c : b.0 ≡ x = one_run w r m.num x b.0 i b.1 (b.2 ∙ o.2) in
          let a = orders_at (keep (on_machine m.num) w.herd.tasks) o.0.id (ap (some (is_order o.0.id)) (sym e) ∙ some_from (is_order o.0.id) os o.0 (in_from o.1) (eq-eqb o.0.id o.0.id refl)) in
          let k = in_keep (on_machine m.num) w.herd.tasks a.0 a.1 in
          (a.0, in_to a.0 w.herd.tasks k.0, from_true _ k.1, a.2 ∙ o.2, sym (ap (λ (z : Seen). z.ready) c) ∙ b.3)

pub runs_as_listed : RunsAsListed
runs_as_listed w v x y ls r ra at rb c m mi ob said =
    let rv = run_reach r ra.1 in
    let gv = (first_round (scene w) (scene v) (inv_reach r).sound (steady_reach w r) (ra.0, runs r ra.1, ra.2)).0 in
    let rest = rest_from v.herd at in
    let mb = runs rv rb.1 in
    let rx = run_reach rv rb.1 in
    let gx = going_run mb gv in
    let qx = rest_run mb gv rest in
    let mc = runs rx c in
    let qy = rest_run mc gx qx.1 in
    let a = back_run mc m (in_from mi) in
    let b = back_run mb a.0 a.1 in
    let k : In m.num rb.0 = subst (λ (n : ℕ). In n rb.0) (sym (a.2 ∙ b.2)) (in_from (rb.2 b.0 (in_to b.0 v.herd.machines b.1))) in
    let h : Listed (scene y) m.num = listed_run mc gx qx.1 m.num (inl (listed_run mb gv rest m.num (inr k))) in
    as_listed y (run_reach rx c) m mi (sym (answer_all m.num (y.agent m.num).life (y.agent m.num).number y.sent (y.agent m.num).ordered (λ os j. ob os (in_to _ y.sent j))) ∙ h) qy.1 said
