-- Moves, as one job sees them: what is left to do for it never grows, and where it isn't less the pass did nothing for it.
-- Assumes nothing.
use Rattle.std.proofs.Common.{◌≡◌, ℕ, ◌+◌, ◌<◌, ◌≤◌, Bool, true, false, not, ◌&&◌, eqb, ◌⊎◌, List, [], ◌∷◌, sym, ap, ◌∙◌, subst, inl, inr, le_trans, le_refl, arith}
use Rattle.std.proofs.lemmas.Bool.{and_parts, and_from, or_left, eqb-true}
use Rattle.model.specs.State.{Job, Task, State, is_waiting, is_ready_lem, of_job}
use Rattle.model.specs.Lists.{same}
use Rattle.model.specs.Settle.{mine, alive, old_ones, sure, takes, fresh, unplaced, settle}
use Rattle.model.specs.Calls.{timed}
use Rattle.rest.specs.Rounds.{Roomy}
use Rattle.rest.specs.Rest.{is_alive, is_new}
use Rattle.rest.specs.Sooner.{widest, strays}
use Rattle.model.proofs.Lists.{to_true, from_true, clash, bool, In, in_from, in_to, in_keep, keep_in, Pass, pass_from, pass_up, pass_down}
use Rattle.model.proofs.Tasks.{same_eq, waiting_not_ready, Put, Never}
use Rattle.model.proofs.Settles.{unplaced_alike, settle_pass, Fine, fine_to}
use Rattle.model.proofs.Room.{put_waiting, waits_for_room_lem}
use Rattle.model.proofs.Acts.{fine_heard, fine_timed}
use Rattle.rest.proofs.Steps.{to_end_none, kept_none}
use Rattle.rest.proofs.Lacks.{news, not_new}
use Rattle.rest.proofs.Falls.{waiting_alive}
use Rattle.rest.proofs.Origins.{Went, hear_pass}
use Rattle.rest.proofs.Knows.{Unsured, unsured, unsured_as, unsured_new, lives, Ended, lost_ends, went_new, went_as, Steady, takes_as, machines_in}
use Rattle.rest.proofs.Scenes.{Scene, told, Visits, Ticks, Sames, Move, visit, tick, stays}
use Rattle.rest.proofs.Comes.{Going, one_of, visitor}
use Rattle.rest.proofs.Own.{keep_pass, own, owns, left_of}
use Rattle.rest.proofs.Bounds.{Bounded, bounded_pass, bounded_settle}
use Rattle.rest.proofs.OwnPass.{seen_at_by, QuietOf, Settled, own_settle}

-- THE LIMIT DOESN'T BIND

pub record Fit (js : List Job) (at : List Task) (s : State) : Type 0 where
  pub jobs : s.jobs ≡ js
  pub bounded : Bounded js at s.tasks

pub settle_at : (js : List Job) (at : List Task) → widest js at + strays js at ≤ 2048 → (j : Job) → In j js → (s : State) → Fine s → Fit js at s → Settled j s
settle_at js at room j ji s f h = subst (λ (ks : List Job). widest ks at + strays ks at ≤ 2048 → Bounded ks at s.tasks → In j ks → Settled j s) h.jobs (λ r b i. own_settle s f at r b j i) room h.bounded ji

fit_settle : (js : List Job) (at : List Task) (s : State) → Fine s → Fit js at s → Fit js at (settle s)
fit_settle js at s f h =
    record {
      jobs = (unplaced_alike s).2 ∙ h.jobs;
      bounded = subst (λ (ks : List Job). Bounded ks at s.tasks → Bounded ks at (settle s).tasks) h.jobs (λ b. bounded_settle s f (one_of s f) at b) h.bounded;
    }

pub fit_told : (js : List Job) (at : List Task) {w v : Scene} (i : ℕ) (vs : Visits w v i) → Fit js at w.herd → Fit js at (told w v i vs)
fit_told js at {w} {v} i vs h = record { jobs = h.jobs; bounded = bounded_pass js at _ _ (λ x y r. (went_as i vs.said x y r).0) w.herd.tasks (told w v i vs).tasks (hear_pass i (w.life i) vs.said vs.ready w.herd.tasks) h.bounded }

pub fit_timed : (js : List Job) (at : List Task) (t : ℕ) (s : State) → Fit js at s → Fit js at (timed t s)
fit_timed js at t s h = record { jobs = h.jobs; bounded = bounded_pass js at _ _ (λ x y r. (unsured_as x y r).0) s.tasks (timed t s).tasks (unsured t s.machines s.tasks) h.bounded }

pub fit_move : (js : List Job) (at : List Task) {ks : List ℕ} {w v : Scene} → Fine w.herd → Fit js at w.herd → Move ks w v → Fit js at v.herd
fit_move js at {w = w} {v = v} f h (visit i vs snd) = subst (Fit js at) (sym vs.herd) (fit_settle js at (told w v i vs) (fine_heard i _ _ _ w.herd f) (fit_told js at i vs h))
fit_move js at {w = w} f h (tick ts snd) = subst (Fit js at) (sym ts.herd) (fit_settle js at (timed ts.time w.herd) (fine_timed ts.time w.herd f) (fit_timed js at ts.time w.herd h))
fit_move js at f h (stays ss snd) = subst (Fit js at) (sym ss.herd) h

-- WHAT IS LEFT TO DO

left_by : (j : Job) (xs ys : List Task) → owns j ys ≤ owns j xs → news j xs ≤ news j ys → left_of j ys ≤ left_of j xs
unfolding left_of
left_by j xs ys a b = omega arith

-- as before in all but phase and place, no more alive
abbrev pub As : Task → Task → Type 0
As x y = (y.job ≡ x.job) × (y.version ≡ x.version) × (y.spec ≡ x.spec) × (is_alive y ≡ true → is_alive x ≡ true)

pub own_as : (j : Job) (x y : Task) → As x y → own j y ≡ true → own j x ≡ true
own_as j x y h q = let p = and_parts (of_job j.name y) (is_alive y) q in and_from _ _ (sym (ap (same j.name) h.0) ∙ p.0) (h.3 p.1)

pub heard_left_of : (j : Job) {w v : Scene} (i : ℕ) → Going w → (vs : Visits w v i) → left_of j (told w v i vs).tasks ≤ left_of j w.herd.tasks
heard_left_of j {w} {v} i g vs = left_by j w.herd.tasks (told w v i vs).tasks (pass_down Ended (Went i vs.said) (own j) (λ x y r. own_as j x y (went_as i vs.said x y r)) p) (pass_up Ended (Went i vs.said) (is_new j) (λ x d. not_new j x d) (went_new j i vs.said) p)
  where
    p : Pass Ended (Went i vs.said) w.herd.tasks (told w v i vs).tasks
    p = lost_ends i _ _ (hear_pass i (w.life i) vs.said vs.ready w.herd.tasks) (lives w.herd (w.life i) (w.ordered i) i g.sound.told (visitor i g vs))

pub timed_left_of : (j : Job) (t : ℕ) (s : State) → left_of j (timed t s).tasks ≤ left_of j s.tasks
timed_left_of j t s = left_by j s.tasks (timed t s).tasks (pass_down Never Unsured (own j) (λ x y r. own_as j x y (unsured_as x y r)) (unsured t s.machines s.tasks)) (pass_up Never Unsured (is_new j) (λ x d. absurd d) (unsured_new j) (unsured t s.machines s.tasks))

pub data StillOf (j : Job) : List ℕ → Scene → Scene → Type 0 where
  visitO : {w v : Scene} (i : ℕ) (vs : Visits w v i) → QuietOf j (told w v i vs) → StillOf j (i ∷ []) w v
  tickO : {w v : Scene} → (t : Ticks w v) → QuietOf j (timed t.time w.herd) → StillOf j [] w v
  staysO : {w v : Scene} → Sames w v → StillOf j [] w v

module _ (js : List Job) (at : List Task) (room : widest js at + strays js at ≤ 2048) (j : Job) (ji : In j js) where
  abbrev here' : Scene → ℕ
  here' w = left_of j w.herd.tasks

  pub move_le_of : {ks : List ℕ} {w v : Scene} → Going w → Fit js at w.herd → Move ks w v → left_of j v.herd.tasks ≤ left_of j w.herd.tasks
  move_le_of {w = w} {v = v} g h (visit i vs snd) = subst (λ (s : State). left_of j s.tasks ≤ here' w) (sym vs.herd) (le_trans (settle_at js at room j ji (told w v i vs) (fine_heard i _ _ _ w.herd g.sound.fine) (fit_told js at i vs h)).left (heard_left_of j i g vs))
  move_le_of {w = w} {v = v} g h (tick ts snd) = subst (λ (s : State). left_of j s.tasks ≤ here' w) (sym ts.herd) (le_trans (settle_at js at room j ji (timed ts.time w.herd) (fine_timed ts.time w.herd g.sound.fine) (fit_timed js at ts.time w.herd h)).left (timed_left_of j ts.time w.herd))
  move_le_of {w = w} {v = v} g h (stays ss snd) = subst (λ (s : State). left_of j s.tasks ≤ here' w) (sym ss.herd) (le_refl _)

  pub move_falls_of : {ks : List ℕ} {w v : Scene} → Going w → Fit js at w.herd → Move ks w v → (left_of j v.herd.tasks < left_of j w.herd.tasks) ⊎ StillOf j ks w v
  move_falls_of {w = w} {v = v} g h (visit i vs snd) = pick (settle_at js at room j ji u (fine_heard i _ _ _ w.herd g.sound.fine) (fit_told js at i vs h)).falls
    where
      u : State
      u = told w v i vs

      pick : (left_of j (settle u).tasks < left_of j u.tasks) ⊎ QuietOf j u → (left_of j v.herd.tasks < left_of j w.herd.tasks) ⊎ StillOf j (i ∷ []) w v
      pick (inl l) = inl (subst (λ (s : State). left_of j s.tasks < here' w) (sym vs.herd) (let k : left_of j u.tasks ≤ here' w = heard_left_of j i g vs in omega arith))
      pick (inr q) = inr (visitO i vs q)
  move_falls_of {w = w} {v = v} g h (tick ts snd) = pick (settle_at js at room j ji u (fine_timed ts.time w.herd g.sound.fine) (fit_timed js at ts.time w.herd h)).falls
    where
      u : State
      u = timed ts.time w.herd

      pick : (left_of j (settle u).tasks < left_of j u.tasks) ⊎ QuietOf j u → (left_of j v.herd.tasks < left_of j w.herd.tasks) ⊎ StillOf j [] w v
      pick (inl l) = inl (subst (λ (s : State). left_of j s.tasks < here' w) (sym ts.herd) (let k : left_of j u.tasks ≤ here' w = timed_left_of j ts.time w.herd in omega arith))
      pick (inr q) = inr (tickO ts q)
  move_falls_of g h (stays ss snd) = inr (staysO ss)

-- NO TASK OF IT WAITS AFTER A PASS THAT DID NOTHING FOR IT

abbrev pub NoWaitOf : Job → List Task → Type 0
NoWaitOf j ts = (t : Task) → In t ts → of_job j.name t ≡ true → is_waiting t.phase ≡ false

pub in_mine : (j : Job) (xs ys : List Task) → mine j ys ≡ mine j xs → (t : Task) → In t ys → of_job j.name t ≡ true → In t xs
in_mine j xs ys e t i o = (in_keep (of_job j.name) xs t (subst (In t) e (keep_in (of_job j.name) ys t i o))).0

pub nowait_of : (u : State) → Fine u → (j : Job) → In j u.jobs → QuietOf j u → Steady u → Roomy (settle u) → NoWaitOf j (settle u).tasks
nowait_of u f j ji q st r t i o = elim (bool (is_waiting t.phase)) [ inl w ↦ absurd (not_so w) | inr w ↦ w ]
  where
    was : is_waiting t.phase ≡ true → In t u.tasks
    was w =
        let g = pass_from Never Put (settle_pass u f.tidy) t i in
        let c : t ≡ g.0 = g.4 ∙ put_waiting g.0 g.2 g.3 (sym (ap (λ (x : Task). is_waiting x.phase) g.4) ∙ w) in
        in_mine j u.tasks (unplaced u).tasks q.0 t (subst (λ (x : Task). In x (unplaced u).tasks) (sym c) g.1) o

    F : Task → Bool
    F x = not (is_ready_lem x.phase) && sure (seen_at_by u.now u.machines) x

    version : is_waiting t.phase ≡ true → t.version ≡ j.version
    version w = elim (bool (eqb t.version j.version)) [ inl p ↦ eqb-true _ _ p | inr p ↦ old p ]
      where
        old : {C : Type 0} → eqb t.version j.version ≡ false → C
        old p =
            let n = (to_end_none (seen_at_by u.now u.machines) j _ _ (q.1 r.0).0).0 in
            let k : In t (old_ones j (alive (mine j u.tasks))) = keep_in _ (alive (mine j u.tasks)) t (keep_in is_alive (mine j u.tasks) t (keep_in (of_job j.name) u.tasks t (was w) o) (ap not (waiting_alive t.phase w))) (ap not p) in
            clash (F t) (and_from _ _ (ap not (waiting_not_ready t.phase w)) (or_left (is_waiting t.phase) _ w)) (kept_none F (old_ones j (alive (mine j u.tasks))) n t k)

    not_so : is_waiting t.phase ≡ true → ⊥
    not_so w =
        let name : j.name ≡ t.job = same_eq _ _ o in
        let spec : t.spec ≡ j.spec = st.like t j (was w) ji name (version w) (waiting_alive t.phase w) in
        let m = r.1 j (in_to j (settle u).jobs (subst (λ (js : List Job). In j js) (sym (unplaced_alike u).2) ji)) in
        let e : takes (settle u).now t (settle u).tasks m.0 ≡ true = takes_as (settle u).now t (fresh j 0) (settle u).tasks m.0 spec (sym name) ∙ to_true _ m.2 in
        waits_for_room_lem u t m.0 (fine_to u f) (in_to t (settle u).tasks i) (from_true _ w) (in_to m.0 u.machines (machines_in u m.0 (in_from m.1))) (from_true _ e)

-- and where none of it waited, the pass left its tasks as they were
pub same_of : (u : State) → Fine u → (j : Job) → mine j (unplaced u).tasks ≡ mine j u.tasks → NoWaitOf j u.tasks → mine j (settle u).tasks ≡ mine j u.tasks
same_of u f j q n =
    keep_pass Never Put (of_job j.name) (settle_pass u f.tidy) (λ x i d. absurd d) (λ x y i r. elim r [ inl e ↦ ap (of_job j.name) e | inr e ↦ ap (of_job j.name) e.3 ])
    (λ x y i r o. elim r [ inl e ↦ e | inr e ↦ clash (is_waiting x.phase) e.0 (n x (in_mine j u.tasks (unplaced u).tasks q x i o) o) ])
    ∙ q
