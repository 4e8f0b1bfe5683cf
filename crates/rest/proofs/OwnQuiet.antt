-- Two rounds in which what is left to do for a job doesn't fall leave all its tasks ready, and nothing to do for it.
-- Assumes nothing.
use Rattle.std.proofs.Common.{◌≡◌, ℕ, ◌+◌, ◌<◌, ◌≤◌, Bool, true, false, cond, not, ltb, eqb, ◌⊎◌, List, [], ◌∷◌, ◌++◌, sym, refl, ap, ◌∙◌, subst, inl, inr, le_trans, le_refl, arith}
use Rattle.std.proofs.lemmas.Bool.{and_from, ltb-true, ltb-false, eqb-true, eqb-false, eq-eqb}
use Rattle.model.specs.State.{Machine, Job, Told, Ready, Task, State, is_waiting, is_ready_lem, of_job, on_machine}
use Rattle.model.specs.Lists.{some, same}
use Rattle.model.specs.Settle.{mine}
use Rattle.model.specs.Calls.{Seen, timed}
use Rattle.model.specs.World.{is_order, is_seen}
use Rattle.rest.specs.Rounds.{Roomy}
use Rattle.rest.specs.Rest.{is_alive}
use Rattle.rest.specs.Sooner.{widest, strays}
use Rattle.model.proofs.Lists.{clash, bool, In, in_from, in_to, pass_from}
use Rattle.model.proofs.Tasks.{Never, told_not_waiting}
use Rattle.model.proofs.Settles.{unplaced_alike}
use Rattle.model.proofs.Acts.{fine_heard, fine_timed}
use Rattle.rest.proofs.Origins.{Went, hear_pass}
use Rattle.rest.proofs.Scenes.{Scene, told, Visits, Ticks, Move, Moves, stop, go, Turn}
use Rattle.rest.proofs.Knows.{heard_other, Unsured, unsured, unsured_as, steady_pass, went_as}
use Rattle.rest.proofs.Comes.{Going, going_move}
use Rattle.rest.proofs.Quiets.{visit_exact, ready_is, tick_tasks, in_app, going_run, back_run, on_run}
use Rattle.rest.proofs.Own.{left_of}
use Rattle.rest.proofs.OwnPass.{StillAt, StillIn, QuietOf}
use Rattle.rest.proofs.OwnMoves.{Fit, fit_move, StillOf, visitO, tickO, staysO, move_le_of, move_falls_of, NoWaitOf, in_mine, nowait_of, same_of}

-- OF ONE JOB'S TASKS

abbrev pub ExactOf : Job → Scene → ℕ → Type 0
ExactOf j w i = (t : Task) → In t w.herd.tasks → of_job j.name t ≡ true → on_machine i t ≡ true → some (is_order t.id) (w.ordered i) ≡ is_alive t

abbrev pub ReadyOf : Job → Scene → ℕ → Type 0
ReadyOf j w i = (t : Task) → In t w.herd.tasks → of_job j.name t ≡ true → on_machine i t ≡ true → is_ready_lem t.phase ≡ true

-- MOVES THAT DO NOTHING FOR IT

went_waits : (k : ℕ) (xs : List Seen) (x y : Task) → Went k xs x y → is_waiting x.phase ≡ false → is_waiting y.phase ≡ false
went_waits k xs x y (inl h) n = ap (λ (z : Task). is_waiting z.phase) h.1 ∙ n
went_waits k xs x y (inr (o, inl h)) n = ap (λ (z : Task). is_waiting z.phase) h.2 ∙ n
went_waits k xs x y (inr (o, inr h)) n = ap (λ (z : Task). is_waiting z.phase) h.1 ∙ either (some (is_seen x.id) xs)
  where
    either : (b : Bool) → is_waiting (cond b Ready Told) ≡ false
    either true = refl
    either false = refl

told_waits_of : (j : Job) (w v : Scene) (i : ℕ) (vs : Visits w v i) → NoWaitOf j w.herd.tasks → NoWaitOf j (told w v i vs).tasks
told_waits_of j w v i vs n t k o =
    let q = pass_from _ _ (hear_pass i (w.life i) vs.said vs.ready w.herd.tasks) t k in
    let a : of_job j.name q.0 ≡ true = sym (ap (same j.name) (ap (λ (z : Task). z.job) q.4 ∙ (went_as i vs.said q.0 q.2 q.3).0)) ∙ o in
    ap (λ (z : Task). is_waiting z.phase) q.4 ∙ went_waits i vs.said q.0 q.2 q.3 (n q.0 q.1 a)

timed_waits_of : (j : Job) (time : ℕ) (s : State) → NoWaitOf j s.tasks → NoWaitOf j (timed time s).tasks
timed_waits_of j time s n t k o = let q = pass_from Never Unsured (unsured time s.machines s.tasks) t k in ap (λ (z : Task). is_waiting z.phase) q.4 ∙ pick q.0 q.1 q.2 q.3 (sym (ap (of_job j.name) q.4) ∙ o)
  where
    pick : (x : Task) → In x s.tasks → (y : Task) → Unsured x y → of_job j.name y ≡ true → is_waiting y.phase ≡ false
    pick x i y (inl e) p = ap (λ (z : Task). is_waiting z.phase) e ∙ n x i (sym (ap (of_job j.name) e) ∙ p)
    pick x i y (inr e) p = ap (λ (z : Task). is_waiting z.phase) e.1 ∙ told_not_waiting

visit_mine : (j : Job) {w v : Scene} (i : ℕ) → Going w → (vs : Visits w v i) → QuietOf j (told w v i vs) → NoWaitOf j w.herd.tasks → mine j v.herd.tasks ≡ mine j (told w v i vs).tasks
visit_mine j {w} {v} i g vs q n = ap (λ (s : State). mine j s.tasks) vs.herd ∙ same_of (told w v i vs) (fine_heard i _ _ _ w.herd g.sound.fine) j q.0 (told_waits_of j w v i vs n)

tick_mine : (j : Job) {w v : Scene} → Going w → (ts : Ticks w v) → QuietOf j (timed ts.time w.herd) → NoWaitOf j w.herd.tasks → mine j v.herd.tasks ≡ mine j (timed ts.time w.herd).tasks
tick_mine j {w} {v} g ts q n = ap (λ (s : State). mine j s.tasks) ts.herd ∙ same_of (timed ts.time w.herd) (fine_timed ts.time w.herd g.sound.fine) j q.0 (timed_waits_of j ts.time w.herd n)

visit_nowait_of : (j : Job) {w v : Scene} (i : ℕ) → Going w → In j w.herd.jobs → (vs : Visits w v i) → QuietOf j (told w v i vs) → Roomy v.herd → NoWaitOf j v.herd.tasks
visit_nowait_of j {w} {v} i g ji vs q r =
    let f = g.sound.fine in
    subst (λ (s : State). NoWaitOf j s.tasks) (sym vs.herd) (nowait_of (told w v i vs) (fine_heard i _ _ _ w.herd f) j ji q (steady_pass _ _ (went_as i _) w.herd (told w v i vs) refl (hear_pass i _ _ vs.ready w.herd.tasks) g.steady) (subst Roomy vs.herd r))

tick_nowait_of : (j : Job) {w v : Scene} → Going w → In j w.herd.jobs → (ts : Ticks w v) → QuietOf j (timed ts.time w.herd) → Roomy v.herd → NoWaitOf j v.herd.tasks
tick_nowait_of j {w} {v} g ji ts q r =
    let f = g.sound.fine in let u = timed ts.time w.herd in
    subst (λ (s : State). NoWaitOf j s.tasks) (sym ts.herd) (nowait_of u (fine_timed ts.time w.herd f) j ji q (steady_pass _ _ unsured_as w.herd u refl (unsured ts.time w.herd.machines w.herd.tasks) g.steady) (subst Roomy ts.herd r))

pub still_nowait_of : (j : Job) {ks : List ℕ} {w v : Scene} → Going w → In j w.herd.jobs → NoWaitOf j w.herd.tasks → Roomy v.herd → StillOf j ks w v → NoWaitOf j v.herd.tasks
still_nowait_of j g ji n r (visitO k vs q) = visit_nowait_of j k g ji vs q r
still_nowait_of j g ji n r (tickO ts q) = tick_nowait_of j g ji ts q r
still_nowait_of j g ji n r (staysO ss) = subst (λ (s : State). NoWaitOf j s.tasks) (sym ss.herd) n

exact_of : (j : Job) {ks : List ℕ} {w v : Scene} → Going w → NoWaitOf j w.herd.tasks → StillOf j ks w v → (i : ℕ) → ExactOf j w i ⊎ In i ks → ExactOf j v i
exact_of j {w = w} {v = v} g n (visitO k vs q) i o = pick (eqb i k) refl o
  where
    pick : (b : Bool) → eqb i k ≡ b → ExactOf j w i ⊎ In i (k ∷ []) → ExactOf j v i
    pick true e h = subst (ExactOf j v) (sym (eqb-true i k e)) (λ t x y m. visit_exact k g.sound.fine vs t x m)
    pick false e (inr (inl h)) = absurd (eqb-false i k e h)
    pick false e (inr (inr h)) = absurd h
    pick false e (inl h) = λ t x y m. ap (some (is_order t.id)) (vs.others i e) ∙ h t (heard_other k i (w.life k) vs.said w.herd.tasks e t (in_mine j (told w v k vs).tasks v.herd.tasks (visit_mine j k g vs q n) t x y) m) y m
exact_of j {w = w} {v = v} g n (tickO ts q) i (inr h) = absurd h
exact_of j {w = w} {v = v} g n (tickO ts q) i (inl h) = λ t x y m. ap (some (is_order t.id)) (ts.ordered i) ∙ h t (subst (λ (xs : List Task). In t xs) (tick_tasks g ts) (in_mine j (timed ts.time w.herd).tasks v.herd.tasks (tick_mine j g ts q n) t x y)) y m
exact_of j g n (staysO ss) i (inr h) = absurd h
exact_of j g n (staysO ss) i (inl h) = λ t x y m. ap (some (is_order t.id)) (ss.ordered i) ∙ h t (subst (λ (s : State). In t s.tasks) ss.herd x) y m

ready_of : (j : Job) {ks : List ℕ} {w v : Scene} → Going w → NoWaitOf j w.herd.tasks → StillOf j ks w v → (i : ℕ) → ExactOf j w i → ReadyOf j w i ⊎ In i ks → ReadyOf j v i
ready_of j {w = w} {v = v} g n (visitO k vs q) i x o = pick (eqb i k) refl o
  where
    xs : List Seen
    xs = vs.said

    heard_one : ExactOf j w k → (t : Task) → of_job j.name t ≡ true → on_machine k t ≡ true → (a : Task) → In a w.herd.tasks → (y : Task) → Went k xs a y → t ≡ y → of_job j.name a ≡ true → is_ready_lem t.phase ≡ true
    heard_one ex t p m a z y (inl h) e c = clash (on_machine k t) m (ap (on_machine k) (e ∙ h.1) ∙ h.0)
    heard_one ex t p m a z y (inr (l, inl h)) e c = clash (some (is_seen a.id) xs) h.1 (vs.seen a.id ∙ (ex a z c l ∙ ap not h.0))
    heard_one ex t p m a z y (inr (l, inr h)) e c = ap (λ (b : Task). is_ready_lem b.phase) (e ∙ h.1) ∙ (ap (λ (b : Bool). is_ready_lem (cond b Ready Told)) (vs.seen a.id ∙ (ex a z c l ∙ ap not h.0)) ∙ ready_is)

    in_told : (t : Task) → In t v.herd.tasks → of_job j.name t ≡ true → In t (told w v k vs).tasks
    in_told t y p = in_mine j (told w v k vs).tasks v.herd.tasks (visit_mine j k g vs q n) t y p

    pick : (b : Bool) → eqb i k ≡ b → ReadyOf j w i ⊎ In i (k ∷ []) → ReadyOf j v i
    pick true e h =
        subst (ReadyOf j v) (sym (eqb-true i k e)) (λ t y p m. let z = pass_from _ _ (hear_pass k (w.life k) xs vs.ready w.herd.tasks) t (in_told t y p) in
        heard_one (subst (ExactOf j w) (eqb-true i k e) x) t p m z.0 z.1 z.2 z.3 z.4 (sym (ap (same j.name) (ap (λ (b : Task). b.job) z.4 ∙ (went_as k xs z.0 z.2 z.3).0)) ∙ p))
    pick false e (inr (inl h)) = absurd (eqb-false i k e h)
    pick false e (inr (inr h)) = absurd h
    pick false e (inl h) = λ t y p m. h t (heard_other k i (w.life k) vs.said w.herd.tasks e t (in_told t y p) m) p m
ready_of j {w = w} {v = v} g n (tickO ts q) i x (inr h) = absurd h
ready_of j {w = w} {v = v} g n (tickO ts q) i x (inl h) = λ t y p m. h t (subst (λ (xs : List Task). In t xs) (tick_tasks g ts) (in_mine j (timed ts.time w.herd).tasks v.herd.tasks (tick_mine j g ts q n) t y p)) p m
ready_of j g n (staysO ss) i x (inr h) = absurd h
ready_of j g n (staysO ss) i x (inl h) = λ t y p m. h t (subst (λ (s : State). In t s.tasks) ss.herd y) p m

-- nothing is to be done for it afterwards either
carried : (j : Job) (u s : State) → s.now ≡ u.now → s.machines ≡ u.machines → mine j s.tasks ≡ mine j u.tasks → StillIn j u → StillIn j s
carried j u s a b c h = subst (λ (xs : List Task). StillAt j s.now s.machines xs) (sym c) (subst (λ (ms : List Machine). StillAt j s.now ms (mine j u.tasks)) (sym b) (subst (λ (k : ℕ). StillAt j k u.machines (mine j u.tasks)) (sym a) h))

done_of : (j : Job) {ks : List ℕ} {w v : Scene} → Going w → NoWaitOf j w.herd.tasks → Roomy v.herd → StillOf j ks w v → StillIn j w.herd ⊎ ((i : ℕ) × In i ks) → StillIn j v.herd
done_of j {w = w} {v = v} g n r (visitO k vs q) o = let u = told w v k vs in carried j u v.herd (ap (λ (s : State). s.now) vs.herd ∙ (unplaced_alike u).0) (ap (λ (s : State). s.machines) vs.herd ∙ (unplaced_alike u).1) (visit_mine j k g vs q n) (q.1 (subst Roomy vs.herd r).0)
done_of j {w = w} {v = v} g n r (tickO ts q) o = let u = timed ts.time w.herd in carried j u v.herd (ap (λ (s : State). s.now) ts.herd ∙ (unplaced_alike u).0) (ap (λ (s : State). s.machines) ts.herd ∙ (unplaced_alike u).1) (tick_mine j g ts q n) (q.1 (subst Roomy ts.herd r).0)
done_of j g n r (staysO ss) (inl h) = subst (StillIn j) (sym ss.herd) h
done_of j g n r (staysO ss) (inr h) = absurd h.1

-- RUNS OF MOVES

pub record OutcomeOf (j : Job) (ks : List ℕ) (w v : Scene) : Type 0 where
  pub exact : (i : ℕ) → ExactOf j w i ⊎ In i ks → ExactOf j v i
  pub ready : (i : ℕ) → ExactOf j w i → ReadyOf j w i ⊎ In i ks → ReadyOf j v i
  pub nowait : NoWaitOf j v.herd.tasks
  pub still : StillIn j w.herd ⊎ ((i : ℕ) × In i ks) → StillIn j v.herd

pub record FirstOf (j : Job) (ks : List ℕ) (v : Scene) : Type 0 where
  pub exact : (i : ℕ) → In i ks → ExactOf j v i
  pub nowait : (i : ℕ) → In i ks → NoWaitOf j v.herd.tasks

module _ (js : List Job) (at : List Task) (room : widest js at + strays js at ≤ 2048) (j : Job) (ji : In j js) where
  abbrev L : Scene → ℕ
  L w = left_of j w.herd.tasks

  abbrev pub FitIn : Scene → Type 0
  FitIn w = Fit js at w.herd

  member : (w : Scene) → FitIn w → In j w.herd.jobs
  member w h = subst (λ (ks : List Job). In j ks) (sym h.jobs) ji

  pub fit_run : {P : State → Type 0} {ks : List ℕ} {w v : Scene} → Moves P ks w v → Going w → FitIn w → FitIn v
  fit_run (stop w) g h = h
  fit_run (go c r rest) g h = fit_run rest (going_move g c) (fit_move js at g.sound.fine h c)

  pub runs_le_of : {P : State → Type 0} {ks : List ℕ} {w v : Scene} → Moves P ks w v → Going w → FitIn w → left_of j v.herd.tasks ≤ left_of j w.herd.tasks
  runs_le_of (stop w) g h = le_refl _
  runs_le_of (go c r rest) g h = le_trans (runs_le_of rest (going_move g c) (fit_move js at g.sound.fine h c)) (move_le_of js at room j ji g h c)

  not_less_of : {ks ls : List ℕ} {w u v : Scene} → Going w → FitIn w → (c : Move ks w u) → Moves Roomy ls u v → left_of j w.herd.tasks ≤ left_of j v.herd.tasks → StillOf j ks w u
  not_less_of {ks} {w = w} {u = u} {v = v} g h c rest l = pick (move_falls_of js at room j ji g h c)
    where
      pick : (left_of j u.herd.tasks < left_of j w.herd.tasks) ⊎ StillOf j ks w u → StillOf j ks w u
      pick (inl p) = let k : left_of j v.herd.tasks ≤ left_of j u.herd.tasks = runs_le_of rest (going_move g c) (fit_move js at g.sound.fine h c) in absurd (omega arith)
      pick (inr s) = s

  pub quiet_run_of : {ks : List ℕ} {w v : Scene} → Moves Roomy ks w v → Going w → FitIn w → left_of j w.herd.tasks ≤ left_of j v.herd.tasks → NoWaitOf j w.herd.tasks → OutcomeOf j ks w v
  quiet_run_of (stop w) g h l n = record { exact = λ i o. elim o [ inl x ↦ x | inr x ↦ absurd x ]; ready = λ i x o. elim o [ inl y ↦ y | inr y ↦ absurd y ]; nowait = n; still = λ o. elim o [ inl x ↦ x | inr x ↦ absurd x.1 ] }
  quiet_run_of (go {ks = ks} {ls = ls} {w = w} {u = u} {v = v} c r rest) g h l n =
      join (not_less_of g h c rest l) (quiet_run_of rest (going_move g c) (fit_move js at g.sound.fine h c) (le_trans (move_le_of js at room j ji g h c) l) (still_nowait_of j g (member w h) n r (not_less_of g h c rest l)))
    where
      join : StillOf j ks w u → OutcomeOf j ls u v → OutcomeOf j (ks ++ ls) w v
      join s o = record { exact = exact; ready = ready; nowait = o.nowait; still = still }
        where
          exact : (i : ℕ) → ExactOf j w i ⊎ In i (ks ++ ls) → ExactOf j v i
          exact i (inl x) = o.exact i (inl (exact_of j g n s i (inl x)))
          exact i (inr x) = elim (in_app i ks ls x) [ inl y ↦ o.exact i (inl (exact_of j g n s i (inr y))) | inr y ↦ o.exact i (inr y) ]

          ready : (i : ℕ) → ExactOf j w i → ReadyOf j w i ⊎ In i (ks ++ ls) → ReadyOf j v i
          ready i x (inl y) = o.ready i (exact_of j g n s i (inl x)) (inl (ready_of j g n s i x (inl y)))
          ready i x (inr y) = elim (in_app i ks ls y) [ inl z ↦ o.ready i (exact_of j g n s i (inl x)) (inl (ready_of j g n s i x (inr z))) | inr z ↦ o.ready i (exact_of j g n s i (inl x)) (inr z) ]

          still : StillIn j w.herd ⊎ ((i : ℕ) × In i (ks ++ ls)) → StillIn j v.herd
          still (inl x) = o.still (inl (done_of j g n r s (inl x)))
          still (inr (i, x)) = elim (in_app i ks ls x) [ inl y ↦ o.still (inl (done_of j g n r s (inr (i, y)))) | inr y ↦ o.still (inr (i, y)) ]

  pub first_run_of : {ks : List ℕ} {w v : Scene} → Moves Roomy ks w v → Going w → FitIn w → left_of j w.herd.tasks ≤ left_of j v.herd.tasks → FirstOf j ks v
  first_run_of (stop w) g h l = record { exact = λ i x. absurd x; nowait = λ i x. absurd x }
  first_run_of (go {ks = ks} {ls = ls} {w = w} {u = u} {v = v} c r rest) g h l = pick (not_less_of g h c rest l) rest (first_run_of rest (going_move g c) (fit_move js at g.sound.fine h c) (le_trans (move_le_of js at room j ji g h c) l))
    where
      after : NoWaitOf j u.herd.tasks → OutcomeOf j ls u v
      after n = quiet_run_of rest (going_move g c) (fit_move js at g.sound.fine h c) (le_trans (move_le_of js at room j ji g h c) l) n

      pick : {ms : List ℕ} → StillOf j ms w u → Moves Roomy ls u v → FirstOf j ls v → FirstOf j (ms ++ ls) v
      pick (visitO k vs q) rs f =
          let n = visit_nowait_of j k g (member w h) vs q r in let o = after n in
          record { exact = λ i x. elim x [ inl e ↦ o.exact i (inl (subst (ExactOf j u) (sym e) (λ t y z m. visit_exact k g.sound.fine vs t y m))) | inr y ↦ o.exact i (inr y) ]; nowait = λ i x. o.nowait }
      pick (tickO ts q) rs f = f
      pick (staysO ss) rs f = f

  -- TWO ROUNDS

  pub two_rounds_of : (w u v : Scene) → Going w → FitIn w → (m : Machine) → In m w.herd.machines → Turn Roomy w u → Turn Roomy u v → (left_of j v.herd.tasks < left_of j w.herd.tasks) ⊎ (StillIn j v.herd × ((t : Task) → In t v.herd.tasks → of_job j.name t ≡ true → is_ready_lem t.phase ≡ true))
  two_rounds_of w u v g h m mi (ks, ra, ca) (ls, rb, cb) = elim (bool (ltb (left_of j v.herd.tasks) (left_of j w.herd.tasks))) [ inl p ↦ inl (ltb-true _ _ p) | inr p ↦ inr (rests (ltb-false _ _ p)) ]
    where
      gu : Going u
      gu = going_run ra g

      gv : Going v
      gv = going_run rb gu

      hu : FitIn u
      hu = fit_run ra g h

      rests : left_of j w.herd.tasks ≤ left_of j v.herd.tasks → StillIn j v.herd × ((t : Task) → In t v.herd.tasks → of_job j.name t ≡ true → is_ready_lem t.phase ≡ true)
      rests l = (o.still (inr (mu.0.num, in_from (cb mu.0 (in_to mu.0 u.herd.machines mu.1)))), ready)
        where
          f : FirstOf j ks u
          f = first_run_of ra g h (le_trans l (runs_le_of rb gu hu))

          o : OutcomeOf j ls u v
          o = quiet_run_of rb gu hu (le_trans (runs_le_of ra g h) l) (f.nowait m.num (in_from (ca m (in_to m w.herd.machines mi))))

          mu : (x : Machine) × In x u.herd.machines
          mu = on_run ra m mi

          ready : (t : Task) → In t v.herd.tasks → of_job j.name t ≡ true → is_ready_lem t.phase ≡ true
          ready t i p =
              let w' = o.nowait t i p in
              let x = gv.sound.told t i w' in
              let b = back_run rb x.0 x.1 in let a = back_run ra b.0 b.1 in
              let k : In b.0.num ls = in_from (cb b.0 (in_to b.0 u.herd.machines b.1)) in
              let y : In a.0.num ks = in_from (ca a.0 (in_to a.0 w.herd.machines a.1)) in
              let e : ExactOf j u b.0.num = f.exact b.0.num (subst (λ (n : ℕ). In n ks) (sym a.2) y) in
              o.ready b.0.num e (inr k) t i p (and_from _ _ (ap not w') (eq-eqb b.0.num t.machine (sym b.2 ∙ x.2)))
