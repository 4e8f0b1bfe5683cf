-- Rounds in which what is left to do doesn't fall: after the first, each agent has ordered just what is to run; after the second all is ready, and so at rest.
-- Assumes nothing.
use Rattle.std.proofs.Common.{◌≡◌, ℕ, ◌<◌, ◌≤◌, Bool, true, false, cond, not, eqb, ltb, ◌⊎◌, List, [], ◌∷◌, ◌++◌, sym, refl, ap, ◌∙◌, subst, inl, inr, le_trans, le_refl, arith}
use Rattle.std.proofs.lemmas.Bool.{true≢false, and_from, ltb-true, ltb-false, eqb-true, eqb-false, eq-eqb}
use Rattle.model.specs.State.{Machine, Told, Ready, Task, State, is_waiting, is_ready_lem, is_ending, on_machine}
use Rattle.model.specs.Lists.{some, keep}
use Rattle.model.specs.Settle.{settle}
use Rattle.model.specs.Calls.{Seen, Order, orders, timed}
use Rattle.model.specs.World.{is_order, is_seen}
use Rattle.rest.specs.Rounds.{Roomy}
use Rattle.rest.specs.Rest.{is_alive}
use Rattle.model.proofs.Lists.{clash, bool, In, in_from, in_to, in_keep, keep_in, pass_from}
use Rattle.model.proofs.Tasks.{rising_one, Never, told_not_waiting}
use Rattle.model.proofs.Settles.{Tidy, tidy_settle, Fine}
use Rattle.model.proofs.Acts.{heard_pass, fine_heard, fine_timed}
use Rattle.model.proofs.Keeps.{heard_stay}
use Rattle.rest.proofs.Steps.{keep_none}
use Rattle.rest.proofs.Falls.{Quiet, quiet_same}
use Rattle.rest.proofs.Stuck.{Resting, stuck_rests}
use Rattle.rest.proofs.Origins.{orders_has, orders_at, Went, hear_pass}
use Rattle.rest.proofs.Scenes.{Scene, left, told, Visits, Ticks, Move, Moves, stop, go, Turn}
use Rattle.rest.proofs.Knows.{heard_other, Unsured, unsured, timed_same, steady_pass, went_as, unsured_as, NoWait, no_wait}
use Rattle.rest.proofs.Comes.{machines_back, machines_on, Going, going_move, Still, visit_s, tick_s, stays_s, move_le, move_falls}

-- ORDERED IS JUST WHAT IS TO RUN

abbrev pub Exactly : List Task → List Order → ℕ → Type 0
Exactly ts os i = (t : Task) → In t ts → on_machine i t ≡ true → some (is_order t.id) os ≡ is_alive t

abbrev pub ReadyOn : List Task → ℕ → Type 0
ReadyOn ts i = (t : Task) → In t ts → on_machine i t ≡ true → is_ready_lem t.phase ≡ true

abbrev pub ExactIn : Scene → ℕ → Type 0
ExactIn w i = Exactly w.herd.tasks (w.ordered i) i

abbrev pub ReadyIn : Scene → ℕ → Type 0
ReadyIn w i = ReadyOn w.herd.tasks i

orders_exact : (s : State) (i : ℕ) → Tidy s → Exactly s.tasks (orders (keep (on_machine i) s.tasks)) i
orders_exact s i h t j o = pick (is_ending t.phase) refl
  where
    os : List Order
    os = orders (keep (on_machine i) s.tasks)

    other : is_ending t.phase ≡ true → some (is_order t.id) os ≡ true → ⊥
    other e p =
        let x = orders_at (keep (on_machine i) s.tasks) t.id p in let k = in_keep (on_machine i) s.tasks x.0 x.1 in
        let c : x.0 ≡ t = rising_one 0 s.tasks h.0 x.0 t k.0 j x.2 in
        true≢false (sym e ∙ (sym (ap (λ (z : Task). is_ending z.phase) c) ∙ x.3))

    pick : (b : Bool) → is_ending t.phase ≡ b → some (is_order t.id) os ≡ not (is_ending t.phase)
    pick false e = orders_has (keep (on_machine i) s.tasks) t (keep_in (on_machine i) s.tasks t j o) e ∙ sym (ap not e)
    pick true e = elim (bool (some (is_order t.id) os)) [ inl p ↦ absurd (other e p) | inr p ↦ p ∙ sym (ap not e) ]

-- after any report of machine i
pub visit_exact : {w v : Scene} (i : ℕ) → Fine w.herd → Visits w v i → ExactIn v i
visit_exact {w} {v} i f vs =
    subst (λ (s : State). Exactly s.tasks (v.ordered i) i) (sym vs.herd) (subst (λ (os : List Order). Exactly (settle (told w v i vs)).tasks os i) (sym vs.ordered) (orders_exact (settle (told w v i vs)) i (tidy_settle (told w v i vs) (fine_heard i (w.life i) vs.number vs.said w.herd f).tidy)))

-- QUIET STEPS

told_waits : (w v : Scene) (i : ℕ) (vs : Visits w v i) → NoWait w.herd.tasks → NoWait (told w v i vs).tasks
told_waits w v i vs n t j =
    let q = pass_from _ _ (heard_pass i (w.life i) vs.said w.herd.tasks) t j in
    ap (λ (z : Task). is_waiting z.phase) q.4 ∙ ((heard_stay i _ q.0 q.2 q.3).1 ∙ n q.0 q.1)

timed_waits : (time : ℕ) (s : State) → NoWait s.tasks → NoWait (timed time s).tasks
timed_waits time s n t j = let q = pass_from Never Unsured (unsured time s.machines s.tasks) t j in ap (λ (z : Task). is_waiting z.phase) q.4 ∙ pick q.0 q.1 q.2 q.3
  where
    pick : (x : Task) → In x s.tasks → (y : Task) → Unsured x y → is_waiting y.phase ≡ false
    pick x k y (inl e) = ap (λ (z : Task). is_waiting z.phase) e ∙ n x k
    pick x k y (inr e) = ap (λ (z : Task). is_waiting z.phase) e.1 ∙ told_not_waiting

-- nothing waits after a quiet pass
visit_nowait : {w v : Scene} (i : ℕ) → Going w → (vs : Visits w v i) → Quiet (told w v i vs) → Roomy v.herd → NoWait v.herd.tasks
visit_nowait {w} {v} i g vs q r =
    let f = g.sound.fine in
    subst (λ (s : State). NoWait s.tasks) (sym vs.herd) (no_wait (told w v i vs) (fine_heard i _ _ _ w.herd f) q (steady_pass _ _ (went_as i _) w.herd (told w v i vs) refl (hear_pass i _ _ vs.ready w.herd.tasks) g.steady) (subst Roomy vs.herd r))

tick_nowait : {w v : Scene} → Going w → (ts : Ticks w v) → Quiet (timed ts.time w.herd) → Roomy v.herd → NoWait v.herd.tasks
tick_nowait {w} {v} g ts q r =
    let f = g.sound.fine in let u = timed ts.time w.herd in
    subst (λ (s : State). NoWait s.tasks) (sym ts.herd) (no_wait u (fine_timed ts.time w.herd f) q (steady_pass _ _ unsured_as w.herd u refl (unsured ts.time w.herd.machines w.herd.tasks) g.steady) (subst Roomy ts.herd r))

-- and where nothing waited before, the pass did nothing at all
visit_same : {w v : Scene} (i : ℕ) → (vs : Visits w v i) → Quiet (told w v i vs) → NoWait w.herd.tasks → v.herd ≡ told w v i vs
visit_same {w} {v} i vs q n = vs.herd ∙ quiet_same (told w v i vs) q (keep_none _ (told w v i vs).tasks (told_waits w v i vs n))

tick_same : {w v : Scene} → (ts : Ticks w v) → Quiet (timed ts.time w.herd) → NoWait w.herd.tasks → v.herd ≡ timed ts.time w.herd
tick_same {w} {v} ts q n = ts.herd ∙ quiet_same (timed ts.time w.herd) q (keep_none _ (timed ts.time w.herd).tasks (timed_waits ts.time w.herd n))

pub tick_tasks : {w v : Scene} → Going w → (ts : Ticks w v) → (timed ts.time w.herd).tasks ≡ w.herd.tasks
tick_tasks {w} {v} g ts = timed_same ts.time w.herd.machines w.herd.tasks g.sound.told (λ m i. ts.stay m i ((g.agreed m i).here m i refl))

exact_still : {ks : List ℕ} {w v : Scene} → Going w → NoWait w.herd.tasks → Still ks w v → (i : ℕ) → ExactIn w i ⊎ In i ks → ExactIn v i
exact_still {w = w} {v = v} g n (visit_s k vs q) i o = pick (eqb i k) refl o
  where
    pick : (b : Bool) → eqb i k ≡ b → ExactIn w i ⊎ In i (k ∷ []) → ExactIn v i
    pick true e h = subst (ExactIn v) (sym (eqb-true i k e)) (visit_exact k g.sound.fine vs)
    pick false e (inr (inl h)) = absurd (eqb-false i k e h)
    pick false e (inr (inr h)) = absurd h
    pick false e (inl h) = λ t j m. ap (some (is_order t.id)) (vs.others i e) ∙ h t (heard_other k i (w.life k) vs.said w.herd.tasks e t (subst (λ (s : State). In t s.tasks) (visit_same k vs q n) j) m) m
exact_still {w = w} {v = v} g n (tick_s ts q) i (inr h) = absurd h
exact_still {w = w} {v = v} g n (tick_s ts q) i (inl h) = λ t j m. ap (some (is_order t.id)) (ts.ordered i) ∙ h t (subst (λ (xs : List Task). In t xs) (tick_tasks g ts) (subst (λ (s : State). In t s.tasks) (tick_same ts q n) j)) m
exact_still g n (stays_s ss) i (inr h) = absurd h
exact_still g n (stays_s ss) i (inl h) = λ t j m. ap (some (is_order t.id)) (ss.ordered i) ∙ h t (subst (λ (s : State). In t s.tasks) ss.herd j) m

pub ready_is : is_ready_lem Ready ≡ true
ready_is = refl

ready_still : {ks : List ℕ} {w v : Scene} → Going w → NoWait w.herd.tasks → Still ks w v → (i : ℕ) → ExactIn w i → ReadyIn w i ⊎ In i ks → ReadyIn v i
ready_still {w = w} {v = v} g n (visit_s k vs q) i x o = pick (eqb i k) refl o
  where
    xs : List Seen
    xs = vs.said

    same_one : (j : ℕ) → some (is_seen j) xs ≡ some (is_order j) (w.ordered k)
    same_one j = vs.seen j

    heard_one : ExactIn w k → (t : Task) → on_machine k t ≡ true → (a : Task) → In a w.herd.tasks → (y : Task) → Went k xs a y → t ≡ y → is_ready_lem t.phase ≡ true
    heard_one ex t m a j y (inl h) e = clash (on_machine k t) m (ap (on_machine k) (e ∙ h.1) ∙ h.0)
    heard_one ex t m a j y (inr (p, inl h)) e = clash (some (is_seen a.id) xs) h.1 (same_one a.id ∙ (ex a j p ∙ ap not h.0))
    heard_one ex t m a j y (inr (p, inr h)) e =
        ap (λ (z : Task). is_ready_lem z.phase) (e ∙ h.1) ∙ (ap (λ (b : Bool). is_ready_lem (cond b Ready Told)) (same_one a.id ∙ (ex a j p ∙ ap not h.0)) ∙ ready_is)

    pick : (b : Bool) → eqb i k ≡ b → ReadyIn w i ⊎ In i (k ∷ []) → ReadyIn v i
    pick true e h =
        subst (ReadyIn v) (sym (eqb-true i k e)) (λ t j m. let z = pass_from _ _ (hear_pass k (w.life k) xs vs.ready w.herd.tasks) t (subst (λ (s : State). In t s.tasks) (visit_same k vs q n) j) in
        heard_one (subst (ExactIn w) (eqb-true i k e) x) t m z.0 z.1 z.2 z.3 z.4)
    pick false e (inr (inl h)) = absurd (eqb-false i k e h)
    pick false e (inr (inr h)) = absurd h
    pick false e (inl h) = λ t j m. h t (heard_other k i (w.life k) vs.said w.herd.tasks e t (subst (λ (s : State). In t s.tasks) (visit_same k vs q n) j) m) m
ready_still {w = w} {v = v} g n (tick_s ts q) i x (inr h) = absurd h
ready_still {w = w} {v = v} g n (tick_s ts q) i x (inl h) = λ t j m. h t (subst (λ (xs : List Task). In t xs) (tick_tasks g ts) (subst (λ (s : State). In t s.tasks) (tick_same ts q n) j)) m
ready_still g n (stays_s ss) i x (inr h) = absurd h
ready_still g n (stays_s ss) i x (inl h) = λ t j m. h t (subst (λ (s : State). In t s.tasks) ss.herd j) m

still_nowait : {ks : List ℕ} {w v : Scene} → Going w → NoWait w.herd.tasks → Roomy v.herd → Still ks w v → NoWait v.herd.tasks
still_nowait g n r (visit_s k vs q) = visit_nowait k g vs q r
still_nowait g n r (tick_s ts q) = tick_nowait g ts q r
still_nowait g n r (stays_s ss) = subst (λ (s : State). NoWait s.tasks) (sym ss.herd) n

abbrev pub Numbers : State → Type 0
Numbers s = s.next_id < 4611686018427387904

still_quiet : {ks : List ℕ} {w v : Scene} → NoWait w.herd.tasks → Still ks w v → Quiet w.herd ⊎ ((i : ℕ) × In i ks) → Quiet v.herd
still_quiet n (visit_s k vs q) o = subst Quiet (sym (visit_same k vs q n)) q
still_quiet n (tick_s ts q) o = subst Quiet (sym (tick_same ts q n)) q
still_quiet n (stays_s ss) (inl h) = subst Quiet (sym ss.herd) h
still_quiet n (stays_s ss) (inr h) = absurd h.1

-- RUNS

pub in_app : {A : Type 0} (a : A) (xs ys : List A) → In a (xs ++ ys) → In a xs ⊎ In a ys
in_app a [] ys i = inr i
in_app a (x ∷ xs) ys (inl e) = inl (inl e)
in_app a (x ∷ xs) ys (inr i) = elim (in_app a xs ys i) [ inl j ↦ inl (inr j) | inr j ↦ inr j ]

pub going_run : {P : State → Type 0} {ks : List ℕ} {w v : Scene} → Moves P ks w v → Going w → Going v
going_run (stop w) g = g
going_run (go c r rest) g = going_run rest (going_move g c)

pub runs_le : {P : State → Type 0} {ks : List ℕ} {w v : Scene} → Moves P ks w v → Going w → left v ≤ left w
runs_le (stop w) g = le_refl _
runs_le (go c r rest) g = le_trans (runs_le rest (going_move g c)) (move_le g c)

pub back_run : {P : State → Type 0} {ks : List ℕ} {w v : Scene} → Moves P ks w v → (m : Machine) → In m v.herd.machines → (x : Machine) × In x w.herd.machines × (m.num ≡ x.num)
back_run (stop w) m i = (m, i, refl)
back_run (go c r rest) m i = let a = back_run rest m i in let b = machines_back c a.0 a.1 in (b.0, b.1, a.2 ∙ b.2)

pub on_run : {P : State → Type 0} {ks : List ℕ} {w v : Scene} → Moves P ks w v → (m : Machine) → In m w.herd.machines → (x : Machine) × In x v.herd.machines
on_run (stop w) m i = (m, i)
on_run (go c r rest) m i = let a = machines_on c m i in on_run rest a.0 a.1

pub record Outcome (ks : List ℕ) (w v : Scene) : Type 0 where
  pub exact : (i : ℕ) → ExactIn w i ⊎ In i ks → ExactIn v i
  pub ready : (i : ℕ) → ExactIn w i → ReadyIn w i ⊎ In i ks → ReadyIn v i
  pub nowait : NoWait v.herd.tasks
  pub quiet : (Quiet w.herd × Numbers w.herd) ⊎ ((i : ℕ) × In i ks) → Quiet v.herd × Numbers v.herd

-- not less in all is not less in the first step
not_less : {ks ls : List ℕ} {w u v : Scene} → Going w → (c : Move ks w u) → Moves Roomy ls u v → left w ≤ left v → Still ks w u
not_less {ks} {w = w} {u = u} {v = v} g c rest l = pick (move_falls g c)
  where
    pick : (left u < left w) ⊎ Still ks w u → Still ks w u
    pick (inl h) = let k : left v ≤ left u = runs_le rest (going_move g c) in absurd (omega arith)
    pick (inr s) = s

pub quiet_run : {ks : List ℕ} {w v : Scene} → Moves Roomy ks w v → Going w → left w ≤ left v → NoWait w.herd.tasks → Outcome ks w v
quiet_run (stop w) g l n = record { exact = λ i o. elim o [ inl h ↦ h | inr h ↦ absurd h ]; ready = λ i x o. elim o [ inl h ↦ h | inr h ↦ absurd h ]; nowait = n; quiet = λ o. elim o [ inl h ↦ h | inr h ↦ absurd h.1 ] }
quiet_run (go {ks = ks} {ls = ls} {w = w} {u = u} {v = v} c r rest) g l n = join (quiet_run rest (going_move g c) (le_trans (move_le g c) l) (still_nowait g n r (not_less g c rest l)))
  where
    s : Still ks w u
    s = not_less g c rest l

    join : Outcome ls u v → Outcome (ks ++ ls) w v
    join o = record { exact = exact; ready = ready; nowait = o.nowait; quiet = quiet }
      where
        exact : (i : ℕ) → ExactIn w i ⊎ In i (ks ++ ls) → ExactIn v i
        exact i (inl h) = o.exact i (inl (exact_still g n s i (inl h)))
        exact i (inr h) = elim (in_app i ks ls h) [ inl j ↦ o.exact i (inl (exact_still g n s i (inr j))) | inr j ↦ o.exact i (inr j) ]

        ready : (i : ℕ) → ExactIn w i → ReadyIn w i ⊎ In i (ks ++ ls) → ReadyIn v i
        ready i x (inl h) = o.ready i (exact_still g n s i (inl x)) (inl (ready_still g n s i x (inl h)))
        ready i x (inr h) = elim (in_app i ks ls h) [ inl j ↦ o.ready i (exact_still g n s i (inl x)) (inl (ready_still g n s i x (inr j))) | inr j ↦ o.ready i (exact_still g n s i (inl x)) (inr j) ]

        quiet : (Quiet w.herd × Numbers w.herd) ⊎ ((i : ℕ) × In i (ks ++ ls)) → Quiet v.herd × Numbers v.herd
        quiet (inl h) = o.quiet (inl (still_quiet n s (inl h.0), r.0))
        quiet (inr (i, h)) = elim (in_app i ks ls h) [ inl j ↦ o.quiet (inl (still_quiet n s (inr (i, j)), r.0)) | inr j ↦ o.quiet (inr (i, j)) ]

-- the same without knowing that nothing waits at first: of those that report
pub record First (ks : List ℕ) (v : Scene) : Type 0 where
  pub exact : (i : ℕ) → In i ks → ExactIn v i
  pub nowait : (i : ℕ) → In i ks → NoWait v.herd.tasks

pub first_run : {ks : List ℕ} {w v : Scene} → Moves Roomy ks w v → Going w → left w ≤ left v → First ks v
first_run (stop w) g l = record { exact = λ i h. absurd h; nowait = λ i h. absurd h }
first_run (go {ks = ks} {ls = ls} {w = w} {u = u} {v = v} c r rest) g l = pick (not_less g c rest l) rest (first_run rest (going_move g c) (le_trans (move_le g c) l))
  where
    after : NoWait u.herd.tasks → Outcome ls u v
    after n = quiet_run rest (going_move g c) (le_trans (move_le g c) l) n

    pick : {ms : List ℕ} → Still ms w u → Moves Roomy ls u v → First ls v → First (ms ++ ls) v
    pick (visit_s k vs q) rs f =
        let n = visit_nowait k g vs q r in let o = after n in
        record { exact = λ i h. elim h [ inl e ↦ o.exact i (inl (subst (ExactIn u) (sym e) (visit_exact k g.sound.fine vs))) | inr j ↦ o.exact i (inr j) ]; nowait = λ i h. o.nowait }
    pick (tick_s ts q) rs f = f
    pick (stays_s ss) rs f = f

-- TWO ROUNDS

pub two_rounds : (w u v : Scene) → Going w → (m : Machine) → In m w.herd.machines → Turn Roomy w u → Turn Roomy u v → (left v < left w) ⊎ Resting v.herd
two_rounds w u v g m mi (ks, ra, ca) (ls, rb, cb) = elim (bool (ltb (left v) (left w))) [ inl p ↦ inl (ltb-true _ _ p) | inr p ↦ inr (rests (ltb-false _ _ p)) ]
  where
    gu : Going u
    gu = going_run ra g

    gv : Going v
    gv = going_run rb gu

    rests : left w ≤ left v → Resting v.herd
    rests l = stuck_rests v.herd q.0 ready gv.steady.lawful gv.steady.mosts q.1
      where
        f : First ks u
        f = first_run ra g (le_trans l (runs_le rb gu))

        o : Outcome ls u v
        o = quiet_run rb gu (le_trans (runs_le ra g) l) (f.nowait m.num (in_from (ca m (in_to m w.herd.machines mi))))

        mu : (x : Machine) × In x u.herd.machines
        mu = on_run ra m mi

        q : Quiet v.herd × Numbers v.herd
        q = o.quiet (inr (mu.0.num, in_from (cb mu.0 (in_to mu.0 u.herd.machines mu.1))))

        ready : (t : Task) → In t v.herd.tasks → is_ready_lem t.phase ≡ true
        ready t i =
            let w' = o.nowait t i in
            let x = gv.sound.told t i w' in
            let b = back_run rb x.0 x.1 in let a = back_run ra b.0 b.1 in
            let k : In b.0.num ls = in_from (cb b.0 (in_to b.0 u.herd.machines b.1)) in
            let j : In a.0.num ks = in_from (ca a.0 (in_to a.0 w.herd.machines a.1)) in
            let e : ExactIn u b.0.num = f.exact b.0.num (subst (λ (n : ℕ). In n ks) (sym a.2) j) in
            o.ready b.0.num e (inr k) t i (and_from _ _ (ap not w') (eq-eqb b.0.num t.machine (sym b.2 ∙ x.2)))
