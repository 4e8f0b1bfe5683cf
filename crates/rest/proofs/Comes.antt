-- Two rounds in which nothing more is done leave all ready, and so at rest.
-- Assumes nothing.
use Rattle.std.proofs.Common.{◌≡◌, ℕ, ◌<◌, ◌≤◌, Bool, true, false, eqb, ◌⊎◌, List, [], ◌∷◌, sym, refl, subst, inl, inr, le_trans, le_refl, arith}
use Rattle.std.proofs.lemmas.Bool.{eqb-true, eqb-false}
use Rattle.model.specs.State.{Machine, Job, State, is_machine}
use Rattle.model.specs.Settle.{settle}
use Rattle.model.specs.Calls.{Order, timed}
use Rattle.rest.specs.Rest.{to_do}
use Rattle.model.proofs.Lists.{In, pass_change, find_in, pass_to}
use Rattle.model.proofs.Settles.{unplaced_alike, once_job, Fine}
use Rattle.model.proofs.Acts.{fine_heard, fine_timed}
use Rattle.model.proofs.Keeps.{Sound, heard_firm}
use Rattle.rest.proofs.Falls.{Quiet, settle_falls, settle_le}
use Rattle.rest.proofs.Stuck.{OneName}
use Rattle.rest.proofs.Origins.{hear_pass}
use Rattle.rest.proofs.Scenes.{Scene, left, told, Visits, Ticks, Sames, Move, visit, tick, stays, sound_move}
use Rattle.rest.proofs.Knows.{Known, known_settle, known_self, known_other, unsured, known_timed, lives, lost_ends, heard_le, timed_le, Steady, steady_settle, steady_pass, went_as, unsured_as}

-- KNOWN IN A WORLD

abbrev pub KnownIn : Scene → ℕ → Type 0
KnownIn w i = Known w.herd (w.life i) (w.ordered i) i

known_as : (i : ℕ) {s u : State} {k l : ℕ} {os ps : List Order} → u ≡ s → l ≡ k → ps ≡ os → Known s k os i → Known u l ps i
known_as i {s} {u} {k} {l} {os} {ps} p q r h = subst (λ (x : State). Known x l ps i) (sym p) (subst (λ (x : ℕ). Known s x ps i) (sym q) (subst (λ (x : List Order). Known s k x i) (sym r) h))

pub known_move : {ks : List ℕ} {w v : Scene} → Fine w.herd → Move ks w v → (i : ℕ) → KnownIn w i ⊎ In i ks → KnownIn v i
known_move {w = w} {v = v} f (visit k vs snd) i o = pick (eqb i k) refl o
  where
    u : State
    u = told w v k vs

    pick : (b : Bool) → eqb i k ≡ b → KnownIn w i ⊎ In i (k ∷ []) → KnownIn v i
    pick true e h = subst (λ (j : ℕ). KnownIn v j) (sym (eqb-true i k e)) (known_as k vs.herd vs.life vs.ordered (known_self w.herd f k (w.life k) vs.number vs.said vs.machine vs.rest vs.found vs.clock))
    pick false e (inr (inl h)) = absurd (eqb-false i k e h)
    pick false e (inr (inr h)) = absurd h
    pick false e (inl h) =
        known_as i vs.herd (vs.lives i e) (vs.others i e) (known_settle u (w.life i) (w.ordered i) i (fine_heard k (w.life k) vs.number vs.said w.herd f).tidy (known_other w.herd k i (w.life k) vs.number vs.said (w.life i) (w.ordered i) e h))
known_move {w = w} {v = v} f (tick ts snd) i (inr h) = absurd h
known_move {w = w} {v = v} f (tick ts snd) i (inl h) =
    known_as i ts.herd (ts.life i) (ts.ordered i) (known_settle (timed ts.time w.herd) _ _ i (fine_timed ts.time w.herd f).tidy (known_timed w.herd ts.time _ _ i ts.stay h))
known_move f (stays ss snd) i (inr h) = absurd h
known_move f (stays ss snd) i (inl h) = known_as i ss.herd (ss.life i) (ss.ordered i) h

-- MACHINES STAY, BY THEIR NUMBERS

settled_machines : (u : State) → (settle u).machines ≡ u.machines
settled_machines u = (unplaced_alike u).1

pub machines_back : {ks : List ℕ} {w v : Scene} → Move ks w v → (m : Machine) → In m v.herd.machines → (x : Machine) × In x w.herd.machines × (m.num ≡ x.num)
machines_back {w = w} {v = v} (visit k vs snd) m i =
    let q = heard_firm k _ _ w.herd.now w.herd.machines m (subst (λ (ms : List Machine). In m ms) (settled_machines (told w v k vs)) (subst (λ (s : State). In m s.machines) vs.herd i)) in (q.0, q.1, q.2)
machines_back {w = w} {v = v} (tick ts snd) m i = (m, subst (λ (ms : List Machine). In m ms) (settled_machines (timed ts.time w.herd)) (subst (λ (s : State). In m s.machines) ts.herd i), refl)
machines_back (stays ss snd) m i = (m, subst (λ (s : State). In m s.machines) ss.herd i, refl)

abbrev NoneM : Machine → Type 0
NoneM m = ⊥

abbrev AnyM : Machine → Machine → Type 0
AnyM m x = Unit {0}

pub machines_on : {ks : List ℕ} {w v : Scene} → Move ks w v → (m : Machine) → In m w.herd.machines → (x : Machine) × In x v.herd.machines
machines_on {w = w} {v = v} (visit k vs snd) m i = pick (pass_to NoneM AnyM (pass_change NoneM AnyM (is_machine k) _ w.herd.machines (λ x j. tt) (λ x j e. tt)) m i)
  where
    pick : ((y : Machine) × In y (told w v k vs).machines × AnyM m y) ⊎ ⊥ → (x : Machine) × In x v.herd.machines
    pick (inl (y, j, r)) = (y, subst (λ (s : State). In y s.machines) (sym vs.herd) (subst (λ (ms : List Machine). In y ms) (sym (settled_machines (told w v k vs))) j))
    pick (inr z) = absurd z
machines_on {w = w} {v = v} (tick ts snd) m i = (m, subst (λ (s : State). In m s.machines) (sym ts.herd) (subst (λ (ms : List Machine). In m ms) (sym (settled_machines (timed ts.time w.herd))) i))
machines_on (stays ss snd) m i = (m, subst (λ (s : State). In m s.machines) (sym ss.herd) i)

-- GOING WELL

pub record Going (w : Scene) : Type 0 where
  pub sound : Sound w.herd
  pub steady : Steady w.herd
  pub agreed : (m : Machine) → In m w.herd.machines → KnownIn w m.num

pub one_of : (s : State) → Fine s → OneName s.jobs
one_of s f = once_job s.jobs f.jobs

pub steady_move : {ks : List ℕ} {w v : Scene} → Fine w.herd → Move ks w v → Steady w.herd → Steady v.herd
steady_move {w = w} {v = v} f (visit k vs snd) h = subst Steady (sym vs.herd) (steady_settle (told w v k vs) (fine_heard k _ _ _ w.herd f) (steady_pass _ _ (went_as k _) w.herd (told w v k vs) refl (hear_pass k _ _ vs.ready w.herd.tasks) h))
steady_move {w = w} f (tick ts snd) h = subst Steady (sym ts.herd) (steady_settle (timed ts.time w.herd) (fine_timed ts.time w.herd f) (steady_pass _ _ unsured_as w.herd (timed ts.time w.herd) refl (unsured ts.time w.herd.machines w.herd.tasks) h))
steady_move f (stays ss snd) h = subst Steady (sym ss.herd) h

pub going_move : {ks : List ℕ} {w v : Scene} → Going w → Move ks w v → Going v
going_move {w = w} {v = v} g m =
    let f = g.sound.fine in
    record {
      sound = sound_move m;
      steady = steady_move f m g.steady;
      agreed = λ x i. let q = machines_back m x i in known_move f m x.num (inl (subst (λ (n : ℕ). KnownIn w n) (sym q.2) (g.agreed q.0 q.1)));
    }

-- LEFT TO DO: IT NEVER GROWS, AND WHERE IT DOESN'T FALL THE PASS WAS QUIET

abbrev pub left_in : State → ℕ
left_in s = to_do s.jobs s.tasks

left_settle : (u : State) → Fine u → (left_in (settle u) < left_in u) ⊎ Quiet u
left_settle u f = subst (λ (js : List Job). (to_do js (settle u).tasks < left_in u) ⊎ Quiet u) (sym (unplaced_alike u).2) (settle_falls u (one_of u f) f.tidy)

left_settle_le : (u : State) → Fine u → left_in (settle u) ≤ left_in u
left_settle_le u f = subst (λ (js : List Job). to_do js (settle u).tasks ≤ left_in u) (sym (unplaced_alike u).2) (settle_le u (one_of u f) f.tidy)

pub data Still : List ℕ → Scene → Scene → Type 0 where
  visit_s : {w v : Scene} (i : ℕ) (vs : Visits w v i) → Quiet (told w v i vs) → Still (i ∷ []) w v
  tick_s : {w v : Scene} → (t : Ticks w v) → Quiet (timed t.time w.herd) → Still [] w v
  stays_s : {w v : Scene} → Sames w v → Still [] w v

-- the machine that reports is known
pub visitor : {w v : Scene} (i : ℕ) → Going w → Visits w v i → KnownIn w i
visitor {w} {v} i g vs = let q = found_in vs in subst (λ (n : ℕ). KnownIn w n) q.1 (g.agreed vs.machine q.0)
  where
    found_in : Visits w v i → In vs.machine w.herd.machines × (vs.machine.num ≡ i)
    found_in z = let r = find_in (is_machine i) w.herd.machines vs.machine vs.rest vs.found in (r.0, sym (eqb-true i vs.machine.num r.1))

heard_left : {w v : Scene} (i : ℕ) → Going w → (vs : Visits w v i) → left_in (told w v i vs) ≤ left w
heard_left {w} {v} i g vs =
    heard_le w.herd.jobs i vs.said (lost_ends i _ _ (hear_pass i (w.life i) vs.said vs.ready w.herd.tasks) (lives w.herd (w.life i) (w.ordered i) i g.sound.told (visitor i g vs)))

pub move_le : {ks : List ℕ} {w v : Scene} → Going w → Move ks w v → left v ≤ left w
move_le {w = w} {v = v} g (visit i vs snd) = subst (λ (s : State). left_in s ≤ left w) (sym vs.herd) (le_trans (left_settle_le (told w v i vs) (fine_heard i _ _ _ w.herd g.sound.fine)) (heard_left i g vs))
move_le {w = w} {v = v} g (tick ts snd) = subst (λ (s : State). left_in s ≤ left w) (sym ts.herd) (le_trans (left_settle_le (timed ts.time w.herd) (fine_timed ts.time w.herd g.sound.fine)) (timed_le w.herd.jobs ts.time w.herd.machines w.herd.tasks))
move_le {w = w} {v = v} g (stays ss snd) = subst (λ (s : State). left_in s ≤ left w) (sym ss.herd) (le_refl _)

pub move_falls : {ks : List ℕ} {w v : Scene} → Going w → Move ks w v → (left v < left w) ⊎ Still ks w v
move_falls {w = w} {v = v} g (visit i vs snd) = pick (left_settle (told w v i vs) (fine_heard i _ _ _ w.herd g.sound.fine))
  where
    pick : (left_in (settle (told w v i vs)) < left_in (told w v i vs)) ⊎ Quiet (told w v i vs) → (left v < left w) ⊎ Still (i ∷ []) w v
    pick (inl l) = inl (subst (λ (s : State). left_in s < left w) (sym vs.herd) (let h : left_in (told w v i vs) ≤ left w = heard_left i g vs in omega arith))
    pick (inr q) = inr (visit_s i vs q)
move_falls {w = w} {v = v} g (tick ts snd) = pick (left_settle u (fine_timed ts.time w.herd g.sound.fine))
  where
    u : State
    u = timed ts.time w.herd

    pick : (left_in (settle u) < left_in u) ⊎ Quiet u → (left v < left w) ⊎ Still [] w v
    pick (inl l) = inl (subst (λ (s : State). left_in s < left w) (sym ts.herd) (let h : left_in u ≤ left w = timed_le w.herd.jobs ts.time w.herd.machines w.herd.tasks in omega arith))
    pick (inr q) = inr (tick_s ts q)
move_falls g (stays ss snd) = inr (stays_s ss)
