-- One job at rest: where nothing is to be done for it and all its tasks are ready; and that it stays so.
-- Assumes nothing.
use Rattle.std.proofs.Common.{◌≡◌, ℕ, zero, suc, ◌+◌, ◌*◌, ◌<◌, ◌≤◌, Bool, true, false, cond, not, ◌&&◌, ltb, eqb, ◌⊎◌, List, [], length, sym, ap, ◌∙◌, subst, inl, inr, arith}
use Rattle.std.proofs.lemmas.Bool.{true≢false, and_parts, and_from, not-false, ltb-true, ltb-false, lt-ltb}
use Rattle.model.specs.State.{Machine, Job, Told, Ready, Task, State, is_waiting, is_ready_lem, of_job, phased}
use Rattle.model.specs.Lists.{keep, same}
use Rattle.model.specs.Settle.{mine, alive, new_ones, old_ones, ready_ones, to_end_lem, settle}
use Rattle.model.specs.Calls.{timed}
use Rattle.rest.specs.Rounds.{Roomy}
use Rattle.rest.specs.Rest.{is_alive, is_new}
use Rattle.rest.specs.Sooner.{widest, strays}
use Rattle.model.proofs.Lists.{clash, bool, In, in_keep, keep_in}
use Rattle.model.proofs.Tasks.{waiting_not_ready}
use Rattle.model.proofs.Settles.{Fine}
use Rattle.model.proofs.Acts.{fine_heard, fine_timed}
use Rattle.rest.proofs.Steps.{to_end_none, keep_all, kept_none}
use Rattle.rest.proofs.Lacks.{count_le, news}
use Rattle.rest.proofs.Falls.{ready_alive}
use Rattle.rest.proofs.Stuck.{Lawful, split, no_length}
use Rattle.rest.proofs.Origins.{Went, hear_pass}
use Rattle.rest.proofs.Knows.{lives, Ended, lost_ends, went_as}
use Rattle.rest.proofs.Scenes.{Scene, told, Visits, Move, visit, tick, stays, Moves, stop, go, Turns}
use Rattle.rest.proofs.Comes.{KnownIn, Going, going_move, visitor}
use Rattle.rest.proofs.Quiets.{tick_tasks, going_run, on_run}
use Rattle.rest.proofs.Rests.{ready_ready}
use Rattle.rest.proofs.Own.{keep_pass, own, owns, left_of, owns_mine, news_mine}
use Rattle.rest.proofs.OwnPass.{seen_at_by, StillIn}
use Rattle.rest.proofs.OwnMoves.{Fit, settle_at, fit_told, fit_timed, fit_move, same_of}
use Rattle.rest.proofs.OwnQuiet.{fit_run, two_rounds_of}

pub record RestOf (j : Job) (s : State) : Type 0 where
  pub ready : (t : Task) → In t s.tasks → of_job j.name t ≡ true → is_ready_lem t.phase ≡ true
  pub version : (t : Task) → In t s.tasks → of_job j.name t ≡ true → eqb t.version j.version ≡ true
  pub exact : length (mine j s.tasks) ≡ j.count

-- WHERE NOTHING IS TO BE DONE

module _ (s : State) (j : Job) (lawful : Lawful j) (still : StillIn j s) (ready : (t : Task) → In t s.tasks → of_job j.name t ≡ true → is_ready_lem t.phase ≡ true) where
  abbrev xs : List Task
  xs = mine j s.tasks

  abbrev nw : ℕ
  nw = length (new_ones j (alive xs))

  abbrev od : ℕ
  od = length (old_ones j (alive xs))

  its_ready : (t : Task) → In t xs → is_ready_lem t.phase ≡ true
  its_ready t k = let a = in_keep (of_job j.name) s.tasks t k in ready t a.0 a.1

  all_ready : ready_ones xs ≡ xs
  all_ready = keep_all (λ (t : Task). is_ready_lem t.phase) xs its_ready

  all_alive : alive xs ≡ xs
  all_alive = keep_all is_alive xs (λ t k. ap not (ready_alive t.phase (its_ready t k)))

  some_ready : (f : Task → Bool) → ready_ones (keep f (alive xs)) ≡ keep f (alive xs)
  some_ready f = keep_all (λ (t : Task). is_ready_lem t.phase) (keep f (alive xs)) (λ t k. its_ready t (in_keep is_alive xs t (in_keep f (alive xs) t k).0).0)

  parts : length xs ≡ nw + od
  parts = ap length (sym all_alive) ∙ split (λ (t : Task). eqb t.version j.version) (alive xs)

  none_left : (f : Task → Bool) → to_end_lem (seen_at_by s.now s.machines) j xs (keep f (alive xs)) ≡ [] → j.least < length xs → length (keep f (alive xs)) ≡ 0
  none_left f e l = ap length (sym (some_ready f) ∙ (to_end_none (seen_at_by s.now s.machines) j xs (keep f (alive xs)) e).1 (subst (λ (ys : List Task). j.least < length ys) (sym all_ready) l))

  old_or : (length xs ≤ j.least) ⊎ (od ≡ 0)
  old_or = elim (bool (ltb j.least (length xs))) [ inl p ↦ inr (none_left (λ (t : Task). not (eqb t.version j.version)) still.0 (ltb-true _ _ p)) | inr p ↦ inl (ltb-false _ _ p) ]

  new_or : (nw ≤ j.count) × (ltb nw j.count && ltb (length xs) j.most ≡ false)
  new_or = pick still.1
    where
      pick : ((ltb j.count nw ≡ true) × (to_end_lem (seen_at_by s.now s.machines) j xs (new_ones j (alive xs)) ≡ [])) ⊎ ((ltb j.count nw ≡ false) × (ltb nw j.count && ltb (length xs) j.most ≡ false)) → (nw ≤ j.count) × (ltb nw j.count && ltb (length xs) j.most ≡ false)
      pick (inr h) = (ltb-false _ _ h.0, h.1)
      pick (inl h) =
          let a : j.count < nw = ltb-true _ _ h.0 in let p : length xs ≡ nw + od = parts in let b : j.least ≤ j.count = lawful.0 in
          let c : nw ≡ 0 = none_left (λ (t : Task). eqb t.version j.version) h.1 (omega arith) in absurd (omega arith)

  grows : nw < j.count → length xs < j.most → ⊥
  grows a b = true≢false (sym (and_from _ _ (lt-ltb nw j.count a) (lt-ltb (length xs) j.most b)) ∙ new_or.1)

  settled_of : (od ≡ 0) × (nw ≡ j.count)
  settled_of = pick parts new_or.0 lawful.0 lawful.1 lawful.2 (bool (ltb nw j.count)) (bool (ltb (length xs) j.most)) old_or
    where
      pick : length xs ≡ nw + od → nw ≤ j.count → j.least ≤ j.count → j.count ≤ j.most → (j.count < j.most) ⊎ ((j.least < j.count) ⊎ (j.count ≡ 0)) → (ltb nw j.count ≡ true) ⊎ (ltb nw j.count ≡ false) → (ltb (length xs) j.most ≡ true) ⊎ (ltb (length xs) j.most ≡ false) → (length xs ≤ j.least) ⊎ (od ≡ 0) → (od ≡ 0) × (nw ≡ j.count)
      pick p n b c d (inl x) (inl y) o = absurd (grows (ltb-true _ _ x) (ltb-true _ _ y))
      pick p n b c d (inl x) (inr y) (inr o) = let x' : nw < j.count = ltb-true _ _ x in let y' : j.most ≤ length xs = ltb-false _ _ y in absurd (omega arith)
      pick p n b c (inl d) (inl x) (inr y) (inl o) = let x' : nw < j.count = ltb-true _ _ x in let y' : j.most ≤ length xs = ltb-false _ _ y in absurd (omega arith)
      pick p n b c (inr (inl d)) (inl x) (inr y) (inl o) = let x' : nw < j.count = ltb-true _ _ x in let y' : j.most ≤ length xs = ltb-false _ _ y in absurd (omega arith)
      pick p n b c (inr (inr d)) (inl x) (inr y) (inl o) = let x' : nw < j.count = ltb-true _ _ x in absurd (omega arith)
      pick p n b c d (inr x) y (inl o) = let x' : j.count ≤ nw = ltb-false _ _ x in (omega arith, omega arith)
      pick p n b c d (inr x) y (inr o) = let x' : j.count ≤ nw = ltb-false _ _ x in (o, omega arith)

  pub stuck_of : RestOf j s
  stuck_of = record { ready = ready; version = version; exact = let p : length xs ≡ nw + od = parts in let a : od ≡ 0 = settled_of.0 in let b : nw ≡ j.count = settled_of.1 in omega arith }
    where
      version : (t : Task) → In t s.tasks → of_job j.name t ≡ true → eqb t.version j.version ≡ true
      version t k e =
          let z : od ≡ 0 = settled_of.0 in
          not-false _ (kept_none (λ (x : Task). not (eqb x.version j.version)) (alive xs) (no_length _ (omega arith)) t (keep_in is_alive xs t (keep_in (of_job j.name) s.tasks t k e) (ap not (ready_alive t.phase (ready t k e)))))

-- WHAT IS LEFT TO DO IS NEVER LESS THAN WHAT IS WANTED, and no more at rest

pub low_of : (j : Job) (ts : List Task) → j.count ≤ left_of j ts
unfolding left_of
low_of j ts = let a : news j ts ≤ owns j ts = count_le (own j) (is_new j) ts (λ x i e. (and_parts (own j x) (eqb x.version j.version) e).0) in omega arith

rest_left : (j : Job) (s : State) → RestOf j s → left_of j s.tasks ≤ j.count
unfolding left_of
rest_left j s r =
    let a : alive (mine j s.tasks) ≡ mine j s.tasks = keep_all is_alive (mine j s.tasks) (λ t k. let x = in_keep (of_job j.name) s.tasks t k in ap not (ready_alive t.phase (r.ready t x.0 x.1))) in
    let b : new_ones j (mine j s.tasks) ≡ mine j s.tasks = keep_all (λ (t : Task). eqb t.version j.version) (mine j s.tasks) (λ t k. let x = in_keep (of_job j.name) s.tasks t k in r.version t x.0 x.1) in
    let o : owns j s.tasks ≡ j.count = sym (owns_mine j s.tasks) ∙ (ap length a ∙ r.exact) in
    let n : news j s.tasks ≡ j.count = sym (news_mine j s.tasks) ∙ (ap (λ (ys : List Task). length (new_ones j ys)) a ∙ (ap length b ∙ r.exact)) in omega arith

-- IT STAYS SO

rest_same : (j : Job) (s u : State) → mine j u.tasks ≡ mine j s.tasks → RestOf j s → RestOf j u
rest_same j s u e r =
    let to : (t : Task) → In t u.tasks → of_job j.name t ≡ true → In t s.tasks = λ t i o. (in_keep (of_job j.name) s.tasks t (subst (In t) e (keep_in (of_job j.name) u.tasks t i o))).0 in
    record { ready = λ t i o. r.ready t (to t i o) o; version = λ t i o. r.version t (to t i o) o; exact = ap length e ∙ r.exact }

module _ (js : List Job) (at : List Task) (room : widest js at + strays js at ≤ 2048) (j : Job) (ji : In j js) where
  rest_pass : (u : State) → Fine u → Fit js at u → RestOf j u → mine j (settle u).tasks ≡ mine j u.tasks
  rest_pass u f h r =
      elim (settle_at js at room j ji u f h).falls [
        | inl l ↦ let a : left_of j u.tasks ≤ j.count = rest_left j u r in let b : j.count ≤ left_of j (settle u).tasks = low_of j (settle u).tasks in absurd (omega arith)
        | inr q ↦ same_of u f j q.0 (λ t i o. elim (bool (is_waiting t.phase)) [ inl w ↦ clash (is_ready_lem t.phase) (r.ready t i o) (waiting_not_ready t.phase w) | inr w ↦ w ])
      ]

  heard_mine : {w v : Scene} (i : ℕ) → Going w → (vs : Visits w v i) → RestOf j w.herd → mine j (told w v i vs).tasks ≡ mine j w.herd.tasks
  heard_mine {w} {v} i g vs r =
      keep_pass Ended (Went i vs.said) (of_job j.name) (lost_ends i (w.life i) vs.said (hear_pass i (w.life i) vs.said vs.ready w.herd.tasks) (lives w.herd (w.life i) (w.ordered i) i g.sound.told k)) lost
      (λ x y n h. ap (same j.name) (went_as i vs.said x y h).0) same_one
    where
      k : KnownIn w i
      k = visitor i g vs

      lost : (x : Task) → In x w.herd.tasks → Ended x → of_job j.name x ≡ false
      lost x n e = elim (bool (of_job j.name x)) [ inl o ↦ absurd (true≢false (sym e ∙ ready_alive x.phase (r.ready x n o))) | inr o ↦ o ]

      same_one : (x y : Task) → In x w.herd.tasks → Went i vs.said x y → of_job j.name x ≡ true → y ≡ x
      same_one x y n (inl h) o = h.1
      same_one x y n (inr (m, inl h)) o = h.2
      same_one x y n (inr (m, inr h)) o = h.1 ∙ (ap (λ (b : Bool). phased (cond b Ready Told) x) (vs.seen x.id ∙ k.ready x n m (r.ready x n o)) ∙ ready_ready x (r.ready x n o))

  rest_move_of : {ks : List ℕ} {w v : Scene} → Going w → Fit js at w.herd → Move ks w v → RestOf j w.herd → RestOf j v.herd
  rest_move_of {w = w} {v = v} g h (visit i vs snd) r =
      let u = told w v i vs in let q = rest_same j w.herd u (heard_mine i g vs r) r in
      subst (RestOf j) (sym vs.herd) (rest_same j u (settle u) (rest_pass u (fine_heard i _ _ _ w.herd g.sound.fine) (fit_told js at i vs h) q) q)
  rest_move_of {w = w} g h (tick ts snd) r =
      let u = timed ts.time w.herd in let q = rest_same j w.herd u (ap (mine j) (tick_tasks g ts)) r in
      subst (RestOf j) (sym ts.herd) (rest_same j u (settle u) (rest_pass u (fine_timed ts.time w.herd g.sound.fine) (fit_timed js at ts.time w.herd h) q) q)
  rest_move_of g h (stays ss snd) r = subst (RestOf j) (sym ss.herd) r

  rest_run_of : {P : State → Type 0} {ks : List ℕ} {w v : Scene} → Moves P ks w v → Going w → Fit js at w.herd → RestOf j w.herd → RestOf j v.herd
  rest_run_of (stop w) g h r = r
  rest_run_of (go c p rest) g h r = rest_run_of rest (going_move g c) (fit_move js at g.sound.fine h c) (rest_move_of g h c r)

  rest_rounds_of : {P : State → Type 0} {n : ℕ} {w v : Scene} → Turns P n w v → Going w → Fit js at w.herd → RestOf j w.herd → RestOf j v.herd
  rest_rounds_of (Turns.none w) g h r = r
  rest_rounds_of (Turns.more ro rest) g h r = rest_rounds_of rest (going_run ro.1 g) (fit_run js at room j ji ro.1 g h) (rest_run_of ro.1 g h r)

  -- IT COMES TO REST

  pub comes_of : (k : ℕ) {n : ℕ} {w v : Scene} → Turns Roomy n w v → Going w → Fit js at w.herd → (m : Machine) → In m w.herd.machines → left_of j w.herd.tasks ≤ k + j.count → 2 * k + 2 ≤ n → RestOf j v.herd
  comes_of k (Turns.none w) g h m i l b = absurd (omega arith)
  comes_of k (Turns.more ra (Turns.none u)) g h m i l b = absurd (omega arith)
  comes_of k (Turns.more {n = n₁} {w = w} {u = u} ra (Turns.more {n = n} {u = x} {v = v} rb rest)) g h m i l b = pick k l b (λ k'. comes_of k' rest gx hx mx.0 mx.1) (two_rounds_of js at room j ji w u x g h m i ra rb)
    where
      gx : Going x
      gx = going_run rb.1 (going_run ra.1 g)

      hx : Fit js at x.herd
      hx = fit_run js at room j ji rb.1 (going_run ra.1 g) (fit_run js at room j ji ra.1 g h)

      mu : (y : Machine) × In y u.herd.machines
      mu = on_run ra.1 m i

      mx : (y : Machine) × In y x.herd.machines
      mx = on_run rb.1 mu.0 mu.1

      pick : (c : ℕ) → left_of j w.herd.tasks ≤ c + j.count → 2 * c + 2 ≤ suc (suc n) → ((k' : ℕ) → left_of j x.herd.tasks ≤ k' + j.count → 2 * k' + 2 ≤ n → RestOf j v.herd) → (left_of j x.herd.tasks < left_of j w.herd.tasks) ⊎ (StillIn j x.herd × ((t : Task) → In t x.herd.tasks → of_job j.name t ≡ true → is_ready_lem t.phase ≡ true)) → RestOf j v.herd
      pick c a d rec (inr r) = rest_rounds_of rest gx hx (stuck_of x.herd j (gx.steady.lawful j (subst (λ (ks : List Job). In j ks) (sym hx.jobs) ji)) r.0 r.1)
      pick zero a d rec (inl e) = let z : j.count ≤ left_of j x.herd.tasks = low_of j x.herd.tasks in absurd (omega arith)
      pick (suc c) a d rec (inl e) = rec c (omega arith) (omega arith)
