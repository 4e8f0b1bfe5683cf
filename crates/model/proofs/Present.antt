-- A ready task is on a machine that is present, at every moment of every run: ready is what a report said, of a machine that was heard of since.
-- Assumes nothing.
use Rattle.std.proofs.Common.{◌≡◌, ℕ, ◌+◌, Bool, true, false, cond, not, ◌&&◌, eqb, leb, ◌⊎◌, List, [], ◌∷◌, map, sym, refl, ap, ◌∙◌, subst, inl, inr, arith}
use Rattle.std.proofs.lemmas.Bool.{false≢true, and_parts, and_from, and_cases, not-true, not-false, eqb-true, le-leb}
use Rattle.model.specs.Lists.{some, find, change}
use Rattle.model.specs.State.{Machine, Job, Phase, Waiting, Told, Ending, Task, State, is_waiting, is_ready_lem, is_machine, on_machine, phased, with_tasks}
use Rattle.model.specs.Settle.{ended, fresh, more, orphans_end, unplaced, settle, present}
use Rattle.model.specs.Calls.{Seen, Call, SetJob, EndJob, AddMachine, Close, Reopen, Forget, Report, Tick, Show, Out, new_machine, heard_from, heard, opened, unsure, later, is_tick, does, unready, down}
use Rattle.model.specs.Always.{AlwaysReadyThere}
use Rattle.model.proofs.Lists.{to_true, from_true, clash, bool, In, in_from, in_to, in_end, in_left, some_at, find_in, in_keep, keep_in, change_hit, change_miss, Pass, pass_change, pass_map, pass_from, pass_to}
use Rattle.model.proofs.Tasks.{waiting_not_ready, jobless, Ends, orphans_pass, ended_pass, MayEnd, step_is, steps_are, Put, Never}
use Rattle.model.proofs.Settles.{Tidy, tidy_pass, tidy_step, orphan_id, EndsOne, unplaced_alike, settle_pass, Fine}
use Rattle.model.proofs.Acts.{Pre, must_from, pre_both, does_timed, heard_pass, HeardAs, fine_pre}
use Rattle.model.proofs.Keeps.{on_machine_lem}
use Rattle.model.proofs.Kin.{reach_herd}

abbrev There : List Machine → ℕ → Task → Type 0
There ms now t = (m : Machine) × In m ms × (m.num ≡ t.machine) × (present now m ≡ true)

abbrev AllThere : State → Type 0
AllThere s = (t : Task) → In t s.tasks → is_ready_lem t.phase ≡ true → There s.machines s.now t

told_unready : is_ready_lem Told ≡ false
told_unready = refl

ending_unready : is_ready_lem Ending ≡ false
ending_unready = refl

waiting_unready : is_ready_lem Waiting ≡ false
waiting_unready = refl

-- A PASS MAKES NONE READY

ready_ends : (x y : Task) → Ends x y → is_ready_lem y.phase ≡ true → ⊥
ready_ends x y h r = clash (is_ready_lem y.phase) r (ap (λ (t : Task). is_ready_lem t.phase) h.1 ∙ ending_unready)

module _ (s : State) where
  -- what is ready was there before, as it is
  abbrev Before : State → Type 0
  Before u = (t : Task) → In t u.tasks → is_ready_lem t.phase ≡ true → In t s.tasks

  before_pass : (D : Task → Type 0) (R : Task → Task → Type 0) → ((x y : Task) → R x y → is_ready_lem y.phase ≡ true → y ≡ x) → (u : State) {ts : List Task} → Pass D R u.tasks ts → Before u → Before (with_tasks ts u)
  before_pass D R h u p b t i r =
      let f = pass_from D R p t i in
      let e : f.2 ≡ f.0 = h f.0 f.2 f.3 (sym (ap (λ (x : Task). is_ready_lem x.phase) f.4) ∙ r) in
      let c : t ≡ f.0 = f.4 ∙ e in
      subst (λ (x : Task). In x s.tasks) (sym c) (b f.0 f.1 (sym (ap (λ (x : Task). is_ready_lem x.phase) c) ∙ r))

  before_ended : (j : Job) (u : State) → Tidy u → Before u → (xs : List Task) → MayEnd u j xs → Before (with_tasks (ended xs u.tasks) u)
  unfolding ended
  before_ended j u h b [] m = b
  before_ended j u h b (t ∷ ts) m = before_pass _ (EndsOne t) one u (ended_pass 0 u.tasks h.0 t m.0 ts) b
    where
      one : (x y : Task) → EndsOne t x y → is_ready_lem y.phase ≡ true → y ≡ x
      one x y (inl e) r = e
      one x y (inr e) r = absurd (ready_ends x y e.1 r)

  before_more : (j : Job) (u : State) → Before u → Before (more j u)
  before_more j u b t i r = elim (in_end t (fresh j u.next_id) u.tasks i) [ inl k ↦ b t k r | inr e ↦ clash (is_ready_lem t.phase) r (ap (λ (x : Task). is_ready_lem x.phase) e ∙ waiting_unready) ]

  before_settle : Tidy s → Before (settle s)
  before_settle h = before_pass Never Put put (unplaced s) (settle_pass s h) all.1
    where
      put : (x y : Task) → Put x y → is_ready_lem y.phase ≡ true → y ≡ x
      put x y (inl e) r = e
      put x y (inr p) r = clash (is_ready_lem y.phase) r (ap (λ (t : Task). is_ready_lem t.phase) p.3 ∙ told_unready)

      orphan : (x y : Task) → (y ≡ x) ⊎ ((jobless s.jobs x ≡ true) × Ends x y) → is_ready_lem y.phase ≡ true → y ≡ x
      orphan x y (inl e) r = e
      orphan x y (inr p) r = absurd (ready_ends x y p.1 r)

      P : State → Type 0
      P u = Tidy u × Before u

      all : P (unplaced s)
      all =
          steps_are P s.jobs (with_tasks (orphans_end s.jobs s.tasks) s)
          (λ j i u p. (tidy_step j u p.0, step_is Before j u (before_ended j u p.0 p.1) (λ xs m g. before_more j (with_tasks (ended xs u.tasks) u) (before_ended j u p.0 p.1 xs m))))
          (tidy_pass _ _ (orphan_id s.jobs) s (orphans_pass s.jobs s.tasks) h, before_pass _ _ orphan s (orphans_pass s.jobs s.tasks) (λ t i r. i))

there_settle : (s : State) → Fine s × AllThere s → AllThere (settle s)
there_settle s h t i r =
    let a = unplaced_alike s in
    subst (λ (n : ℕ). There (settle s).machines n t) (sym a.0) (subst (λ (ms : List Machine). There ms s.now t) (sym a.1) (h.1 t (before_settle s h.0.tidy t i r) r))

-- A CALL'S OWN CHANGE

ready_on : (p : Phase) → is_ready_lem p ≡ true → is_waiting p ≡ false
ready_on p r = elim (bool (is_waiting p)) [ inl w ↦ clash (is_ready_lem p) r (waiting_not_ready p w) | inr w ↦ w ]

-- a ready task that isn't on machine k is on another
elsewhere : (k : ℕ) (t : Task) → is_ready_lem t.phase ≡ true → on_machine k t ≡ false → eqb k t.machine ≡ false
elsewhere k t r e = elim (bool (eqb k t.machine)) [ inl p ↦ clash (on_machine k t) (and_from _ _ (ap not (ready_on t.phase r)) p) e | inr p ↦ p ]

abbrev AsHeard : Machine → Machine → Type 0
AsHeard x y = (y.num ≡ x.num) × (y.heard ≡ x.heard)

-- a machine that is opened or closed is as present as before
there_opened : (k : ℕ) (b : Bool) (ms : List Machine) (now : ℕ) (t : Task) → There ms now t → There (change (is_machine k) (opened b) ms) now t
there_opened k b ms now t (m, mi, e, p) =
    elim (pass_to (λ x. ⊥) AsHeard (pass_change (λ x. ⊥) AsHeard (is_machine k) (opened b) ms (λ x i. (refl, refl)) (λ x i q. (refl, refl))) m mi)
    [ inl (y, yi, r) ↦ (y, yi, r.0 ∙ e, ap (λ (h : ℕ). not (eqb h 0) && leb now (h + 30000)) r.1 ∙ p) | inr d ↦ absurd d ]

-- whoever was heard of just now is present
now_present : (now : ℕ) → eqb now 0 ≡ false → (not (eqb now 0) && leb now (now + 30000)) ≡ true
now_present now e = and_from _ _ (ap not e) (le-leb now (now + 30000) (omega arith))

there_heard : (k l n : ℕ) (xs : List Seen) (s : State) → eqb s.now 0 ≡ false → (m : Machine) (ms : List Machine) → find (is_machine k) s.machines ≡ m ∷ ms → AllThere s → AllThere (heard k l n xs s)
there_heard k l n xs s z m ms e h t i r = let f = pass_from _ _ (heard_pass k l xs s.tasks) t i in pick f.0 f.1 f.2 f.3 f.4
  where
    now : Machine
    now = heard_from l n s.now m

    pick : (x : Task) → In x s.tasks → (y : Task) → HeardAs k l x y → t ≡ y → There (heard k l n xs s).machines s.now t
    pick x j y (inl p) q =
        let c = q ∙ p.1 in let rx : is_ready_lem x.phase ≡ true = sym (ap (λ (u : Task). is_ready_lem u.phase) c) ∙ r in let v = h x j rx in
        (v.0, change_miss (is_machine k) (heard_from l n s.now) s.machines v.0 v.1 (ap (eqb k) v.2 ∙ elsewhere k x rx p.0), v.2 ∙ sym (ap (λ (u : Task). u.machine) c), v.3)
    pick x j y (inr p) q =
        let c = q ∙ p.4 in
        (now, change_hit (is_machine k) (heard_from l n s.now) s.machines m ms e, (sym (eqb-true k m.num (find_in (is_machine k) s.machines m ms e).1) ∙ (on_machine_lem k x p.0).1) ∙ sym (ap (λ (u : Task). u.machine) c), now_present s.now z)

there_unsure : (now : ℕ) (ms : List Machine) (x : Task) → is_ready_lem (unsure now ms x).phase ≡ true → (unsure now ms x ≡ x) × There ms now x
unfolding unsure
there_unsure now ms x = pick (is_ready_lem x.phase && not (some f ms)) refl
  where
    f : Machine → Bool
    f m = is_machine x.machine m && present now m

    pick : (b : Bool) → (is_ready_lem x.phase && not (some f ms)) ≡ b → is_ready_lem (cond b (phased Told x) x).phase ≡ true → (cond b (phased Told x) x ≡ x) × There ms now x
    pick true e r = absurd (false≢true r)
    pick false e r =
        elim (and_cases (is_ready_lem x.phase) (not (some f ms)) e) [
          | inl n ↦ clash (is_ready_lem x.phase) r n
          | inr n ↦ (let w = some_at f ms (not-false (some f ms) n) in let p = and_parts (is_machine x.machine w.0) (present now w.0) w.2 in (refl, (w.0, w.1, sym (eqb-true x.machine w.0.num p.0), p.1)))
        ]

there_timed : (now : ℕ) (ms : List Machine) (ts : List Task) (t : Task) → In t (map (unsure now ms) ts) → is_ready_lem t.phase ≡ true → There ms now t
there_timed now ms ts t i r =
    let f = pass_from Never (λ x y. y ≡ unsure now ms x) (pass_map Never (λ x y. y ≡ unsure now ms x) (unsure now ms) ts (λ x j. refl)) t i in
    let c : t ≡ unsure now ms f.0 = f.4 ∙ f.3 in
    let w = there_unsure now ms f.0 (sym (ap (λ (x : Task). is_ready_lem x.phase) c) ∙ r) in
    subst (λ (x : Task). There ms now x) (sym (c ∙ w.0)) w.1

there_pre : (c : Call) (s : State) → (eqb s.now 0 && not (is_tick c)) ≡ false → AllThere s → Pre AllThere c s
there_pre (SetJob n a c l m) s z h = (λ e. h, λ j js e. h)
there_pre (EndJob n) s z h = h
there_pre (AddMachine k c m tags) s z h = λ e t i r. let v = h t i r in (v.0, in_left s.machines (new_machine k c m tags) v.0 v.1, v.2, v.3)
there_pre (Close k) s z h = λ t i r. there_opened k false s.machines s.now t (h t i r)
there_pre (Reopen k) s z h = λ t i r. there_opened k true s.machines s.now t (h t i r)
there_pre (Forget k) s z h = λ t i r.
    let q = in_keep (λ (x : Task). not (on_machine k x)) s.tasks t i in let v = h t q.0 r in
    (v.0, keep_in (λ (m : Machine). not (is_machine k m)) s.machines v.0 v.1 (ap not (ap (eqb k) v.2 ∙ elsewhere k t r (not-true _ q.1))), v.2, v.3)
there_pre (Report k l n xs) s z h = λ m ms e q. there_heard k l n xs s (told z) m ms e h
  where
    told : (eqb s.now 0 && true) ≡ false → eqb s.now 0 ≡ false
    told e = elim (and_cases (eqb s.now 0) true e) [ inl p ↦ p | inr p ↦ absurd (false≢true (sym p)) ]
there_pre (Tick t) s z h = λ x i r. there_timed (later t s.now) s.machines s.tasks x i r
there_pre (Show n) s z h = tt

there_does : (c : Call) (s : State) → Fine s → AllThere s → AllThere (does c s).state
there_does c s f h = does_timed (λ (o : Out). AllThere o.state) c s (λ k. h) (λ z. must_from (λ (u : State). Fine u × AllThere u) AllThere there_settle c s h (pre_both Fine AllThere c s (fine_pre c s f) (there_pre c s z h)))

-- in the dark none is ready
there_down : (s : State) → AllThere (down s)
there_down s t i r =
    let f = pass_from Never (λ x y. is_ready_lem y.phase ≡ false) (pass_map Never (λ x y. is_ready_lem y.phase ≡ false) unready s.tasks (λ x j. unready_not x (is_ready_lem x.phase) refl)) t i in
    clash (is_ready_lem t.phase) r (ap (λ (x : Task). is_ready_lem x.phase) f.4 ∙ f.3)
  where
    unready_not : (x : Task) (b : Bool) → is_ready_lem x.phase ≡ b → is_ready_lem (cond b (phased Told x) x).phase ≡ false
    unready_not x true e = refl
    unready_not x false e = e

pub always_ready_there_lem : AlwaysReadyThere
always_ready_there_lem w r t i e =
    let v = reach_herd AllThere (λ x j. absurd j) (λ c s h q. there_does c s h.fine q) (λ s h q. there_down s) r t (in_from i) (to_true _ e) in
    (v.0, in_to v.0 w.herd.machines v.1, v.2, from_true _ v.3)
