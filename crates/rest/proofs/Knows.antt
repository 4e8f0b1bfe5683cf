-- What the herd and an agent know of each other, through reports, times and passes; what is left to do never grows by a report or a time; and that nothing waits after a quiet pass.
-- Assumes nothing.
use Rattle.std.proofs.Common.{◌≡◌, ℕ, ◌+◌, ◌≤◌, Bool, true, false, cond, not, ◌&&◌, eqb, ◌⊎◌, List, [], ◌∷◌, map, sym, refl, ap, ◌∙◌, subst, inl, inr, arith}
use Rattle.std.proofs.lemmas.Bool.{and_parts, and_from, or_left, not-true, le-leb, eqb-true, eqb-false, eq-eqb, cond_both}
use Rattle.model.specs.State.{Machine, Job, Waiting, Told, Ready, Task, State, is_waiting, is_ready_lem, is_ending, is_machine, of_job, on_machine, phased}
use Rattle.model.specs.Lists.{some, keep, find, same}
use Rattle.model.specs.Settle.{mine, alive, old_ones, sure, present, takes, fresh, settle, unplaced}
use Rattle.model.specs.Calls.{Seen, Order, heard_all, heard_from, orders, unsure, timed, all_most, heard}
use Rattle.model.specs.World.{is_order, is_seen}
use Rattle.rest.specs.Rounds.{Roomy}
use Rattle.rest.specs.Rest.{is_alive, is_new, to_do}
use Rattle.model.proofs.Lists.{to_true, from_true, clash, bool, In, in_from, in_to, keep_in, some_from, some_at, Pass, done, gone, goes, pass_from, pass_up, pass_down, pass_map, find_in, change_hit}
use Rattle.model.proofs.Tasks.{same_eq, eq_same, waiting_not_ready, Put, Never}
use Rattle.model.proofs.Settles.{Tidy, unplaced_alike, settle_pass, once_job, Fine, fine_to}
use Rattle.model.proofs.Room.{put_waiting, waits_for_room_lem}
use Rattle.model.proofs.Acts.{HeardAs, heard_pass, fine_heard}
use Rattle.model.proofs.Hold.{Housed, once_machine}
use Rattle.model.proofs.Keeps.{heard_firm, on_machine_lem}
use Rattle.rest.proofs.Steps.{to_end_none, kept_none}
use Rattle.rest.proofs.Falls.{waiting_alive, ready_alive, Quiet}
use Rattle.rest.proofs.Lacks.{to_do_le, not_new}
use Rattle.rest.proofs.Stuck.{Lawful}
use Rattle.rest.proofs.Origins.{Origin, origins, ready_from, orders_has, Lost, Went}

-- the agent of machine i, in its life l with os ordered, is known to the herd: it was heard of in this life, not long ago, and what is ready there is ordered
pub record Known (s : State) (l : ℕ) (os : List Order) (i : ℕ) : Type 0 where
  pub life : (m : Machine) → In m s.machines → m.num ≡ i → m.life ≡ l
  pub here : (m : Machine) → In m s.machines → m.num ≡ i → present s.now m ≡ true
  pub ready : (t : Task) → In t s.tasks → on_machine i t ≡ true → is_ready_lem t.phase ≡ true → some (is_order t.id) os ≡ true

pub machines_in : (u : State) (m : Machine) → In m (settle u).machines → In m u.machines
machines_in u m i = subst (λ (ms : List Machine). In m ms) (unplaced_alike u).1 i

pub known_settle : (u : State) (l : ℕ) (os : List Order) (i : ℕ) → Tidy u → Known u l os i → Known (settle u) l os i
known_settle u l os i h k =
    record {
      life = λ m j e. k.life m (machines_in u m j) e;
      here = λ m j e. subst (λ (n : ℕ). present n m ≡ true) (sym (unplaced_alike u).0) (k.here m (machines_in u m j) e);
      ready = λ t j o r. k.ready t (ready_from u h t j r) o r;
    }

present_now : (l n now : ℕ) (m : Machine) → eqb now 0 ≡ false → present now (heard_from l n now m) ≡ true
present_now l n now m e = and_from _ _ (ap not e) (le-leb now (now + 30000) (omega arith))

module _ (s : State) (f : Fine s) (i l n : ℕ) (xs : List Seen) (m : Machine) (ms : List Machine) (e : find (is_machine i) s.machines ≡ m ∷ ms) (c : eqb s.now 0 ≡ false) where
  abbrev u' : State
  u' = heard i l n xs s

  heard_now : (v : Machine) → In v u'.machines → v.num ≡ i → v ≡ heard_from l n s.now m
  heard_now v j q = once_machine u'.machines (fine_heard i l n xs s f).machines v (heard_from l n s.now m) j (change_hit (is_machine i) (heard_from l n s.now) s.machines m ms e) (q ∙ eqb-true i m.num (find_in (is_machine i) s.machines m ms e).1)

  -- who reports is known
  pub known_self : Known (settle u') l (orders (keep (on_machine i) (settle u').tasks)) i
  known_self =
      record {
        life = λ v j q. ap (λ (z : Machine). z.life) (heard_now v (machines_in u' v j) q);
        here = λ v j q. subst (λ (k : ℕ). present k v ≡ true) (sym (unplaced_alike u').0) (ap (present s.now) (heard_now v (machines_in u' v j) q) ∙ present_now l n s.now m c);
        ready = λ t j o r. orders_has (keep (on_machine i) (settle u').tasks) t (keep_in (on_machine i) (settle u').tasks t j o) (ready_alive t.phase r);
      }

-- a task on another machine is as it was
pub heard_other : (i j l : ℕ) (xs : List Seen) (ts : List Task) → eqb j i ≡ false → (t : Task) → In t (heard_all i l xs ts) → on_machine j t ≡ true → In t ts
heard_other i j l xs ts e t k o = let w = pass_from _ _ (heard_pass i l xs ts) t k in pick w.0 w.1 w.2 w.3 w.4
  where
    pick : (x : Task) → In x ts → (y : Task) → HeardAs i l x y → t ≡ y → In t ts
    pick x a y (inl b) d = subst (λ (z : Task). In z ts) (sym (d ∙ b.1)) a
    pick x a y (inr b) d =
        let p = (on_machine_lem i x b.0).1 in let q = (on_machine_lem j t o).1 in
        absurd (eqb-false j i e (q ∙ (ap (λ (z : Task). z.machine) (d ∙ b.4) ∙ sym p)))

pub known_other : (s : State) (i j l n : ℕ) (xs : List Seen) (l' : ℕ) (os : List Order) → eqb j i ≡ false → Known s l' os j → Known (heard i l n xs s) l' os j
known_other s i j l n xs l' os e k = record { life = λ m a q. k.life m (was m a q) q; here = λ m a q. k.here m (was m a q) q; ready = λ t a o r. k.ready t (heard_other i j l xs s.tasks e t a o) o r }
  where
    was : (m : Machine) → In m (heard i l n xs s).machines → m.num ≡ j → In m s.machines
    was m a q = pick (heard_firm i l n s.now s.machines m a)
      where
        pick : (x : Machine) × In x s.machines × (m.num ≡ x.num) × (m.cpu ≡ x.cpu) × (m.mem ≡ x.mem) × ((m ≡ x) ⊎ ((is_machine i x ≡ true) × (m.life ≡ l) × (m.number ≡ n))) → In m s.machines
        pick (x, b, c, d, g, inl p) = subst (λ (z : Machine). In z s.machines) (sym p) b
        pick (x, b, c, d, g, inr p) = absurd (eqb-false j i e (sym q ∙ (c ∙ sym (eqb-true i x.num p.0))))

-- TIMES

abbrev pub Unsured : Task → Task → Type 0
Unsured x y = (y ≡ x) ⊎ ((is_ready_lem x.phase ≡ true) × (y ≡ phased Told x))

pub unsured : (now : ℕ) (ms : List Machine) (ts : List Task) → Pass Never Unsured ts (map (unsure now ms) ts)
unfolding unsure
unsured now ms ts = pass_map Never Unsured (unsure now ms) ts (λ t i. cond_both (is_ready_lem t.phase && not (some (λ (m : Machine). is_machine t.machine m && present now m) ms)) (phased Told t) t (Unsured t) (λ e. inr ((and_parts (is_ready_lem t.phase) _ e).0, refl)) (λ e. inl refl))

told_unready : is_ready_lem Told ≡ false
told_unready = refl

told_alive : is_ending Told ≡ false
told_alive = refl

pub known_timed : (s : State) (t l : ℕ) (os : List Order) (i : ℕ) → ((m : Machine) → In m s.machines → present s.now m ≡ true → present t m ≡ true) → Known s l os i → Known (timed t s) l os i
known_timed s t l os i h k = record { life = k.life; here = λ m a q. h m a (k.here m a q); ready = λ x a o r. let w = pass_from Never Unsured (unsured t s.machines s.tasks) x a in k.ready x (was x r w.0 w.1 w.2 w.3 w.4) o r }
  where
    was : (x : Task) → is_ready_lem x.phase ≡ true → (y : Task) → In y s.tasks → (z : Task) → Unsured y z → x ≡ z → In x s.tasks
    was x r y a z (inl b) d = subst (λ (v : Task). In v s.tasks) (sym (d ∙ b)) a
    was x r y a z (inr b) d = clash (is_ready_lem x.phase) r (ap (λ (v : Task). is_ready_lem v.phase) (d ∙ b.1) ∙ told_unready)

-- where every machine is present a time changes no task
pub timed_same : (now : ℕ) (ms : List Machine) (ts : List Task) → Housed ms ts → ((m : Machine) → In m ms → present now m ≡ true) → map (unsure now ms) ts ≡ ts
unfolding unsure
timed_same now ms [] h p = refl
timed_same now ms (t ∷ ts) h p = let a : unsure now ms t ≡ t = here in let b : map (unsure now ms) ts ≡ ts = timed_same now ms ts (λ x i. h x (inr i)) p in cc
  where
    S : Bool
    S = some (λ (m : Machine). is_machine t.machine m && present now m) ms

    there : is_ready_lem t.phase ≡ true → S ≡ true
    there r =
        let w : is_waiting t.phase ≡ false = elim (bool (is_waiting t.phase)) [ inl q ↦ clash (is_ready_lem t.phase) r (waiting_not_ready t.phase q) | inr q ↦ q ] in
        let m = h t (inl refl) w in some_from (λ (x : Machine). is_machine t.machine x && present now x) ms m.0 m.1 (and_from _ _ (eq-eqb t.machine m.0.num (sym m.2)) (p m.0 m.1))

    here : unsure now ms t ≡ t
    here = cond_both (is_ready_lem t.phase && not S) (phased Told t) t (λ (x : Task). x ≡ t) (λ e. let q = and_parts (is_ready_lem t.phase) (not S) e in clash S (there q.0) (not-true S q.1)) (λ e. refl)

-- WHAT IS LEFT TO DO, BY A REPORT AND BY A TIME

pub lives : (s : State) (l : ℕ) (os : List Order) (i : ℕ) → Housed s.machines s.tasks → Known s l os i → (t : Task) → In t s.tasks → on_machine i t ≡ true → eqb l t.life ≡ true
lives s l os i h k t j o = let q = on_machine_lem i t o in let m = h t j q.0 in eq-eqb l t.life (sym (k.life m.0 m.1 (m.2 ∙ sym q.1)) ∙ m.3)

abbrev pub Ended : Task → Type 0
Ended x = is_ending x.phase ≡ true

-- of an agent that is known only what ends is gone
pub lost_ends : (k l : ℕ) (xs : List Seen) {ts ys : List Task} → Pass (Lost k l xs) (Went k xs) ts ys → ((t : Task) → In t ts → on_machine k t ≡ true → eqb l t.life ≡ true) → Pass Ended (Went k xs) ts ys
lost_ends k l xs done h = done
lost_ends k l xs (gone {x = x} (o, inl d) p) h = clash (eqb l x.life) (h x (inl refl) o) d
lost_ends k l xs (gone {x = x} (o, inr d) p) h = gone d.0 (lost_ends k l xs p (λ t i. h t (inr i)))
lost_ends k l xs (goes r p) h = goes r (lost_ends k l xs p (λ t i. h t (inr i)))

heard_alive : (b : Bool) → is_ending (cond b Ready Told) ≡ false
heard_alive true = refl
heard_alive false = refl

pub went_alive : (k : ℕ) (xs : List Seen) (x y : Task) → Went k xs x y → is_alive y ≡ true → is_alive x ≡ true
went_alive k xs x y (inl h) q = sym (ap is_alive h.1) ∙ q
went_alive k xs x y (inr (o, inl h)) q = sym (ap is_alive h.2) ∙ q
went_alive k xs x y (inr (o, inr h)) q = ap not h.0

pub went_new : (j : Job) (k : ℕ) (xs : List Seen) (x y : Task) → Went k xs x y → is_new j x ≡ true → is_new j y ≡ true
went_new j k xs x y (inl h) q = ap (is_new j) h.1 ∙ q
went_new j k xs x y (inr (o, inl h)) q = ap (is_new j) h.2 ∙ q
went_new j k xs x y (inr (o, inr h)) q =
    let a = and_parts (of_job j.name x && is_alive x) (eqb x.version j.version) q in let b = and_parts (of_job j.name x) (is_alive x) a.0 in
    ap (is_new j) h.1 ∙ and_from _ _ (and_from _ _ b.0 (ap not (heard_alive (some (is_seen x.id) xs)))) a.1

pub heard_le : (js : List Job) (k : ℕ) (xs : List Seen) {ts ys : List Task} → Pass Ended (Went k xs) ts ys → to_do js ys ≤ to_do js ts
heard_le js k xs {ts} {ys} p = to_do_le js ts ys (pass_down Ended (Went k xs) is_alive (went_alive k xs) p) (λ j i. pass_up Ended (Went k xs) (is_new j) (λ x d. not_new j x d) (went_new j k xs) p)

pub unsured_new : (j : Job) (x y : Task) → Unsured x y → is_new j x ≡ true → is_new j y ≡ true
unsured_new j x y (inl e) q = ap (is_new j) e ∙ q
unsured_new j x y (inr e) q =
    let a = and_parts (of_job j.name x && is_alive x) (eqb x.version j.version) q in let b = and_parts (of_job j.name x) (is_alive x) a.0 in
    ap (is_new j) e.1 ∙ and_from _ _ (and_from _ _ b.0 (ap not told_alive)) a.1

pub placed_new : (x y : Task) → Put x y → (is_alive y ≡ true → is_alive x ≡ true) × ((k : Job) → is_new k x ≡ true → is_new k y ≡ true)
placed_new x y (inl e) = (λ q. sym (ap is_alive e) ∙ q, λ k q. ap (is_new k) e ∙ q)
placed_new x y (inr e) = (λ q. ap not (waiting_alive x.phase e.0), λ k q. let a = and_parts (of_job k.name x && is_alive x) (eqb x.version k.version) q in let b = and_parts (of_job k.name x) (is_alive x) a.0 in ap (is_new k) e.3 ∙ and_from _ _ (and_from _ _ b.0 (ap not told_alive)) a.1)

pub timed_le : (js : List Job) (now : ℕ) (ms : List Machine) (ts : List Task) → to_do js (map (unsure now ms) ts) ≤ to_do js ts
timed_le js now ms ts = to_do_le js ts _ (pass_down Never Unsured is_alive back (unsured now ms ts)) (λ j i. pass_up Never Unsured (is_new j) (λ x d. absurd d) (unsured_new j) (unsured now ms ts))
  where
    back : (x y : Task) → Unsured x y → is_alive y ≡ true → is_alive x ≡ true
    back x y (inl e) q = sym (ap is_alive e) ∙ q
    back x y (inr e) q = ap not (ready_alive x.phase e.0)

-- STEADY: jobs as they are set, and tasks of the present version as their job says

pub record Steady (s : State) : Type 0 where
  pub lawful : (j : Job) → In j s.jobs → Lawful j
  pub mosts : all_most s.jobs ≤ 2048
  pub like : (t : Task) (j : Job) → In t s.tasks → In j s.jobs → j.name ≡ t.job → t.version ≡ j.version → is_ending t.phase ≡ false → t.spec ≡ j.spec

pub steady_settle : (s : State) → Fine s → Steady s → Steady (settle s)
steady_settle s f h =
    record {
      lawful = λ j i. h.lawful j (jobs j i);
      mosts = subst (λ (js : List Job). all_most js ≤ 2048) (sym (unplaced_alike s).2) h.mosts;
      like = λ t j i k n v a. pick t j (jobs j k) n v a (origins s f.tidy t i);
    }
  where
    jobs : (j : Job) → In j (settle s).jobs → In j s.jobs
    jobs j i = subst (λ (js : List Job). In j js) (unplaced_alike s).2 i

    pick : (t : Task) (j : Job) → In j s.jobs → j.name ≡ t.job → t.version ≡ j.version → is_ending t.phase ≡ false → Origin s t → t.spec ≡ j.spec
    pick t j k n v a (inl (x, i, p)) = p.2 ∙ h.like x j i k (n ∙ p.0) (sym p.1 ∙ v) (not-true _ (p.3 (ap not a)))
    pick t j k n v a (inr (g, i, p, q, r, z)) = let c : g ≡ j = once_job s.jobs f.jobs g j i k (eq_same _ _ (sym p ∙ sym n)) in r ∙ ap (λ (y : Job). y.spec) c

-- tasks that go on as the same, no more alive than before
pub steady_pass : (D : Task → Type 0) (R : Task → Task → Type 0) → ((x y : Task) → R x y → (y.job ≡ x.job) × (y.version ≡ x.version) × (y.spec ≡ x.spec) × (is_alive y ≡ true → is_alive x ≡ true)) → (s u : State) → u.jobs ≡ s.jobs → Pass D R s.tasks u.tasks → Steady s → Steady u
steady_pass D R h s u e p f =
    record {
      lawful = λ j i. f.lawful j (subst (λ (js : List Job). In j js) e i);
      mosts = subst (λ (js : List Job). all_most js ≤ 2048) (sym e) f.mosts;
      like = λ t j i k n v a. let w = pass_from D R p t i in let r = h w.0 w.2 w.3 in let d = w.4 in
          (ap (λ (z : Task). z.spec) d ∙ r.2) ∙ f.like w.0 j w.1 (subst (λ (js : List Job). In j js) e k) (n ∙ (ap (λ (z : Task). z.job) d ∙ r.0)) (sym (ap (λ (z : Task). z.version) d ∙ r.1) ∙ v) (not-true _ (r.3 (sym (ap is_alive d) ∙ ap not a)));
    }

pub went_as : (k : ℕ) (xs : List Seen) (x y : Task) → Went k xs x y → (y.job ≡ x.job) × (y.version ≡ x.version) × (y.spec ≡ x.spec) × (is_alive y ≡ true → is_alive x ≡ true)
went_as k xs x y (inl h) = let e = h.1 in (ap (λ (t : Task). t.job) e, ap (λ (t : Task). t.version) e, ap (λ (t : Task). t.spec) e, went_alive k xs x y (inl h))
went_as k xs x y (inr (o, inl h)) = let e = h.2 in (ap (λ (t : Task). t.job) e, ap (λ (t : Task). t.version) e, ap (λ (t : Task). t.spec) e, went_alive k xs x y (inr (o, inl h)))
went_as k xs x y (inr (o, inr h)) = let e = h.1 in (ap (λ (t : Task). t.job) e, ap (λ (t : Task). t.version) e, ap (λ (t : Task). t.spec) e, went_alive k xs x y (inr (o, inr h)))

pub unsured_as : (x y : Task) → Unsured x y → (y.job ≡ x.job) × (y.version ≡ x.version) × (y.spec ≡ x.spec) × (is_alive y ≡ true → is_alive x ≡ true)
unsured_as x y (inl e) = (ap (λ (t : Task). t.job) e, ap (λ (t : Task). t.version) e, ap (λ (t : Task). t.spec) e, λ q. sym (ap is_alive e) ∙ q)
unsured_as x y (inr h) = let e = h.1 in (ap (λ (t : Task). t.job) e, ap (λ (t : Task). t.version) e, ap (λ (t : Task). t.spec) e, λ q. ap not (ready_alive x.phase h.0))

-- NOTHING WAITS AFTER A QUIET PASS

abbrev pub NoWait : List Task → Type 0
NoWait ts = (t : Task) → In t ts → is_waiting t.phase ≡ false

pub takes_as : (now : ℕ) (a b : Task) (ts : List Task) (m : Machine) → a.spec ≡ b.spec → a.job ≡ b.job → takes now a ts m ≡ takes now b ts m
takes_as now a b ts m p q = λ i. takes now (record { id = 0; job = q i; version = 0; spec = p i; phase = Waiting; machine = 0; life = 0 }) ts m

pub no_wait : (u : State) → Fine u → Quiet u → Steady u → Roomy (settle u) → NoWait (settle u).tasks
no_wait u f q st r t i = elim (bool (is_waiting t.phase)) [ inl w ↦ absurd (not_so w) | inr w ↦ w ]
  where
    was : is_waiting t.phase ≡ true → In t u.tasks
    was w =
        let g = pass_from Never Put (settle_pass u f.tidy) t i in
        let c : t ≡ g.0 = g.4 ∙ put_waiting g.0 g.2 g.3 (sym (ap (λ (x : Task). is_waiting x.phase) g.4) ∙ w) in
        subst (λ (s : State). In t s.tasks) q.same (subst (λ (x : Task). In x (unplaced u).tasks) (sym c) g.1)

    has : is_waiting t.phase ≡ true → some (λ (j : Job). same j.name t.job) u.jobs ≡ true
    has w = elim (bool (some (λ (j : Job). same j.name t.job) u.jobs)) [ inl p ↦ p | inr p ↦ clash (is_ending t.phase) (q.wanted t (was w) (ap not p)) (waiting_alive t.phase w) ]

    version : is_waiting t.phase ≡ true → (j : Job) → In j u.jobs → same j.name t.job ≡ true → t.version ≡ j.version
    version w j ji e = elim (bool (eqb t.version j.version)) [ inl p ↦ eqb-true _ _ p | inr p ↦ old p ]
      where
        F : Task → Bool
        F x = not (is_ready_lem x.phase) && sure u x

        old : {C : Type 0} → eqb t.version j.version ≡ false → C
        old p =
            let n = (to_end_none u j _ _ (q.idle j ji).0).0 in
            let k : In t (old_ones j (alive (mine j u.tasks))) = keep_in _ (alive (mine j u.tasks)) t (keep_in is_alive (mine j u.tasks) t (keep_in (of_job j.name) u.tasks t (was w) e) (ap not (waiting_alive t.phase w))) (ap not p) in
            clash (F t) (and_from _ _ (ap not (waiting_not_ready t.phase w)) (or_left (is_waiting t.phase) _ w)) (kept_none F (old_ones j (alive (mine j u.tasks))) n t k)

    not_so : is_waiting t.phase ≡ true → ⊥
    not_so w =
        let j = some_at (λ (x : Job). same x.name t.job) u.jobs (has w) in
        let name : j.0.name ≡ t.job = same_eq _ _ j.2 in
        let spec : t.spec ≡ j.0.spec = st.like t j.0 (was w) j.1 name (version w j.0 j.1 j.2) (waiting_alive t.phase w) in
        let m = r.1 j.0 (in_to j.0 (settle u).jobs (subst (λ (js : List Job). In j.0 js) (sym (unplaced_alike u).2) j.1)) in
        let e : takes (settle u).now t (settle u).tasks m.0 ≡ true = takes_as (settle u).now t (fresh j.0 0) (settle u).tasks m.0 spec (sym name) ∙ to_true _ m.2 in
        waits_for_room_lem u t m.0 (fine_to u f) (in_to t (settle u).tasks i) (from_true _ w) (in_to m.0 u.machines (machines_in u m.0 (in_from m.1))) (from_true _ e)
