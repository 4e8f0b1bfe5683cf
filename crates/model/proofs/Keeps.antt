-- Calls keep what is told on machines that are there, and what fits there; what an agent may run stays where it is.
-- Assumes nothing.
use Rattle.std.proofs.Common.{◌≡◌, ℕ, ◌≤◌, Bool, true, false, cond, not, ◌&&◌, eqb, ◌⊎◌, List, [], ◌∷◌, map, sym, refl, ap, ◌∙◌, subst, inl, inr, le_trans, arith}
use Rattle.std.proofs.lemmas.Bool.{false≢true, and_parts, and_from, not-true, not-false, eqb-true, eq-eqb, eqb-false, ne_eqb, cond_both}
use Rattle.model.specs.State.{Machine, Phase, Waiting, Told, Ready, Ending, Task, State, is_waiting, is_ready_lem, is_machine, on_machine, phased}
use Rattle.model.specs.Lists.{keep, find, change}
use Rattle.model.specs.Settle.{here, settle}
use Rattle.model.specs.Calls.{Seen, Call, SetJob, EndJob, AddMachine, Close, Reopen, Forget, Report, Tick, Show, heard_all, heard_from, opened, unsure, later, does, down, new_machine, heard, forgotten}
use Rattle.model.proofs.Lists.{clash, bool, In, in_end, in_left, find_none, find_in, in_keep, keep_in, change_hit, change_miss, Pass, done, gone, goes, pass_same, pass_keep, pass_change, pass_map, pass_from, pass_weaken}
use Rattle.model.proofs.Tasks.{Never, told_not_waiting}
use Rattle.model.proofs.Settles.{Tidy, tidy_settle, unplaced_alike, Fine}
use Rattle.model.proofs.Room.{weigh}
use Rattle.model.proofs.Acts.{Pre, does_keeps, HeardGone, HeardAs, heard_pass, fine_settle, fine_pre, fine_down}
use Rattle.model.proofs.Hold.{Housed, Fitting, cpu_need, mem_need, OnIt, Stay, stay_eq, stay_phase, stay_on, told_stay, room_stay, on_pass, on_stay, hold_settle, on_settle}

-- MACHINES THAT STAY AS THEY ARE, BUT FOR BEING OPEN OR HEARD OF

-- a machine stays as it is, but for being open or heard of
abbrev pub Firm : Machine → Machine → Type 0
Firm x y = (y.num ≡ x.num) × (y.life ≡ x.life) × (y.number ≡ x.number) × (y.cpu ≡ x.cpu) × (y.mem ≡ x.mem)

abbrev pub NoMachine : Machine → Type 0
NoMachine x = ⊥

firm_refl : (x : Machine) → Firm x x
firm_refl x = (refl, refl, refl, refl, refl)

pub firm_to : {xs ys : List Machine} → Pass NoMachine Firm xs ys → (x : Machine) → In x xs → (y : Machine) × In y ys × Firm x y
firm_to done x i = absurd i
firm_to (gone d p) x i = absurd d
firm_to (goes {y = y} r p) x (inl e) = (y, inl refl, subst (λ (z : Machine). Firm z y) (sym e) r)
firm_to (goes r p) x (inr i) = let q = firm_to p x i in (q.0, inr q.1, q.2)

pub firm_from : {xs ys : List Machine} → Pass NoMachine Firm xs ys → (y : Machine) → In y ys → (x : Machine) × In x xs × Firm x y
firm_from p y i = let f = pass_from NoMachine Firm p y i in (f.0, f.1, subst (λ (z : Machine). Firm f.0 z) (sym f.4) f.3)

told_firm : {xs ys : List Machine} → Pass NoMachine Firm xs ys → (ts : List Task) → Housed xs ts → Housed ys ts
told_firm p ts h t i w = let m = h t i w in let f = firm_to p m.0 m.1 in (f.0, f.1, f.2.0 ∙ m.2, f.2.1 ∙ m.3)

room_firm : {xs ys : List Machine} → Pass NoMachine Firm xs ys → (ts : List Task) → Fitting xs ts → Fitting ys ts
room_firm p ts r y i =
    let f = firm_from p y i in let q = r f.0 f.1 in (
      subst (λ (c : ℕ). weigh cpu_need (here y ts) ≤ c) (sym f.2.3) (subst (λ (k : ℕ). weigh cpu_need (keep (on_machine k) ts) ≤ f.0.cpu) (sym f.2.0) q.0),
      subst (λ (c : ℕ). weigh mem_need (here y ts) ≤ c) (sym f.2.4) (subst (λ (k : ℕ). weigh mem_need (keep (on_machine k) ts) ≤ f.0.mem) (sym f.2.0) q.1),
    )

opened_firm : (k : ℕ) (b : Bool) (ms : List Machine) → Pass NoMachine Firm ms (change (is_machine k) (opened b) ms)
opened_firm k b ms = pass_change NoMachine Firm (is_machine k) (opened b) ms (λ x i. firm_refl x) (λ x i e. (refl, refl, refl, refl, refl))

-- TASKS THAT ARE NO LONGER KNOWN TO BE READY

ready_waits_not : (p : Phase) → is_ready_lem p ≡ true → is_waiting p ≡ false
ready_waits_not Waiting e = absurd (false≢true e)
ready_waits_not Told e = refl
ready_waits_not Ready e = refl
ready_waits_not Ending e = refl

told_stays : (t : Task) (b : Bool) → is_ready_lem t.phase && b ≡ true → Stay t (phased Told t)
told_stays t b e = stay_phase t (phased Told t) Told (told_not_waiting ∙ sym (ready_waits_not t.phase (and_parts (is_ready_lem t.phase) b e).0)) refl

unsure_stay : (now : ℕ) (ms : List Machine) (t : Task) → Stay t (unsure now ms t)
unfolding unsure
unsure_stay now ms t = cond_both _ (phased Told t) t (Stay t) (λ e. told_stays t _ e) (λ _. stay_eq t t refl)

timed_stay : (now : ℕ) (ms : List Machine) (ts : List Task) → Pass Never Stay ts (map (unsure now ms) ts)
timed_stay now ms ts = pass_map Never Stay (unsure now ms) ts (λ x i. unsure_stay now ms x)

down_stay : (ts : List Task) → Pass Never Stay ts (map (λ (t : Task). cond (is_ready_lem t.phase) (phased Told t) t) ts)
down_stay ts = pass_map Never Stay (λ (t : Task). cond (is_ready_lem t.phase) (phased Told t) t) ts (λ t i. cond_both (is_ready_lem t.phase) (phased Told t) t (Stay t) (λ e. told_stays t true (and_from _ _ e refl)) (λ _. stay_eq t t refl))

down_firm : (s : State) → Pass NoMachine Firm s.machines (down s).machines
down_firm s = pass_map NoMachine Firm _ s.machines (λ x i. (refl, refl, refl, refl, refl))

-- A REPORT

pub heard_stay : (k l : ℕ) (x y : Task) → HeardAs k l x y → Stay x y
heard_stay k l x y (inl h) = stay_eq x y h.1
heard_stay k l x y (inr h) = stay_phase x y h.2 (h.3 ∙ sym (not-true _ (and_parts (not (is_waiting x.phase)) (eqb k x.machine) h.0).0)) h.4

pub on_machine_lem : (k : ℕ) (t : Task) → on_machine k t ≡ true → (is_waiting t.phase ≡ false) × (k ≡ t.machine)
on_machine_lem k t e = let p = and_parts (not (is_waiting t.phase)) (eqb k t.machine) e in (not-true _ p.0, eqb-true k t.machine p.1)

not_on : (k : ℕ) (t : Task) → on_machine k t ≡ false → is_waiting t.phase ≡ false → eqb k t.machine ≡ false
not_on k t e w = elim (bool (eqb k t.machine)) [ inl p ↦ clash (on_machine k t) (and_from _ _ (ap not w) p) e | inr p ↦ p ]

pub heard_firm : (k l n now : ℕ) (ms : List Machine) → (y : Machine) → In y (change (is_machine k) (heard_from l n now) ms) → (x : Machine) × In x ms × (y.num ≡ x.num) × (y.cpu ≡ x.cpu) × (y.mem ≡ x.mem) × ((y ≡ x) ⊎ ((is_machine k x ≡ true) × (y.life ≡ l) × (y.number ≡ n)))
heard_firm k l n now ms y i = let f = pass_from NoMachine R (pass_change NoMachine R (is_machine k) (heard_from l n now) ms (λ x j. inl refl) (λ x j e. inr (e, refl))) y i in pick f.0 f.1 f.2 f.3 f.4
  where
    R : Machine → Machine → Type 0
    R x z = (z ≡ x) ⊎ ((is_machine k x ≡ true) × (z ≡ heard_from l n now x))

    pick : (x : Machine) → In x ms → (z : Machine) → R x z → y ≡ z → (v : Machine) × In v ms × (y.num ≡ v.num) × (y.cpu ≡ v.cpu) × (y.mem ≡ v.mem) × ((y ≡ v) ⊎ ((is_machine k v ≡ true) × (y.life ≡ l) × (y.number ≡ n)))
    pick x j z (inl p) q = let c = q ∙ p in (x, j, ap (λ (m : Machine). m.num) c, ap (λ (m : Machine). m.cpu) c, ap (λ (m : Machine). m.mem) c, inl c)
    pick x j z (inr p) q = let c = q ∙ p.1 in (x, j, ap (λ (m : Machine). m.num) c, ap (λ (m : Machine). m.cpu) c, ap (λ (m : Machine). m.mem) c, inr (p.0, ap (λ (m : Machine). m.life) c, ap (λ (m : Machine). m.number) c))

told_heard : (k l n : ℕ) (xs : List Seen) (s : State) (m : Machine) (ms : List Machine) → find (is_machine k) s.machines ≡ m ∷ ms → Housed s.machines s.tasks → Housed (heard k l n xs s).machines (heard k l n xs s).tasks
told_heard k l n xs s m ms e h t i w = let f = pass_from _ _ (heard_pass k l xs s.tasks) t i in pick f.0 f.1 f.2 f.3 f.4
  where
    pick : (x : Task) → In x s.tasks → (z : Task) → HeardAs k l x z → t ≡ z → (v : Machine) × In v (heard k l n xs s).machines × (v.num ≡ t.machine) × (v.life ≡ t.life)
    pick x j z (inl p) q =
        let c = q ∙ p.1 in let w' : is_waiting x.phase ≡ false = sym (ap (λ (u : Task). is_waiting u.phase) c) ∙ w in let v = h x j w' in
        (v.0, change_miss (is_machine k) (heard_from l n s.now) s.machines v.0 v.1 (ap (eqb k) v.2 ∙ not_on k x p.0 w'), v.2 ∙ sym (ap (λ (u : Task). u.machine) c), v.3 ∙ sym (ap (λ (u : Task). u.life) c))
    pick x j z (inr p) q =
        let c = q ∙ p.4 in
        (heard_from l n s.now m, change_hit (is_machine k) (heard_from l n s.now) s.machines m ms e, (sym (eqb-true k m.num (find_in (is_machine k) s.machines m ms e).1) ∙ (on_machine_lem k x p.0).1) ∙ sym (ap (λ (u : Task). u.machine) c), eqb-true l x.life p.1 ∙ sym (ap (λ (u : Task). u.life) c))

room_heard : (k l n : ℕ) (xs : List Seen) (s : State) → Fitting s.machines s.tasks → Fitting (heard k l n xs s).machines (heard k l n xs s).tasks
room_heard k l n xs s r y i =
    let ts = heard_all k l xs s.tasks in
    let r' : Fitting s.machines ts = room_stay _ s.machines (pass_weaken (λ x d. d) (heard_stay k l) (heard_pass k l xs s.tasks)) r in
    let f = heard_firm k l n s.now s.machines y i in let q = r' f.0 f.1 in (
      subst (λ (c : ℕ). weigh cpu_need (here y ts) ≤ c) (sym f.3) (subst (λ (j : ℕ). weigh cpu_need (keep (on_machine j) ts) ≤ f.0.cpu) (sym f.2) q.0),
      subst (λ (c : ℕ). weigh mem_need (here y ts) ≤ c) (sym f.4) (subst (λ (j : ℕ). weigh mem_need (keep (on_machine j) ts) ≤ f.0.mem) (sym f.2) q.1),
    )

-- THE HERD'S OWN PART

-- what holds of the herd alone in every world
pub record Sound (s : State) : Type 0 where
  pub fine : Fine s
  pub told : Housed s.machines s.tasks
  pub room : Fitting s.machines s.tasks

pub sound_settle : (s : State) → Sound s → Sound (settle s)
sound_settle s f =
    let p = hold_settle s f.fine f.told f.room in let e = sym (unplaced_alike s).1 in
    record { fine = fine_settle s f.fine; told = subst (λ (ms : List Machine). Housed ms (settle s).tasks) e p.0; room = subst (λ (ms : List Machine). Fitting ms (settle s).tasks) e p.1 }

weigh_nothing : (g : Task → ℕ) (k : ℕ) (ts : List Task) → ((t : Task) → In t ts → on_machine k t ≡ false) → weigh g (keep (on_machine k) ts) ≤ 0
unfolding keep weigh
weigh_nothing g k [] h = omega arith
weigh_nothing g k (t ∷ ts) h = rw (h t (inl refl)) (weigh_nothing g k ts (λ x i. h x (inr i)))

-- on a machine that isn't there is nothing
pub nothing_there : (ms : List Machine) (ts : List Task) → Housed ms ts → (k : ℕ) → ((m : Machine) → In m ms → is_machine k m ≡ false) → (t : Task) → In t ts → on_machine k t ≡ false
nothing_there ms ts h k n t i =
    elim (bool (on_machine k t)) [ inl p ↦ let q = on_machine_lem k t p in let m = h t i q.0 in clash (is_machine k m.0) (eq-eqb k m.0.num (q.1 ∙ sym m.2)) (n m.0 m.1) | inr p ↦ p ]

sound_pre : (c : Call) (s : State) → Sound s → Pre Sound c s
sound_pre (SetJob n a c l m) s f = let g = fine_pre (SetJob n a c l m) s f.fine in (λ e. record { fine = g.0 e; told = f.told; room = f.room }, λ j js e. record { fine = g.1 j js e; told = f.told; room = f.room })
sound_pre (EndJob n) s f = record { fine = fine_pre (EndJob n) s f.fine; told = f.told; room = f.room }
sound_pre (AddMachine k c m tags) s f = λ e. record { fine = fine_pre (AddMachine k c m tags) s f.fine e; told = λ t i w. let v = f.told t i w in (v.0, in_left s.machines new v.0 v.1, v.2, v.3); room = λ x i. pick e x (in_end x new s.machines i) }
  where
    new : Machine
    new = new_machine k c m tags

    pick : find (is_machine k) s.machines ≡ [] → (x : Machine) → In x s.machines ⊎ (x ≡ new) → (weigh cpu_need (here x s.tasks) ≤ x.cpu) × (weigh mem_need (here x s.tasks) ≤ x.mem)
    pick e x (inl i) = f.room x i
    pick e x (inr p) =
        let z = nothing_there s.machines s.tasks f.told k (find_none (is_machine k) s.machines e) in
        let P : Machine → Type 0 = λ y. (weigh cpu_need (here y s.tasks) ≤ y.cpu) × (weigh mem_need (here y s.tasks) ≤ y.mem) in
        subst P (sym p) (le_trans (weigh_nothing cpu_need k s.tasks z) (omega arith), le_trans (weigh_nothing mem_need k s.tasks z) (omega arith))
sound_pre (Close k) s f = let p = opened_firm k false s.machines in record { fine = fine_pre (Close k) s f.fine; told = told_firm p s.tasks f.told; room = room_firm p s.tasks f.room }
sound_pre (Reopen k) s f = let p = opened_firm k true s.machines in record { fine = fine_pre (Reopen k) s f.fine; told = told_firm p s.tasks f.told; room = room_firm p s.tasks f.room }
sound_pre (Forget k) s f = record { fine = fine_pre (Forget k) s f.fine; told = told; room = λ m i. r m (in_keep (λ (x : Machine). not (is_machine k x)) s.machines m i).0 }
  where
    g : Task → Bool
    g t = not (on_machine k t)

    r : Fitting s.machines (keep g s.tasks)
    r = room_stay (λ x. Unit {0}) s.machines (pass_keep _ _ g s.tasks (λ x i e. tt) (λ x i e. stay_eq x x refl)) f.room

    told : Housed (keep (λ (m : Machine). not (is_machine k m)) s.machines) (keep g s.tasks)
    told t i w =
        let q = in_keep g s.tasks t i in let v = f.told t q.0 w in
        (v.0, keep_in (λ (m : Machine). not (is_machine k m)) s.machines v.0 v.1 (ap not (ap (eqb k) v.2 ∙ not_on k t (not-true _ q.1) w)), v.2, v.3)
sound_pre (Report k l n xs) s f = λ m ms e q. record { fine = fine_pre (Report k l n xs) s f.fine m ms e q; told = told_heard k l n xs s m ms e f.told; room = room_heard k l n xs s f.room }
sound_pre (Tick t) s f =
    let p = timed_stay (later t s.now) s.machines s.tasks in record { fine = fine_pre (Tick t) s f.fine; told = told_stay Never s.machines p f.told; room = room_stay Never s.machines p f.room }
sound_pre (Show n) s f = tt

-- calls keep it
pub sound_does : (c : Call) (s : State) → Sound s → Sound (does c s).state
sound_does c s f = does_keeps Sound sound_settle c s f (sound_pre c s f)

-- so does the dark
pub sound_down : (s : State) → Sound s → Sound (down s)
sound_down s f =
    let p = down_firm s in let q = down_stay s.tasks in
    record { fine = fine_down s f.fine; told = told_firm p _ (told_stay Never s.machines q f.told); room = room_firm p _ (room_stay Never s.machines q f.room) }

-- WHAT ONE AGENT COUNTS ON

-- of machine i: it is there as before, with its life and number, or is new; and what was on it is on it
pub record Keeps (i : ℕ) (s u : State) : Type 0 where
  pub on : (m : Machine) → In m s.machines → m.num ≡ i → (v : Machine) × In v u.machines × (v.num ≡ i) × (v.life ≡ m.life) × (v.number ≡ m.number)
  pub off : (v : Machine) → In v u.machines → v.num ≡ i → ((m : Machine) × In m s.machines × (m.num ≡ i) × (m.life ≡ v.life) × (m.number ≡ v.number)) ⊎ ((m : Machine) → In m s.machines → m.num ≡ i → ⊥)
  pub tasks : (k : ℕ) → OnIt s.tasks i k → OnIt u.tasks i k

pub keeps_refl : (i : ℕ) (s : State) → Keeps i s s
keeps_refl i s = record { on = λ m j e. (m, j, e, refl, refl); off = λ v j e. inl (v, j, e, refl, refl); tasks = λ k o. o }

pub keeps_settle : (i : ℕ) (s u : State) → Tidy u → Keeps i s u → Keeps i s (settle u)
keeps_settle i s u t h =
    let e = (unplaced_alike u).1 in
    record {
      on = subst (λ (ms : List Machine). (m : Machine) → In m s.machines → m.num ≡ i → (v : Machine) × In v ms × (v.num ≡ i) × (v.life ≡ m.life) × (v.number ≡ m.number)) (sym e) h.on;
      off = λ v j. h.off v (subst (λ (ms : List Machine). In v ms) e j);
      tasks = λ k o. on_settle u t i k (h.tasks k o);
    }

keeps_firm : (i : ℕ) (s u : State) → Pass NoMachine Firm s.machines u.machines → ((k : ℕ) → OnIt s.tasks i k → OnIt u.tasks i k) → Keeps i s u
keeps_firm i s u p h = record { on = λ m j e. let f = firm_to p m j in (f.0, f.1, f.2.0 ∙ e, f.2.1, f.2.2); off = λ v j e. let f = firm_from p v j in inl (f.0, f.1, sym f.2.0 ∙ e, sym f.2.1, sym f.2.2); tasks = h }

pub keeps_down : (i : ℕ) (s : State) → Keeps i s (down s)
keeps_down i s = keeps_firm i s (down s) (down_firm s) (λ k o. on_stay Never i (λ x d. absurd d) k (down_stay s.tasks) o)

keeps_same : (i : ℕ) (s u : State) → u.machines ≡ s.machines → ((k : ℕ) → OnIt s.tasks i k → OnIt u.tasks i k) → Keeps i s u
keeps_same i s u e h = keeps_firm i s u (subst (λ (ms : List Machine). Pass NoMachine Firm s.machines ms) (sym e) (pass_same NoMachine Firm s.machines (λ x j. firm_refl x))) h

abbrev Going : ℕ → State → State → Type 0
Going i s u = Tidy u × Keeps i s u

keeps_pre : (i : ℕ) (c : Call) (s : State) → Fine s → ((k l n : ℕ) (xs : List Seen) → c ≡ Report k l n xs → ⊥) → ((k : ℕ) → c ≡ Forget k → ⊥) → Pre (Going i s) c s
keeps_pre i (SetJob n a c l m) s f nr nf = let g = fine_pre (SetJob n a c l m) s f in (λ e. ((g.0 e).tidy, keeps_same i s _ refl (λ k o. o)), λ j js e. ((g.1 j js e).tidy, keeps_same i s _ refl (λ k o. o)))
keeps_pre i (EndJob n) s f nr nf = ((fine_pre (EndJob n) s f).tidy, keeps_same i s _ refl (λ k o. o))
keeps_pre i (AddMachine k c m tags) s f nr nf = λ e. ((fine_pre (AddMachine k c m tags) s f e).tidy, record { on = λ v j q. (v, in_left s.machines new v j, q, refl, refl); off = λ v j q. pick e v q (in_end v new s.machines j); tasks = λ k o. o })
  where
    new : Machine
    new = new_machine k c m tags

    pick : find (is_machine k) s.machines ≡ [] → (v : Machine) → v.num ≡ i → In v s.machines ⊎ (v ≡ new) → ((x : Machine) × In x s.machines × (x.num ≡ i) × (x.life ≡ v.life) × (x.number ≡ v.number)) ⊎ ((x : Machine) → In x s.machines → x.num ≡ i → ⊥)
    pick e v q (inl j) = inl (v, j, q, refl, refl)
    pick e v q (inr p) = inr (λ x j w. eqb-false k x.num (find_none (is_machine k) s.machines e x j) (sym (ap (λ (y : Machine). y.num) p) ∙ (q ∙ sym w)))
keeps_pre i (Close k) s f nr nf = ((fine_pre (Close k) s f).tidy, keeps_firm i s _ (opened_firm k false s.machines) (λ k o. o))
keeps_pre i (Reopen k) s f nr nf = ((fine_pre (Reopen k) s f).tidy, keeps_firm i s _ (opened_firm k true s.machines) (λ k o. o))
keeps_pre i (Forget k) s f nr nf = absurd (nf k refl)
keeps_pre i (Report k l n xs) s f nr nf = absurd (nr k l n xs refl)
keeps_pre i (Tick t) s f nr nf = ((fine_pre (Tick t) s f).tidy, keeps_same i s _ refl (λ k o. on_stay Never i (λ x d. absurd d) k (timed_stay (later t s.now) s.machines s.tasks) o))
keeps_pre i (Show n) s f nr nf = tt

-- what a person or the clock says keeps what an agent counts on
pub keeps_does : (i : ℕ) (c : Call) (s : State) → Fine s → ((k l n : ℕ) (xs : List Seen) → c ≡ Report k l n xs → ⊥) → ((k : ℕ) → c ≡ Forget k → ⊥) → Keeps i s (does c s).state
keeps_does i c s f nr nf = (does_keeps (Going i s) (λ u p. (tidy_settle u p.0, keeps_settle i s u p.0 p.1)) c s (f.tidy, keeps_refl i s) (keeps_pre i c s f nr nf)).1

other_machine : (i k : ℕ) (t : Task) → eqb i k ≡ false → on_machine k t ≡ true → on_machine i t ≡ false
other_machine i k t e h = elim (bool (on_machine i t)) [ inl p ↦ absurd (eqb-false i k e ((on_machine_lem i t p).1 ∙ sym (on_machine_lem k t h).1)) | inr p ↦ p ]

-- another machine is forgotten
pub keeps_forget : (i k : ℕ) (s : State) → Fine s → eqb i k ≡ false → Keeps i s (does (Forget k) s).state
keeps_forget i k s f e = (does_keeps (Going i s) (λ u p. (tidy_settle u p.0, keeps_settle i s u p.0 p.1)) (Forget k) s (f.tidy, keeps_refl i s) ((fine_pre (Forget k) s f).tidy, kept)).1
  where
    g : Machine → Bool
    g m = not (is_machine k m)

    kept : Keeps i s (forgotten k s)
    kept =
        record {
          on = λ m j q. (m, keep_in g s.machines m j (ap not (ne_eqb k m.num (λ w. eqb-false i k e (sym q ∙ sym w)))), q, refl, refl);
          off = λ v j q. inl (v, (in_keep g s.machines v j).0, q, refl, refl);
          tasks = λ n o. on_stay (λ x. on_machine k x ≡ true) i (λ x d. other_machine i k x e d) n (pass_keep _ _ (λ (t : Task). not (on_machine k t)) s.tasks (λ x j d. not-false _ d) (λ x j d. stay_eq x x refl)) o;
        }

-- another machine is heard of
pub keeps_heard : (i k l n : ℕ) (xs : List Seen) (s : State) → eqb i k ≡ false → Keeps i s (heard k l n xs s)
keeps_heard i k l n xs s e =
    record {
      on = λ m j q. (m, change_miss (is_machine k) (heard_from l n s.now) s.machines m j (ne_eqb k m.num (λ w. eqb-false i k e (sym q ∙ sym w))), q, refl, refl);
      off = λ v j q. pick v q (heard_firm k l n s.now s.machines v j);
      tasks = λ z o. on_pass (HeardGone k l xs) (HeardAs k l) i (λ x d. other_machine i k x e d.0) (λ x y r g. let w = heard_stay k l x y r in (w.0, stay_on i x y w ∙ g)) z (heard_pass k l xs s.tasks) o;
    }
  where
    pick : (v : Machine) → v.num ≡ i → (x : Machine) × In x s.machines × (v.num ≡ x.num) × (v.cpu ≡ x.cpu) × (v.mem ≡ x.mem) × ((v ≡ x) ⊎ ((is_machine k x ≡ true) × (v.life ≡ l) × (v.number ≡ n))) → ((m : Machine) × In m s.machines × (m.num ≡ i) × (m.life ≡ v.life) × (m.number ≡ v.number)) ⊎ ((m : Machine) → In m s.machines → m.num ≡ i → ⊥)
    pick v q (x, j, a, b, c, inl p) = inl (x, j, sym a ∙ q, sym (ap (λ (y : Machine). y.life) p), sym (ap (λ (y : Machine). y.number) p))
    pick v q (x, j, a, b, c, inr p) = absurd (eqb-false i k e ((sym q ∙ a) ∙ sym (eqb-true k x.num p.0)))
