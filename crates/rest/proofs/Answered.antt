-- The next report of a machine that the herd has is answered, as long as numbers are left.
-- Assumes nothing.
use Rattle.std.proofs.Common.{◌≡◌, ℕ, suc, ◌+◌, ◌<◌, ◌≤◌, Bool, true, false, cond, not, ◌&&◌, ◌||◌, eqb, ltb, leb, ◌⊎◌, List, [], ◌∷◌, ◌++◌, length, sym, refl, ap, ◌∙◌, subst, inl, inr, le_trans, arith}
use Rattle.std.proofs.lemmas.Bool.{and_parts, and_left, ltb-true, lt-leb, le-ltb, eqb-true, eq-eqb, ne_eqb, cond_both}
use Rattle.model.specs.State.{Machine, Job, Task, State, is_ready_lem, is_ending, is_machine, on_machine, phased, Told, with_tasks}
use Rattle.model.specs.Lists.{keep, find, change}
use Rattle.model.specs.Settle.{mine, alive, new_ones, ended, fresh, orphans_end, settle, may_grow_lem, more, unplaced}
use Rattle.model.specs.Calls.{Seen, Call, SetJob, EndJob, AddMachine, Close, Reopen, Forget, Report, Tick, Show, Order, Run, Out, no, answers_report, reports, orders, opened, later, acts, is_tick, does, down, new_machine, heard}
use Rattle.model.specs.World.{Agent, Word, Up, Back, World, put, may_run, Step, Reach}
use Rattle.rest.specs.Rest.{said_by, IsAnswered}
use Rattle.model.proofs.Lists.{clash, In, in_from, in_end, in_keep, find_none, Pass, done, gone, goes, pass_from, pass_keep, pass_change, pass_map, find_in}
use Rattle.model.proofs.Tasks.{orphans_pass, ended_pass, MayEnd, step_is, steps_are, Put, Never}
use Rattle.model.proofs.Settles.{Tidy, tidy_pass, tidy_step, orphan_id, unplaced_alike, settle_pass, Fine}
use Rattle.model.proofs.Acts.{Pre, does_keeps, heard_pass, fine_heard, fine_timed, fine_settle, fine_pre, fine_down}
use Rattle.model.proofs.Keeps.{heard_firm}
use Rattle.model.proofs.Worlds.{hears_is, hears_not_lem, Inv, inv_reach}
use Rattle.rest.proofs.Knows.{unsured}

-- HOW MANY TASKS

pass_length : {A : Type 0} (D : A → Type 0) (R : A → A → Type 0) {xs ys : List A} → Pass D R xs ys → length ys ≤ length xs
pass_length D R done = omega arith
pass_length D R (gone {xs = xs} {ys = ys} d p) = let i : length ys ≤ length xs = pass_length D R p in omega arith
pass_length D R (goes {xs = xs} {ys = ys} r p) = let i : length ys ≤ length xs = pass_length D R p in omega arith

length_end : {A : Type 0} (xs : List A) (y : A) → length (xs ++ (y ∷ [])) ≡ suc (length xs)
length_end [] y = refl
length_end (x ∷ xs) y = ap suc (length_end xs y)

length_keep : {A : Type 0} (f : A → Bool) (xs : List A) → length (keep f xs) ≤ length xs
length_keep f xs = pass_length (λ x. Unit {0}) (λ x y. Unit {0}) (pass_keep _ _ f xs (λ x i e. tt) (λ x i e. tt))

abbrev Few : State → Type 0
Few s = Fine s × (length s.tasks ≤ 2048)

few_settle : (s : State) → Few s → Few (settle s)
unfolding ended
few_settle s (f, h) = (fine_settle s f, le_trans (pass_length Never Put (settle_pass s f.tidy)) all.1)
  where
    P : State → Type 0
    P u = Tidy u × (length u.tasks ≤ 2048)

    ending : (j : Job) (u : State) → P u → (xs : List Task) → MayEnd u j xs → length (ended xs u.tasks) ≤ 2048
    ending j u p [] m = p.1
    ending j u p (x ∷ xs) m = le_trans (pass_length _ _ (ended_pass 0 u.tasks p.0.0 x m.0 xs)) p.1

    coming : (j : Job) (u : State) → may_grow_lem j u ≡ true → length (more j u).tasks ≤ 2048
    coming j u g =
        let x = ltb (length (new_ones j (alive (mine j u.tasks)))) j.count in let y = ltb (length (mine j u.tasks)) j.most in let z = ltb (length u.tasks) 2048 in let n = ltb u.next_id 4611686018427387904 in
        let a : length u.tasks < 2048 = ltb-true (length u.tasks) 2048 (and_parts (x && y) z (and_parts (x && y && z) n g).0).1 in
        let e : length (u.tasks ++ (fresh j u.next_id ∷ [])) ≡ suc (length u.tasks) = length_end u.tasks (fresh j u.next_id) in omega arith

    all : P (unplaced s)
    all = steps_are P s.jobs (with_tasks (orphans_end s.jobs s.tasks) s) (λ j ji u p. (tidy_step j u p.0, step_is (λ (v : State). length v.tasks ≤ 2048) j u (ending j u p) (λ xs m g. coming j (with_tasks (ended xs u.tasks) u) g)))
        (tidy_pass _ _ (orphan_id s.jobs) s (orphans_pass s.jobs s.tasks) f.tidy, le_trans (pass_length _ _ (orphans_pass s.jobs s.tasks)) h)

few_pre : (c : Call) (s : State) → Few s → Pre Few c s
few_pre (SetJob n a c l m) s (f, h) = let g = fine_pre (SetJob n a c l m) s f in (λ e. (g.0 e, h), λ j js e. (g.1 j js e, h))
few_pre (EndJob n) s (f, h) = (fine_pre (EndJob n) s f, h)
few_pre (AddMachine k c m tags) s (f, h) = λ e. (fine_pre (AddMachine k c m tags) s f e, h)
few_pre (Close k) s (f, h) = (fine_pre (Close k) s f, h)
few_pre (Reopen k) s (f, h) = (fine_pre (Reopen k) s f, h)
few_pre (Forget k) s (f, h) = (fine_pre (Forget k) s f, le_trans (length_keep (λ (t : Task). not (on_machine k t)) s.tasks) h)
few_pre (Report k l n xs) s (f, h) = λ m ms e q. (fine_heard k l n xs s f, le_trans (pass_length _ _ (heard_pass k l xs s.tasks)) h)
few_pre (Tick t) s (f, h) = (fine_timed (later t s.now) s f, le_trans (pass_length _ _ (unsured (later t s.now) s.machines s.tasks)) h)
few_pre (Show n) s fh = tt

few_does : (c : Call) (s : State) → Few s → Few (does c s).state
few_does c s h = does_keeps Few few_settle c s h (few_pre c s h)

few_down : (s : State) → Few s → Few (down s)
few_down s (f, h) = (fine_down s f, le_trans (pass_length (λ x. ⊥) (λ x y. Unit {0}) (pass_map _ _ (λ (t : Task). cond (is_ready_lem t.phase) (phased Told t) t) s.tasks (λ t i. tt))) h)

orders_few : (ts : List Task) → length (orders ts) ≤ length ts
unfolding orders
orders_few [] = omega arith
orders_few (t ∷ ts) = pick (is_ending t.phase) (orders_few ts)
  where
    pick : (b : Bool) → length (orders ts) ≤ length ts → length (cond b (orders ts) (record { id = t.id; spec = t.spec } ∷ orders ts)) ≤ suc (length ts)
    pick true h = omega arith
    pick false h = omega arith

says_few : (rs : List Seen) (os : List Order) → length (may_run rs os) ≡ length os
unfolding may_run
says_few rs [] = refl
says_few rs (o ∷ os) = ap suc (says_few rs os)

-- HOW FAR THE HERD HAS HEARD

abbrev Before : Machine → Agent → Type 0
Before m a = (m.life ≤ a.life) × (m.life ≡ a.life → m.number ≤ a.number)

abbrev AllBefore : (ℕ → Agent) → State → Type 0
AllBefore f s = (m : Machine) → In m s.machines → Before m (f m.num)

abbrev Same : Machine → Machine → Type 0
Same x y = (y.num ≡ x.num) × (y.life ≡ x.life) × (y.number ≡ x.number)

before_pass : (f : ℕ → Agent) (D : Machine → Type 0) {xs ys : List Machine} → Pass D Same xs ys → ((m : Machine) → In m xs → Before m (f m.num)) → (m : Machine) → In m ys → Before m (f m.num)
before_pass f D p h m i =
    let q = pass_from D Same p m i in let r = q.3 in
    let n = ap (λ (z : Machine). z.num) q.4 ∙ r.0 in let l = ap (λ (z : Machine). z.life) q.4 ∙ r.1 in let k = ap (λ (z : Machine). z.number) q.4 ∙ r.2 in
    let b = h q.0 q.1 in
    subst (λ (j : ℕ). Before m (f j)) (sym n) (subst (λ (x : ℕ). x ≤ (f q.0.num).life) (sym l) b.0, λ e. subst (λ (x : ℕ). x ≤ (f q.0.num).number) (sym k) (b.1 (sym l ∙ e)))

before_settle : (f : ℕ → Agent) (u : State) → AllBefore f u → AllBefore f (settle u)
before_settle f u h = subst (λ (ms : List Machine). (m : Machine) → In m ms → Before m (f m.num)) (sym (unplaced_alike u).1) h

before_change : (f : ℕ → Agent) (k : ℕ) (b : Bool) (ms : List Machine) → ((m : Machine) → In m ms → Before m (f m.num)) → (m : Machine) → In m (change (is_machine k) (opened b) ms) → Before m (f m.num)
before_change f k b ms h = before_pass f (λ x. ⊥) (pass_change (λ x. ⊥) Same (is_machine k) (opened b) ms (λ x i. (refl, refl, refl)) (λ x i e. (refl, refl, refl))) h

before_forget : (f : ℕ → Agent) (k : ℕ) (ms : List Machine) → ((m : Machine) → In m ms → Before m (f m.num)) → (m : Machine) → In m (keep (λ (x : Machine). not (is_machine k x)) ms) → Before m (f m.num)
before_forget f k ms h m i = h m (in_keep (λ (x : Machine). not (is_machine k x)) ms m i).0

before_pre : (f : ℕ → Agent) (c : Call) (s : State) → ((k l n : ℕ) (xs : List Seen) → c ≡ Report k l n xs → ⊥) → AllBefore f s → Pre (AllBefore f) c s
before_pre f (SetJob n a c l m) s nr h = (λ e. h, λ j js e. h)
before_pre f (EndJob n) s nr h = h
before_pre f (AddMachine k c m tags) s nr h = λ e x i. elim (in_end x (new_machine k c m tags) s.machines i) [ inl j ↦ h x j | inr p ↦ subst (λ (z : Machine). Before z (f z.num)) (sym p) (omega arith, λ q. omega arith) ]
before_pre f (Close k) s nr h = before_change f k false s.machines h
before_pre f (Reopen k) s nr h = before_change f k true s.machines h
before_pre f (Forget k) s nr h = before_forget f k s.machines h
before_pre f (Report k l n xs) s nr h = absurd (nr k l n xs refl)
before_pre f (Tick t) s nr h = h
before_pre f (Show n) s nr h = tt

before_heard : (f : ℕ → Agent) (i l n : ℕ) (xs : List Seen) (s : State) → (l ≤ (f i).life) × (l ≡ (f i).life → n ≤ (f i).number) → AllBefore f s → AllBefore f (heard i l n xs s)
before_heard f i l n xs s u h m j = pick (heard_firm i l n s.now s.machines m j)
  where
    pick : (x : Machine) × In x s.machines × (m.num ≡ x.num) × (m.cpu ≡ x.cpu) × (m.mem ≡ x.mem) × ((m ≡ x) ⊎ ((is_machine i x ≡ true) × (m.life ≡ l) × (m.number ≡ n))) → Before m (f m.num)
    pick (x, k, a, b, c, inl p) = subst (λ (z : Machine). Before z (f z.num)) (sym p) (h x k)
    pick (x, k, a, b, c, inr p) =
        let e : m.num ≡ i = a ∙ sym (eqb-true i x.num p.0) in
        subst (λ (z : ℕ). Before m (f z)) (sym e) (subst (λ (z : ℕ). z ≤ (f i).life) (sym p.1) u.0, λ q. subst (λ (z : ℕ). z ≤ (f i).number) (sym p.2) (u.1 (sym p.1 ∙ q)))

-- an agent goes on
before_put : (i : ℕ) (a : Agent) (f : ℕ → Agent) (s : State) → ((m : Machine) → Before m (f i) → Before m a) → AllBefore f s → AllBefore (put i a f) s
before_put i a f s g h m j = cond_both (eqb m.num i) a (f m.num) (Before m) (λ e. g m (subst (λ (k : ℕ). Before m (f k)) (eqb-true m.num i e) (h m j))) (λ e. h m j)

-- WHAT IS ORDERED IS FEW

pub record Counts (w : World) : Type 0 where
  pub few : Few w.herd
  pub backs : (i l n : ℕ) (os : List Order) → In (Back i l n os) w.sent → length os ≤ 2048
  pub ordered : (i : ℕ) → length (w.agent i).ordered ≤ 2048
  pub before : AllBefore w.agent w.herd

never : {C : Type 0} → ◌≡◌ {A = ℕ} 0 1 → C
never z = absurd (omega arith)

few_put : (i : ℕ) (a : Agent) (f : ℕ → Agent) → length a.ordered ≤ 2048 → ((j : ℕ) → length (f j).ordered ≤ 2048) → (j : ℕ) → length (put i a f j).ordered ≤ 2048
few_put i a f h r j = cond_both (eqb j i) a (f j) (λ (x : Agent). length x.ordered ≤ 2048) (λ e. h) (λ e. r j)

up_back : (i l n : ℕ) (os : List Order) (i' l' n' : ℕ) (xs : List Seen) (ws : List Word) → In (Back i l n os) (Up i' l' n' xs ∷ ws) → In (Back i l n os) ws
up_back i l n os i' l' n' xs ws (inl p) = never (cc)
up_back i l n os i' l' n' xs ws (inr k) = k

none_few : length {A = Order} [] ≤ 2048
none_few = omega arith

pub counts_step : {w v : World} → Inv w → Counts w → Step w v → Counts v
counts_step h c (Step.says w k nr nf) = record { few = few_does k w.herd c.few; backs = c.backs; ordered = c.ordered; before = does_keeps (AllBefore w.agent) (before_settle w.agent) k w.herd c.before (before_pre w.agent k w.herd nr c.before) }
counts_step h c (Step.forgets w k) =
    record {
      few = few_does (Forget k) w.herd c.few;
      backs = c.backs;
      ordered = few_put k _ w.agent none_few c.ordered;
      before = before_put k _ w.agent (does (Forget k) w.herd).state (λ m b. let l : m.life ≤ (w.agent k).life = b.0 in (omega arith, λ e. absurd (omega arith))) (does_keeps (AllBefore w.agent) (before_settle w.agent) (Forget k) w.herd c.before (before_pre w.agent (Forget k) w.herd (λ k' l n xs e. never (cc)) c.before));
    }
counts_step h c (Step.forgets_off w k n o e) = record { few = few_does (Forget k) w.herd c.few; backs = c.backs; ordered = c.ordered; before = does_keeps (AllBefore w.agent) (before_settle w.agent) (Forget k) w.herd c.before (before_pre w.agent (Forget k) w.herd (λ k' l n' xs e'. never (cc)) c.before) }
counts_step h c (Step.falls w) = record { few = few_down w.herd c.few; backs = c.backs; ordered = c.ordered; before = before_pass w.agent (λ x. ⊥) (pass_map (λ x. ⊥) Same _ w.herd.machines (λ x i. (refl, refl, refl))) c.before }
counts_step h c (Step.comes_up w i) = record { few = c.few; backs = c.backs; ordered = few_put i _ w.agent none_few c.ordered; before = before_put i _ w.agent w.herd (λ m b. let l : m.life ≤ (w.agent i).life = b.0 in (omega arith, λ e. absurd (omega arith))) c.before }
counts_step h c (Step.reports w i l) =
    record {
      few = c.few;
      backs = λ i' l' n' os k. c.backs i' l' n' os (up_back i' l' n' os i _ _ _ w.sent k);
      ordered = few_put i _ w.agent (c.ordered i) c.ordered;
      before = before_put i _ w.agent w.herd (λ m b. (b.0, λ e. let n : m.number ≤ (w.agent i).number = b.1 e in omega arith)) c.before;
    }
counts_step {v = v} h c (Step.hears w i l n xs k os m r) =
    record {
      few = few_does (Report i l n xs) w.herd c.few;
      backs = λ i' l' n' os' q. back i' l' n' os' q;
      ordered = c.ordered;
      before = hears_is (λ (k' : ℕ) (os' : List Order) (u : State). AllBefore w.agent u) i l n xs w.herd (λ x ms e q. before_settle w.agent _ (before_heard w.agent i l n xs w.herd up c.before)) k os r;
    }
  where
    up : (l ≤ (w.agent i).life) × (l ≡ (w.agent i).life → n ≤ (w.agent i).number)
    up = let z = (h.agents i).ups l n xs (in_from m) in (z.0, z.1)

    mine : length os ≤ 2048
    mine = hears_is (λ (k' : ℕ) (os' : List Order) (u : State). length os' ≤ 2048) i l n xs w.herd (λ x ms e q. let u = settle (heard i l n xs w.herd) in le_trans (orders_few (keep (on_machine i) u.tasks)) (le_trans (length_keep (on_machine i) u.tasks) (few_settle _ (fine_heard i l n xs w.herd c.few.0, le_trans (pass_length _ _ (heard_pass i l xs w.herd.tasks)) c.few.1)).1)) k os r

    back : (i' l' n' : ℕ) (os' : List Order) → In (Back i' l' n' os') (Back i l k os ∷ w.sent) → length os' ≤ 2048
    back i' l' n' os' (inl p) = let e : os' ≡ os = cc in subst (λ (zs : List Order). length zs ≤ 2048) (sym e) mine
    back i' l' n' os' (inr q) = c.backs i' l' n' os' q
counts_step h c (Step.hears_not w i l n xs m r) = subst (λ (u : State). Counts (record { herd = u; agent = w.agent; sent = w.sent })) (hears_not_lem i l n xs w.herd r) c
counts_step h c (Step.obeyed w i os m) = record { few = c.few; backs = c.backs; ordered = few_put i _ w.agent (c.backs i _ _ os (in_from m)) c.ordered; before = before_put i _ w.agent w.herd (λ x b. b) c.before }
counts_step h c (Step.starts w i o m n) = record { few = c.few; backs = c.backs; ordered = few_put i _ w.agent (c.ordered i) c.ordered; before = before_put i _ w.agent w.herd (λ x b. b) c.before }
counts_step h c (Step.becomes w i before behind x b e) = record { few = c.few; backs = c.backs; ordered = few_put i _ w.agent (c.ordered i) c.ordered; before = before_put i _ w.agent w.herd (λ x b. b) c.before }
counts_step h c (Step.dies w i before behind x e) = record { few = c.few; backs = c.backs; ordered = few_put i _ w.agent (c.ordered i) c.ordered; before = before_put i _ w.agent w.herd (λ x b. b) c.before }

pub counts_reach : {w : World} → Reach w → Counts w
counts_reach Reach.begin = record { few = (record { jobs = tt; machines = tt; tidy = (tt, λ t i. absurd i) }, omega arith); backs = λ i l n os k. absurd k; ordered = λ i. none_few; before = λ m i. absurd i }
counts_reach (Reach.then r s) = counts_step (inv_reach r) (counts_reach r) s

-- ANSWERED

pub is_answered : IsAnswered
unfolding acts reports
is_answered w m r mi t lo no' = answer (find (is_machine i) s₀) refl
  where
    i : ℕ
    i = m.num

    s : State
    s = w.herd

    s₀ : List Machine
    s₀ = s.machines

    a : Agent
    a = w.agent i

    c : Counts w
    c = counts_reach r

    xs : List Seen
    xs = said_by a

    call : Call
    call = Report i a.life (a.number + 1) xs

    fits : (ltb 4611686018427387904 a.life || ltb 4611686018427387904 (a.number + 1) || ltb 2048 (length xs)) ≡ false
    fits = or_none _ _ (or_none _ _ (le-ltb 4611686018427387904 a.life lo) (le-ltb 4611686018427387904 (a.number + 1) (omega arith))) (le-ltb 2048 (length xs) (subst (λ (k : ℕ). k ≤ 2048) (sym (says_few a.runs a.ordered)) (c.ordered i)))
      where
        or_none : (x y : Bool) → x ≡ false → y ≡ false → x || y ≡ false
        or_none true y p q = p
        or_none false y p q = q

    clock : eqb s.now 0 && not (is_tick call) ≡ false
    clock = and_left _ _ (ne_eqb s.now 0 (λ e. let z : 0 < s.now = t in omega arith))

    news : (x : Machine) (ys : List Machine) → find (is_machine i) s₀ ≡ x ∷ ys → (ltb a.life x.life || (eqb a.life x.life && leb (a.number + 1) x.number)) ≡ false
    news x ys e =
        let q = find_in (is_machine i) s₀ x ys e in
        let b : Before x a = subst (λ (k : ℕ). Before x (w.agent k)) (sym (eqb-true i x.num q.1)) (c.before x q.0) in
        or_none _ _ (le-ltb a.life x.life b.0) (pick b (eqb a.life x.life) refl)
      where
        or_none : (x y : Bool) → x ≡ false → y ≡ false → x || y ≡ false
        or_none true y p q = p
        or_none false y p q = q

        pick : Before x a → (k : Bool) → eqb a.life x.life ≡ k → k && leb (a.number + 1) x.number ≡ false
        pick b true p = let z : x.number ≤ a.number = b.1 (sym (eqb-true a.life x.life p)) in lt-leb (a.number + 1) x.number (omega arith)
        pick b false p = refl

    through : (ms : List Machine) → find (is_machine i) s₀ ≡ ms → does call s ≡ reports i a.life (a.number + 1) xs ms s
    through ms e = ap (λ (b : Bool). cond b (no 10 s) (acts call s)) clock ∙ (ap (λ (b : Bool). cond b (no 1 s) (reports i a.life (a.number + 1) xs (find (is_machine i) s₀) s)) fits ∙ ap (λ (ms' : List Machine). reports i a.life (a.number + 1) xs ms' s) e)

    answer : (ms : List Machine) → find (is_machine i) s₀ ≡ ms → (os : List Order) × ((does call s).reply ≡ Run (a.number + 1) os)
    answer [] e = clash (is_machine i m) (eq-eqb i m.num refl) (find_none (is_machine i) s₀ e m (in_from mi))
    answer (x ∷ ys) e =
        let u = settle (heard i a.life (a.number + 1) xs s) in
        (orders (keep (on_machine i) u.tasks), ap (λ (o : Out). o.reply) (through (x ∷ ys) e ∙ ap (λ (b : Bool). cond b (no 5 s) (answers_report i (a.number + 1) u)) (news x ys e)))
