-- What runs on a machine asks for no more than the machine has, each at the spec that was ordered.
-- Assumes nothing.
use Rattle.std.proofs.Common.{◌≡◌, ℕ, ◌+◌, ◌<◌, ◌≤◌, Bool, true, false, cond, not, T, ◌⊎◌, List, [], ◌∷◌, sym, refl, ap, ◌∙◌, subst, inl, inr, le_trans, arith}
use mathlib.Core.List.{Memᴰ}
use Rattle.std.proofs.lemmas.Bool.{eqb-true}
use Rattle.model.specs.Lists.{keep, find}
use Rattle.model.specs.State.{Machine, Spec, Task, State, is_ending, on_machine}
use Rattle.model.specs.Settle.{here, settle}
use Rattle.model.specs.Calls.{Seen, Call, Forget, Report, Order, Run, Out, orders, heard, does}
use Rattle.model.specs.World.{Agent, Back, World, put, is_order, Step, Reach}
use Rattle.model.specs.Promise.{ran}
use Rattle.model.specs.Always.{Within, FitsEverywhere, OrdersAll, asked, asked_by, RunsWithin}
use Rattle.model.proofs.Lists.{to_true, from_true, not_to_false, clash, never, In, in_from, in_to, find_in, in_keep, keep_in}
use Rattle.model.proofs.Tasks.{rising_one}
use Rattle.model.proofs.Settles.{Fine}
use Rattle.model.proofs.Room.{weigh, weigh_seen, seen_within}
use Rattle.model.proofs.Acts.{does_is, fine_settle, fine_heard}
use Rattle.model.proofs.Hold.{cpu_need, mem_need}
use Rattle.model.proofs.Keeps.{Sound}
use Rattle.model.proofs.Worlds.{anchored, Agrees, inv_reach, put_is}
use Rattle.model.proofs.Numbers.{Given, given_does, given_down}

-- AN ORDER IS OF A TASK BY THAT NUMBER, AT ITS SPEC, OR OF ONE THAT IS GONE

abbrev HasSpec : Order → Task → Type 0
HasSpec o t = t.spec ≡ o.spec

abbrev Known : Order → State → Type 0
Known o s = Given o.id (HasSpec o) s

known_does : (o : Order) (c : Call) (s : State) → Fine s → Known o s → Known o (does c s).state
known_does o c s f h = given_does o.id (HasSpec o) (λ x y p q. p.1 ∙ q) c s f h

orders_from : (ts : List Task) (o : Order) → In o (orders ts) → (t : Task) × In t ts × (t.id ≡ o.id) × (t.spec ≡ o.spec) × (is_ending t.phase ≡ false)
unfolding orders
orders_from [] o i = absurd i
orders_from (t ∷ ts) o i = pick (is_ending t.phase) refl i (λ j. orders_from ts o j)
  where
    Of : List Task → Type 0
    Of us = (u : Task) × In u us × (u.id ≡ o.id) × (u.spec ≡ o.spec) × (is_ending u.phase ≡ false)

    pick : (b : Bool) → is_ending t.phase ≡ b → In o (cond b (orders ts) (record { id = t.id; spec = t.spec } ∷ orders ts)) → (In o (orders ts) → Of ts) → Of (t ∷ ts)
    pick true p j r = let w = r j in (w.0, inr w.1, w.2, w.3, w.4)
    pick false p (inl e) r = (t, inl refl, sym (ap (λ (z : Order). z.id) e), sym (ap (λ (z : Order). z.spec) e), p)
    pick false p (inr j) r = let w = r j in (w.0, inr w.1, w.2, w.3, w.4)

orders_to : (ts : List Task) (t : Task) → In t ts → is_ending t.phase ≡ false → In (record { id = t.id; spec = t.spec }) (orders ts)
unfolding orders
orders_to [] t i e = absurd i
orders_to (u ∷ us) t i e = pick (is_ending u.phase) refl i (λ j. orders_to us t j e)
  where
    o : Task → Order
    o x = record { id = x.id; spec = x.spec }

    pick : (b : Bool) → is_ending u.phase ≡ b → In t (u ∷ us) → (In t us → In (o t) (orders us)) → In (o t) (cond b (orders us) (o u ∷ orders us))
    pick true p (inl q) r = clash (is_ending t.phase) (ap (λ (x : Task). is_ending x.phase) q ∙ p) e
    pick true p (inr j) r = r j
    pick false p (inl q) r = inl (ap o q)
    pick false p (inr j) r = inr (r j)

pub orders_all_lem : OrdersAll
orders_all_lem k l n xs s = does_is P (Report k l n xs) s (λ c i os e. never (cc)) (λ m ms e q i os r. let a : n ≡ i = cc in let b : orders (keep (on_machine k) u.tasks) ≡ os = cc in subst (λ (z : ℕ). Q u z os) a (subst (λ (zs : List Order). Q u n zs) b answered))
  where
    u : State
    u = settle (heard k l n xs s)

    Q : State → ℕ → List Order → Type 0
    Q v i os =
        (i ≡ n) × ((t : Task) → Memᴰ t v.tasks → T (on_machine k t) → T (not (is_ending t.phase)) → Memᴰ (record { id = t.id; spec = t.spec }) os) ×
        ((o : Order) → Memᴰ o os → (t : Task) × Memᴰ t v.tasks × T (on_machine k t) × T (not (is_ending t.phase)) × (t.id ≡ o.id) × (t.spec ≡ o.spec))

    P : Out → Type 0
    P z = (i : ℕ) (os : List Order) → z.reply ≡ Run i os → Q z.state i os

    on : List Task
    on = keep (on_machine k) u.tasks

    answered : Q u n (orders on)
    answered = (
      refl,
      λ t ti h e. in_to (record { id = t.id; spec = t.spec }) (orders on) (orders_to on t (keep_in (on_machine k) u.tasks t (in_from ti) (to_true _ h)) (not_to_false _ e)),
      λ o oi. let w = orders_from on o (in_from oi) in let p = in_keep (on_machine k) u.tasks w.0 w.1 in (w.0, in_to w.0 u.tasks p.0, from_true _ p.1, from_true _ (ap not w.4), w.2, w.3),
    )

-- what is ordered of what is on a machine is known as it is
known_here : (s : State) → Fine s → (i : ℕ) (o : Order) → In o (orders (keep (on_machine i) s.tasks)) → Known o s
known_here s f i o j =
    let w = orders_from (keep (on_machine i) s.tasks) o j in let k = (in_keep (on_machine i) s.tasks w.0 w.1).0 in
    (subst (λ (n : ℕ). n < s.next_id) w.2 (f.tidy.1 w.0 k), λ t ti e. ap (λ (x : Task). x.spec) (rising_one 0 s.tasks f.tidy.0 t w.0 ti k (e ∙ sym w.2)) ∙ w.3)

known_run : (i l n : ℕ) (xs : List Seen) (s : State) → Fine s → (k : ℕ) (os : List Order) → (does (Report i l n xs) s).reply ≡ Run k os → (o : Order) → In o os → Known o (does (Report i l n xs) s).state
known_run i l n xs s f = does_is P (Report i l n xs) s (λ c k os e. never (cc)) (λ m ms e q k os r o j. let d : orders (keep (on_machine i) u.tasks) ≡ os = cc in known_here u (fine_settle _ (fine_heard i l n xs s f)) i o (subst (λ (ys : List Order). In o ys) (sym d) j))
  where
    u : State
    u = settle (heard i l n xs s)

    P : Out → Type 0
    P z = (k : ℕ) (os : List Order) → z.reply ≡ Run k os → (o : Order) → In o os → Known o z.state

-- IN EVERY WORLD: so are all orders that agents have, and all that were sent

record AllKnown (w : World) : Type 0 where
  agents : (i : ℕ) (o : Order) → In o (w.agent i).ordered → Known o w.herd
  backs : (i l n : ℕ) (os : List Order) → In (Back i l n os) w.sent → (o : Order) → In o os → Known o w.herd

-- the herd goes on
known_herd : (w : World) (s : State) → ((o : Order) → Known o w.herd → Known o s) → AllKnown w → AllKnown (record { herd = s; agent = w.agent; sent = w.sent })
known_herd w s k h = record { agents = λ i o j. k o (h.agents i o j); backs = λ i l n os j o oj. k o (h.backs i l n os j o oj) }

-- an agent has other orders
known_put : (w : World) (i : ℕ) (a : Agent) → ((o : Order) → In o a.ordered → Known o w.herd) → AllKnown w → AllKnown (record { herd = w.herd; agent = put i a w.agent; sent = w.sent })
known_put w i a k h = record { agents = put_is (λ (j : ℕ) (b : Agent). (o : Order) → In o b.ordered → Known o w.herd) i a w.agent k (λ j e. h.agents j); backs = h.backs }

known_step : {w v : World} → Sound w.herd → AllKnown w → Step w v → AllKnown v
known_step s h (Step.says w c nr nf) = known_herd w _ (λ o q. known_does o c w.herd s.fine q) h
known_step s h (Step.forgets w k) = known_put (record { herd = (does (Forget k) w.herd).state; agent = w.agent; sent = w.sent }) k _ (λ o j. absurd j) (known_herd w _ (λ o q. known_does o (Forget k) w.herd s.fine q) h)
known_step s h (Step.forgets_off w k n o x) = known_herd w _ (λ p q. known_does p (Forget k) w.herd s.fine q) h
known_step s h (Step.falls w) = known_herd w _ (λ o q. given_down o.id (HasSpec o) (λ x y p r. p.1 ∙ r) w.herd q) h
known_step s h (Step.comes_up w i) = known_put w i _ (λ o j. absurd j) h
known_step s h (Step.reports w i l) = let p = known_put w i _ (h.agents i) h in record { agents = p.agents; backs = λ i' l' n' os j. elim j [ inl e ↦ never (cc) | inr q ↦ h.backs i' l' n' os q ] }
known_step s h (Step.hears w i l n xs k os m e) =
    let p = known_herd w (does (Report i l n xs) w.herd).state (λ o q. known_does o (Report i l n xs) w.herd s.fine q) h in
    record { agents = p.agents; backs = λ i' l' n' os' j. elim j [ inl q ↦ (λ o oj. let d : os' ≡ os = cc in known_run i l n xs w.herd s.fine k os e o (subst (λ (ys : List Order). In o ys) d oj)) | inr q ↦ p.backs i' l' n' os' q ] }
known_step s h (Step.hears_not w i l n xs m e) = known_herd w _ (λ o q. known_does o (Report i l n xs) w.herd s.fine q) h
known_step s h (Step.obeyed w i os m) = known_put w i _ (λ o j. h.backs i _ _ os (in_from m) o j) h
known_step s h (Step.starts w i o m n) = known_put w i _ (h.agents i) h
known_step s h (Step.becomes w i before behind x b e) = known_put w i _ (h.agents i) h
known_step s h (Step.dies w i before behind x e) = known_put w i _ (h.agents i) h

known_reach : {w : World} → Reach w → AllKnown w
known_reach Reach.begin = record { agents = λ i o j. absurd j; backs = λ i l n os j. absurd j }
known_reach (Reach.then r s) = known_step (inv_reach r).sound (known_reach r) s

-- SUMS

asked_is : (need : Spec → ℕ) (os : List Order) (xs : List Seen) → asked_by need os xs ≡ weigh_seen (λ (x : Seen). asked need (find (is_order x.id) os)) xs
unfolding asked_by weigh_seen
asked_is need os [] = refl
asked_is need os (x ∷ xs) = ap (λ (n : ℕ). asked need (find (is_order x.id) os) + n) (asked_is need os xs)

asked_of : (need : Spec → ℕ) (i : ℕ) (os : List Order) (a : Spec) → ((o : Order) → In o os → i ≡ o.id → a ≡ o.spec) → (ps : List Order) → find (is_order i) os ≡ ps → asked need ps ≤ need a
unfolding asked
asked_of need i os a h [] e = omega arith
asked_of need i os a h (o ∷ ps) e = let f = find_in (is_order i) os o ps e in let q : need a ≡ need o.spec = ap need (h o f.0 (eqb-true i o.id f.1)) in omega arith

pub runs_within_lem : RunsWithin
runs_within_lem w r m mi = record { ordered = λ x xi. let o = g.runs x (in_from xi) in (o.0, in_to o.0 a.ordered o.1, o.2); known = known; cpu = fits (λ (b : Spec). b.cpu) m.cpu room.0; mem = fits (λ (b : Spec). b.mem) m.mem room.1 }
  where
    a : Agent
    a = w.agent m.num

    ts : List Task
    ts = here m w.herd.tasks

    g : Agrees w.herd w.sent m.num a
    g = (inv_reach r).agents m.num

    room : (weigh cpu_need ts ≤ m.cpu) × (weigh mem_need ts ≤ m.mem)
    room = (inv_reach r).sound.room m (in_from mi)

    known : (o : Order) → Memᴰ o a.ordered → (t : Task) × Memᴰ t ts × (t.id ≡ o.id) × (t.spec ≡ o.spec)
    known o oi =
        let t = (g.ordered o (in_from oi)).1 in
        (t.0, in_to t.0 ts (keep_in (on_machine m.num) w.herd.tasks t.0 t.1 t.3), t.2, ((known_reach r).agents m.num o (in_from oi)).1 t.0 t.1 t.2)

    on : (need : Spec → ℕ) (x : Seen) → In x a.runs → (t : Task) × In t ts × (t.id ≡ x.id) × (asked need (find (is_order x.id) a.ordered) ≤ need t.spec)
    on need x j =
        let o = g.runs x j in let t = (g.ordered o.0 o.1).1 in let e : t.0.id ≡ x.id = t.2 ∙ o.2 in
        (t.0, keep_in (on_machine m.num) w.herd.tasks t.0 t.1 t.3, e, asked_of need x.id a.ordered t.0.spec (λ p pj q. ((known_reach r).agents m.num p pj).1 t.0 t.1 (e ∙ q)) _ refl)

    fits : (need : Spec → ℕ) (has : ℕ) → weigh (λ (t : Task). need t.spec) ts ≤ has → asked_by need a.ordered a.runs ≤ has
    fits need has h = subst (λ (n : ℕ). n ≤ has) (sym (asked_is need a.ordered a.runs)) (le_trans (seen_within _ (λ (t : Task). need t.spec) a.runs ts g.once (on need)) h)

pub fits_everywhere_lem : FitsEverywhere
fits_everywhere_lem w r i = pick (ran w i) refl
  where
    pick : (xs : List Seen) → ran w i ≡ xs → (ran w i ≡ []) ⊎ ((m : Machine) × Memᴰ m w.herd.machines × (m.num ≡ i) × (m.life ≡ (w.agent i).life) × Within w.herd m (w.agent i))
    pick [] e = inl e
    pick (x ∷ xs) e =
        let a = anchored w r i x (subst (λ (ys : List Seen). Memᴰ x ys) (sym e) (in_to x (x ∷ xs) (inl refl))) in
        inr (a.0, a.1, a.2, a.3, subst (λ (j : ℕ). Within w.herd a.0 (w.agent j)) a.2 (runs_within_lem w r a.0 a.1))
