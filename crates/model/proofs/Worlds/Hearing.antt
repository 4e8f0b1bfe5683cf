-- A report that is heard keeps the agreement: what its agent has ordered is in it, or the agent has nothing ordered.
-- Assumes nothing.
use Rattle.std.proofs.Common.{◌≡◌, ℕ, ◌<◌, ◌≤◌, Bool, true, false, cond, ◌&&◌, ◌||◌, eqb, ltb, leb, ◌⊎◌, List, [], ◌∷◌, sym, refl, ap, ◌∙◌, subst, inl, inr, arith}
use Rattle.std.proofs.lemmas.Bool.{and_cases, or_parts, ltb-false, leb-false, eqb-true, eqb-false}
use Rattle.model.specs.State.{Machine, Task, State, is_ending, is_machine, on_machine}
use Rattle.model.specs.Lists.{keep, find}
use Rattle.model.specs.Settle.{settle}
use Rattle.model.specs.Calls.{Seen, Report, Order, Reply, Run, Out, orders, seen_as, heard_from, does, heard}
use Rattle.model.specs.World.{Agent, Word, Up, Back}
use Rattle.model.proofs.Lists.{never, bool, In, find_in, in_keep, change_hit, pass_to}
use Rattle.model.proofs.Settles.{unplaced_alike, Fine}
use Rattle.model.proofs.Acts.{HeardGone, HeardAs, heard_pass, does_is, fine_heard}
use Rattle.model.proofs.Hold.{OnIt, stay_on, once_machine, on_settle}
use Rattle.model.proofs.Keeps.{Sound, heard_stay, on_machine_lem}
use Rattle.model.proofs.Worlds.Agreement.{News, At, Agrees}

-- what a report that is answered leaves
pub hears_is : (Q : ℕ → List Order → State → Type 0) (i l n : ℕ) (xs : List Seen) (s : State) → ((m : Machine) (ms : List Machine) → find (is_machine i) s.machines ≡ m ∷ ms → (ltb l m.life || (eqb l m.life && leb n m.number)) ≡ false → let u = settle (heard i l n xs s) in Q n (orders (keep (on_machine i) u.tasks)) u) → (k : ℕ) (os : List Order) → (does (Report i l n xs) s).reply ≡ Run k os → Q k os (does (Report i l n xs) s).state
hears_is Q i l n xs s h = does_is P (Report i l n xs) s (λ c k os e. never (cc)) (λ m ms e q k os r. taken k os m ms e q r)
  where
    P : Out → Type 0
    P o = (k : ℕ) (os : List Order) → o.reply ≡ Run k os → Q k os o.state

    u : State
    u = settle (heard i l n xs s)

    taken : (k : ℕ) (os : List Order) (m : Machine) (ms : List Machine) → find (is_machine i) s.machines ≡ m ∷ ms → (ltb l m.life || (eqb l m.life && leb n m.number)) ≡ false → ◌≡◌ {A = Reply} (Run n (orders (keep (on_machine i) u.tasks))) (Run k os) → Q k os u
    taken k os m ms e q r = let a : n ≡ k = cc in let b : orders (keep (on_machine i) u.tasks) ≡ os = cc in subst (λ (z : ℕ). Q z os u) a (subst (λ (zs : List Order). Q n zs u) b (h m ms e q))

-- a report that isn't answered leaves all as it was
pub hears_not_lem : (i l n : ℕ) (xs : List Seen) (s : State) → ((k : ℕ) (os : List Order) → (does (Report i l n xs) s).reply ≡ Run k os → ⊥) → s ≡ (does (Report i l n xs) s).state
hears_not_lem i l n xs s = does_is P (Report i l n xs) s (λ c h. refl) (λ m ms e q h. absurd (h n _ refl))
  where
    P : Out → Type 0
    P o = ((k : ℕ) (os : List Order) → o.reply ≡ Run k os → ⊥) → s ≡ o.state

pub is_news : (m : Machine) (l n : ℕ) → (ltb l m.life || (eqb l m.life && leb n m.number)) ≡ false → News m l n
is_news m l n e = let p = or_parts (ltb l m.life) (eqb l m.life && leb n m.number) e in pick (ltb-false l m.life p.0) (and_cases (eqb l m.life) (leb n m.number) p.1)
  where
    pick : m.life ≤ l → (eqb l m.life ≡ false) ⊎ (leb n m.number ≡ false) → News m l n
    pick h (inl q) = let z : l ≡ m.life → ⊥ = eqb-false l m.life q in inl (omega arith)
    pick h (inr q) = let z : m.number < n = leb-false n m.number q in same_or (bool (eqb l m.life))
      where
        same_or : (eqb l m.life ≡ true) ⊎ (eqb l m.life ≡ false) → News m l n
        same_or (inl c) = inr (sym (eqb-true l m.life c), leb-false n m.number q)
        same_or (inr c) = let z : l ≡ m.life → ⊥ = eqb-false l m.life c in inl (omega arith)

orders_in_fact : (ts : List Task) (o : Order) → In o (orders ts) → (t : Task) × In t ts × (t.id ≡ o.id)
unfolding orders
orders_in_fact [] o i = absurd i
orders_in_fact (t ∷ ts) o i = pick (is_ending t.phase) i (λ j. orders_in_fact ts o j)
  where
    pick : (b : Bool) → In o (cond b (orders ts) (record { id = t.id; spec = t.spec } ∷ orders ts)) → (In o (orders ts) → (u : Task) × In u ts × (u.id ≡ o.id)) → (u : Task) × In u (t ∷ ts) × (u.id ≡ o.id)
    pick true j r = let w = r j in (w.0, inr w.1, w.2)
    pick false (inl e) r = (t, inl refl, sym (ap (λ (z : Order). z.id) e))
    pick false (inr j) r = let w = r j in (w.0, inr w.1, w.2)

module _ (s : State) (f : Sound s) (ws : List Word) (i : ℕ) (a : Agent) (g : Agrees s ws i a) (l n : ℕ) (xs : List Seen) (up : In (Up i l n xs) ws) (m : Machine) (ms : List Machine) (e : find (is_machine i) s.machines ≡ m ∷ ms) (nw : News m l n) where
  abbrev pub told : State
  told = heard i l n xs s

  abbrev pub renewed : Machine
  renewed = heard_from l n s.now m

  pub mi : In m s.machines
  mi = (find_in (is_machine i) s.machines m ms e).0

  pub me : m.num ≡ i
  me = sym (eqb-true i m.num (find_in (is_machine i) s.machines m ms e).1)

  is_m : (v : Machine) → In v s.machines → v.num ≡ i → v ≡ m
  is_m v j q = once_machine s.machines f.fine.machines v m j mi (q ∙ sym me)

  same_machines : (settle told).machines ≡ told.machines
  same_machines = (unplaced_alike told).1

  fine_told : Fine told
  fine_told = fine_heard i l n xs s f.fine

  new_in : In renewed (settle told).machines
  new_in = subst (λ (zs : List Machine). In renewed zs) (sym same_machines) (change_hit (is_machine i) (heard_from l n s.now) s.machines m ms e)

  is_new_lem : (v : Machine) → In v (settle told).machines → v.num ≡ i → v ≡ renewed
  is_new_lem v j q =
      once_machine told.machines fine_told.machines v renewed (subst (λ (zs : List Machine). In v zs) same_machines j) (change_hit (is_machine i) (heard_from l n s.now) s.machines m ms e) (q ∙ sym me)

  -- what is ordered was of this life, and is in the report
  live : (v : Machine) × At s i a.life v → (l ≡ a.life) × (m.life ≡ l) × (m.number < n)
  live (v, (j, q, r)) =
      let b : l ≤ a.life = (g.ups l n xs up).0 in let c : m.life ≡ a.life = sym (ap (λ (z : Machine). z.life) (is_m v j q)) ∙ r in pick b c nw
    where
      pick : l ≤ a.life → m.life ≡ a.life → News m l n → (l ≡ a.life) × (m.life ≡ l) × (m.number < n)
      pick b c (inl h) = absurd (omega arith)
      pick b c (inr h) = (sym h.0 ∙ c, h.0, h.1)

  still : (o : Order) → In o a.ordered → OnIt (settle told).tasks i o.id
  still o oj =
      let h = g.ordered o oj in let w = live h.0 in let t = h.1 in
      on_settle told fine_told.tidy i o.id (pick t.0 t.1 t.2 t.3 w (pass_to (HeardGone i l xs) (HeardAs i l) (heard_pass i l xs s.tasks) t.0 t.1))
    where
      pick : (t : Task) → In t s.tasks → t.id ≡ o.id → on_machine i t ≡ true → (l ≡ a.life) × (m.life ≡ l) × (m.number < n) → ((y : Task) × In y told.tasks × HeardAs i l t y) ⊎ HeardGone i l xs t → OnIt told.tasks i o.id
      pick t j q p w (inl (y, k, r)) = let z = heard_stay i l t y r in (y, k, z.0 ∙ q, stay_on i t y z ∙ p)
      pick t j q p w (inr (c, inl d)) =
          let r = on_machine_lem i t p in let v = f.told t j r.0 in
          absurd (eqb-false l t.life d (sym w.1 ∙ (sym (ap (λ (z : Machine). z.life) (is_m v.0 v.1 (v.2 ∙ sym r.1))) ∙ v.3)))
      pick t j q p w (inr (c, inr d)) = absurd ((g.ups l n xs up).2 w.0 m mi me nw o oj (subst (λ (z : ℕ). seen_as z xs ≡ []) q d.1))

  -- the agent whose report is heard still agrees with the herd
  pub agrees_hears : Agrees (settle told) (Back i l n (orders (keep (on_machine i) (settle told).tasks)) ∷ ws) i a
  agrees_hears = record { ups = ups; backs = backs; ordered = λ o oj. let w = live (g.ordered o oj).0 in ((renewed, (new_in, me, w.0)), still o oj); runs = g.runs; once = g.once }
    where
      os : List Order
      os = orders (keep (on_machine i) (settle told).tasks)

      older : (v : Machine) → v ≡ renewed → (l' n' : ℕ) → News v l' n' → News m l n → News m l' n'
      older v p l' n' q r = let vl : v.life ≡ l = ap (λ (z : Machine). z.life) p in let vn : v.number ≡ n = ap (λ (z : Machine). z.number) p in both vl vn q r
        where
          both : v.life ≡ l → v.number ≡ n → News v l' n' → News m l n → News m l' n'
          both vl vn (inl q') (inl r') = inl (omega arith)
          both vl vn (inl q') (inr r') = inl (omega arith)
          both vl vn (inr q') (inl r') = inl (omega arith)
          both vl vn (inr q') (inr r') = inr (omega arith, omega arith)

      ups : (l' n' : ℕ) (xs' : List Seen) → In (Up i l' n' xs') (Back i l n os ∷ ws) → (l' ≤ a.life) × (l' ≡ a.life → n' ≤ a.number) × (l' ≡ a.life → (v : Machine) → In v (settle told).machines → v.num ≡ i → News v l' n' → (o : Order) → In o a.ordered → seen_as o.id xs' ≡ [] → ⊥)
      ups l' n' xs' (inl p) = never (cc)
      ups l' n' xs' (inr k) = let h = g.ups l' n' xs' k in (h.0, h.1, λ c v j q w. h.2 c m mi me (older v (is_new_lem v j q) l' n' w nw))

      backs : (l' n' : ℕ) (os' : List Order) → In (Back i l' n' os') (Back i l n os ∷ ws) → (l' ≤ a.life) × (l' ≡ a.life → n' ≤ a.number) × (l' ≡ a.life → (v : Machine) × At (settle told) i l' v × (n' ≤ v.number)) × (l' ≡ a.life → n' ≡ a.number → (o : Order) → In o os' → OnIt (settle told).tasks i o.id)
      backs l' n' os' (inl p) =
          let x : l' ≡ l = cc in let y : n' ≡ n = cc in let z : os' ≡ os = cc in let h = g.ups l n xs up in (
            subst (λ (c : ℕ). c ≤ a.life) (sym x) h.0,
            λ c. subst (λ (d : ℕ). d ≤ a.number) (sym y) (h.1 (sym x ∙ c)),
            λ c. (renewed, (new_in, me, sym x), omega arith),
            λ c d o oj. let t = orders_in_fact (keep (on_machine i) (settle told).tasks) o (subst (λ (zs : List Order). In o zs) z oj) in let r = in_keep (on_machine i) (settle told).tasks t.0 t.1 in (t.0, r.0, t.2, r.1),
          )
      backs l' n' os' (inr k) =
          let h = g.backs l' n' os' k in
          (h.0, h.1, λ c. old c, λ c d o oj. late c d)
        where
          old : l' ≡ a.life → (v : Machine) × At (settle told) i l' v × (n' ≤ v.number)
          old c =
              let v = (g.backs l' n' os' k).2 c in let w = live (v.0, (v.1.0, v.1.1, v.1.2 ∙ c)) in
              let vn : v.0.number ≡ m.number = ap (λ (z : Machine). z.number) (is_m v.0 v.1.0 v.1.1) in let nn : n' ≤ v.0.number = v.2 in let mn : m.number < n = w.2 in
              (renewed, (new_in, me, w.0 ∙ sym c), omega arith)

          late : {C : Type 0} → l' ≡ a.life → n' ≡ a.number → C
          late c d =
              let v = (g.backs l' n' os' k).2 c in let w = live (v.0, (v.1.0, v.1.1, v.1.2 ∙ c)) in
              let vn : v.0.number ≡ m.number = ap (λ (z : Machine). z.number) (is_m v.0 v.1.0 v.1.1) in let nn : n' ≤ v.0.number = v.2 in let mn : m.number < n = w.2 in
              let an : n ≤ a.number = (g.ups l n xs up).1 w.0 in
              absurd (omega arith)
