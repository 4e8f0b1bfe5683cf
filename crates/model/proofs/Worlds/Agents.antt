-- What an agent does keeps the agreement: it reports, obeys, starts and stops.
-- Assumes nothing.
use Rattle.std.proofs.Common.{◌≡◌, ℕ, ◌+◌, ◌≤◌, Bool, true, false, cond, eqb, ◌⊎◌, List, [], ◌∷◌, ◌++◌, sym, refl, ap, ◌∙◌, subst, inl, inr, arith}
use Rattle.std.proofs.lemmas.Bool.{eqb-true, eqb-false}
use Rattle.model.specs.State.{Machine, State}
use Rattle.model.specs.Lists.{some, find}
use Rattle.model.specs.Calls.{Seen, Order, seen_as}
use Rattle.model.specs.World.{Agent, Word, Up, Back, is_order, is_seen, may_run, is_ready_in, obeys, reported, running}
use Rattle.model.proofs.Lists.{never, In, some_at, some_not, in_keep, Pass, goes, pass_same, pass_keep, pass_from, once_pass}
use Rattle.model.proofs.Hold.{OnIt}
use Rattle.model.proofs.Worlds.Agreement.{News, At, Agrees}

-- AN AGENT REPORTS

seen_all : (rs : List Seen) (os : List Order) (o : Order) → In o os → seen_as o.id (may_run rs os) ≡ [] → ⊥
unfolding seen_as may_run find
seen_all rs [] o i e = i
seen_all rs (p ∷ os) o i e = pick (eqb o.id p.id) refl e i (λ e' j. seen_all rs os o j e')
  where
    x : Seen
    x = record { id = p.id; ready = is_ready_in p.id rs }

    pick : (b : Bool) → eqb o.id p.id ≡ b → cond b (x ∷ []) (find (λ (y : Seen). eqb o.id y.id) (may_run rs os)) ≡ [] → (o ≡ p) ⊎ In o os → (find (λ (y : Seen). eqb o.id y.id) (may_run rs os) ≡ [] → In o os → ⊥) → ⊥
    pick true q h k r = never (cc)
    pick false q h (inl k) r = eqb-false o.id p.id q (ap (λ (z : Order). z.id) k)
    pick false q h (inr k) r = r h k

pub agrees_reports : (s : State) (ws : List Word) (i : ℕ) (a : Agent) → Agrees s ws i a → Agrees s (Up i a.life (a.number + 1) (may_run a.runs a.ordered) ∷ ws) i (reported a)
agrees_reports s ws i a g = record { ups = ups; backs = backs; ordered = g.ordered; runs = g.runs; once = g.once }
  where
    ys : List Seen
    ys = may_run a.runs a.ordered

    ups : (l n : ℕ) (xs : List Seen) → In (Up i l n xs) (Up i a.life (a.number + 1) ys ∷ ws) → (l ≤ a.life) × (l ≡ a.life → n ≤ a.number + 1) × (l ≡ a.life → (m : Machine) → In m s.machines → m.num ≡ i → News m l n → (o : Order) → In o a.ordered → seen_as o.id xs ≡ [] → ⊥)
    ups l n xs (inl p) =
        let q : l ≡ a.life = cc in let r : n ≡ a.number + 1 = cc in let t : xs ≡ ys = cc in
        (omega arith, λ e. omega arith, λ e m mi me nw o oj z. seen_all a.runs a.ordered o oj (subst (λ (zs : List Seen). seen_as o.id zs ≡ []) t z))
    ups l n xs (inr k) = let h = g.ups l n xs k in (h.0, λ e. let b : n ≤ a.number = h.1 e in omega arith, h.2)

    backs : (l n : ℕ) (os : List Order) → In (Back i l n os) (Up i a.life (a.number + 1) ys ∷ ws) → (l ≤ a.life) × (l ≡ a.life → n ≤ a.number + 1) × (l ≡ a.life → (m : Machine) × At s i l m × (n ≤ m.number)) × (l ≡ a.life → n ≡ a.number + 1 → (o : Order) → In o os → OnIt s.tasks i o.id)
    backs l n os (inl p) = never (cc)
    backs l n os (inr k) = let h = g.backs l n os k in (h.0, λ e. let b : n ≤ a.number = h.1 e in omega arith, h.2, λ e q. let b : n ≤ a.number = h.1 e in absurd (omega arith))

-- AN AGENT OBEYS

pub agrees_obeys : (s : State) (ws : List Word) (i : ℕ) (a : Agent) (os : List Order) → In (Back i a.life a.number os) ws → ((m v : Machine) → In m s.machines → In v s.machines → m.num ≡ v.num → m ≡ v) → Agrees s ws i a → Agrees s ws i (obeys os a)
agrees_obeys s ws i a os k one g =
    record {
      ups = λ l n xs j. let h = g.ups l n xs j in (h.0, h.1, λ e m mi me nw o oj z. old l n e (h.1 e) m mi me nw);
      backs = g.backs;
      ordered = λ o oj. ((answer.0, answer.1), b.3 refl refl o oj);
      runs = λ x xj. let r = in_keep f a.runs x xj in let q = some_at (is_order x.id) os r.1 in (q.0, q.1, sym (eqb-true x.id q.0.id q.2));
      once = once_pass _ (λ x. Unit {0}) (λ x y. y ≡ x) (λ x y x' y' p q e. ap (λ (z : Seen). eqb z.id y'.id) p ∙ (ap (λ (z : Seen). eqb x.id z.id) q ∙ e)) (pass_keep _ _ f a.runs (λ x j e. tt) (λ x j e. refl)) g.once;
    }
  where
    f : Seen → Bool
    f x = some (is_order x.id) os

    b : (a.life ≤ a.life) × (a.life ≡ a.life → a.number ≤ a.number) × (a.life ≡ a.life → (m : Machine) × At s i a.life m × (a.number ≤ m.number)) × (a.life ≡ a.life → a.number ≡ a.number → (o : Order) → In o os → OnIt s.tasks i o.id)
    b = g.backs a.life a.number os k

    answer : (m : Machine) × At s i a.life m × (a.number ≤ m.number)
    answer = b.2 refl

    old : (l n : ℕ) → l ≡ a.life → n ≤ a.number → (m : Machine) → In m s.machines → m.num ≡ i → News m l n → ⊥
    old l n e h m mi me nw =
        let q : m ≡ answer.0 = one m answer.0 mi answer.1.0 (me ∙ sym answer.1.1) in
        let ml : m.life ≡ a.life = ap (λ (z : Machine). z.life) q ∙ answer.1.2 in
        let mn : m.number ≡ answer.0.number = ap (λ (z : Machine). z.number) q in
        let an : a.number ≤ answer.0.number = answer.2 in
        omega arith

-- WHAT RUNS

abbrev pub SameId : Seen → Seen → Type 0
SameId x y = y.id ≡ x.id

abbrev pub AnySeen : Seen → Type 0
AnySeen x = Unit {0}

pub agrees_runs : (s : State) (ws : List Word) (i : ℕ) (a : Agent) (rs : List Seen) → Pass AnySeen SameId a.runs rs → Agrees s ws i a → Agrees s ws i (running rs a)
agrees_runs s ws i a rs p g =
    record {
      ups = g.ups;
      backs = g.backs;
      ordered = g.ordered;
      runs = λ x j. let q = pass_from AnySeen SameId p x j in let o = g.runs q.0 q.1 in (o.0, o.1, o.2 ∙ (sym q.3 ∙ sym (ap (λ (z : Seen). z.id) q.4)));
      once = once_pass _ AnySeen SameId (λ x y x' y' p' q e. ap (λ (z : ℕ). eqb z y'.id) p' ∙ (ap (λ (z : ℕ). eqb x.id z) q ∙ e)) p g.once;
    }

pub pass_behind : (before xs ys : List Seen) → Pass AnySeen SameId xs ys → Pass AnySeen SameId (before ++ xs) (before ++ ys)
pass_behind [] xs ys p = p
pass_behind (b ∷ bs) xs ys p = goes refl (pass_behind bs xs ys p)

pub pass_all : (xs : List Seen) → Pass AnySeen SameId xs xs
pass_all xs = pass_same AnySeen SameId xs (λ x i. refl)

pub agrees_starts : (s : State) (ws : List Word) (i : ℕ) (a : Agent) (o : Order) → In o a.ordered → some (is_seen o.id) a.runs ≡ false → Agrees s ws i a → Agrees s ws i (running (record { id = o.id; ready = false } ∷ a.runs) a)
agrees_starts s ws i a o j n g = record { ups = g.ups; backs = g.backs; ordered = g.ordered; runs = runs; once = (λ y k. some_not (is_seen o.id) a.runs n y k, g.once) }
  where
    runs : (x : Seen) → In x (record { id = o.id; ready = false } ∷ a.runs) → (p : Order) × In p a.ordered × (p.id ≡ x.id)
    runs x (inl e) = (o, j, sym (ap (λ (z : Seen). z.id) e))
    runs x (inr k) = g.runs x k
