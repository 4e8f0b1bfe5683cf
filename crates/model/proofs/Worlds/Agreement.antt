-- What holds between the herd, the words that were sent and each agent, and that it goes on holding where the herd keeps what an agent counts on, where an agent comes up risen, and where another agent says something.
-- Assumes nothing.
use Rattle.std.proofs.Common.{◌≡◌, ℕ, ◌<◌, ◌≤◌, false, eqb, ◌⊎◌, List, [], ◌∷◌, sym, ◌∙◌, subst, inl, inr, arith}
use Rattle.std.proofs.lemmas.Bool.{eqb-true, eqb-false, cond_both}
use Rattle.model.specs.State.{Machine, State}
use Rattle.model.specs.Calls.{Seen, Order, seen_as}
use Rattle.model.specs.World.{Agent, Word, Up, Back, World, put, risen}
use Rattle.model.proofs.Lists.{never, In, Once}
use Rattle.model.proofs.Hold.{OnIt}
use Rattle.model.proofs.Keeps.{Sound, Keeps}

-- THE INVARIANT

-- a report of that life and number is news of the machine
abbrev pub News : Machine → ℕ → ℕ → Type 0
News m l n = (m.life < l) ⊎ ((m.life ≡ l) × (m.number < n))

-- machine i is there in that life
abbrev pub At : State → ℕ → ℕ → Machine → Type 0
At s i l m = In m s.machines × (m.num ≡ i) × (m.life ≡ l)

-- what holds between the herd, the words that were sent, and the agent a of machine i
pub record Agrees (s : State) (ws : List Word) (i : ℕ) (a : Agent) : Type 0 where
  -- a report that was sent is of no later life, nor number; one of this life that is still news lists all that is ordered now
  pub ups : (l n : ℕ) (xs : List Seen) → In (Up i l n xs) ws → (l ≤ a.life) × (l ≡ a.life → n ≤ a.number) × (l ≡ a.life → (m : Machine) → In m s.machines → m.num ≡ i → News m l n → (o : Order) → In o a.ordered → seen_as o.id xs ≡ [] → ⊥)
  -- so is an answer; one of this life came of a report that the herd has taken, and the one to the last report orders only what is on the machine
  pub backs : (l n : ℕ) (os : List Order) → In (Back i l n os) ws → (l ≤ a.life) × (l ≡ a.life → n ≤ a.number) × (l ≡ a.life → (m : Machine) × At s i l m × (n ≤ m.number)) × (l ≡ a.life → n ≡ a.number → (o : Order) → In o os → OnIt s.tasks i o.id)
  -- what is ordered is on the machine, which is there, in this life
  pub ordered : (o : Order) → In o a.ordered → ((m : Machine) × At s i a.life m) × OnIt s.tasks i o.id
  pub runs : (x : Seen) → In x a.runs → (o : Order) × In o a.ordered × (o.id ≡ x.id)
  pub once : Once (λ (x y : Seen). eqb x.id y.id) a.runs

-- reports are numbered from 1, and so are answers
abbrev pub Numbered : List Word → Type 0
Numbered ws = ((i l n : ℕ) (xs : List Seen) → In (Up i l n xs) ws → 0 < n) × ((i l n : ℕ) (os : List Order) → In (Back i l n os) ws → 0 < n)

-- what holds of all together in every world
pub record Inv (w : World) : Type 0 where
  pub numbered : Numbered w.sent
  pub sound : Sound w.herd
  pub agents : (i : ℕ) → Agrees w.herd w.sent i (w.agent i)

-- THE HERD CHANGES AND KEEPS WHAT THE AGENT COUNTS ON

pub agrees_keeps : (s u : State) (ws : List Word) (i : ℕ) (a : Agent) → Keeps i s u → Agrees s ws i a → Agrees u ws i a
agrees_keeps s u ws i a k g =
    record {
      ups = λ l n xs j. let h = g.ups l n xs j in (h.0, h.1, λ e v vj ve nw o oj z. back l n xs j o oj z v (h.2 e) nw (k.off v vj ve));
      backs = λ l n os j. let h = g.backs l n os j in (h.0, h.1, λ e. let m = h.2 e in let v = k.on m.0 m.1.0 m.1.1 in (v.0, (v.1, v.2, v.3 ∙ m.1.2), subst (λ (x : ℕ). n ≤ x) (sym v.4) m.2), λ e q o oj. k.tasks o.id (h.3 e q o oj));
      ordered = λ o oj. let h = g.ordered o oj in let m = h.0 in let v = k.on m.0 m.1.0 m.1.1 in ((v.0, (v.1, v.2, v.3 ∙ m.1.2)), k.tasks o.id h.1);
      runs = g.runs;
      once = g.once;
    }
  where
    back : (l n : ℕ) (xs : List Seen) → In (Up i l n xs) ws → (o : Order) → In o a.ordered → seen_as o.id xs ≡ [] → (v : Machine) → ((m : Machine) → In m s.machines → m.num ≡ i → News m l n → (o' : Order) → In o' a.ordered → seen_as o'.id xs ≡ [] → ⊥) → News v l n → ((m : Machine) × In m s.machines × (m.num ≡ i) × (m.life ≡ v.life) × (m.number ≡ v.number)) ⊎ ((m : Machine) → In m s.machines → m.num ≡ i → ⊥) → ⊥
    back l n xs j o oj z v h (inl nw) (inl (m, mi, me, ml, mn)) = h m mi me (inl (omega arith)) o oj z
    back l n xs j o oj z v h (inr nw) (inl (m, mi, me, ml, mn)) = h m mi me (inr (omega arith, omega arith)) o oj z
    back l n xs j o oj z v h nw (inr none') = let m = (g.ordered o oj).0 in none' m.0 m.1.0 m.1.1

-- AN AGENT COMES UP ANEW, AND ANY HERD WILL DO

pub agrees_anew : (s u : State) (ws : List Word) (i : ℕ) (a : Agent) → Agrees s ws i a → Agrees u ws i (risen a)
agrees_anew s u ws i a g =
    record {
      ups = λ l n xs j. let h : l ≤ a.life = (g.ups l n xs j).0 in (omega arith, λ e. absurd (omega arith), λ e. absurd (omega arith));
      backs = λ l n os j. let h : l ≤ a.life = (g.backs l n os j).0 in (omega arith, λ e. absurd (omega arith), λ e. absurd (omega arith), λ e. absurd (omega arith));
      ordered = λ o oj. absurd oj;
      runs = λ x xj. absurd xj;
      once = tt;
    }

-- AN AGENT THAT IS OFF, AND ANY HERD WILL DO

pub agrees_off : (s u : State) (ws : List Word) (i : ℕ) (a : Agent) → Numbered ws → a.number ≡ 0 → a.ordered ≡ [] → a.runs ≡ [] → Agrees s ws i a → Agrees u ws i a
agrees_off s u ws i a nw an ao ar g =
    record {
      ups = λ l n xs j. let h = g.ups l n xs j in (h.0, h.1, λ e m mi me w o oj. absurd (subst (λ (os : List Order). In o os) ao oj));
      backs = λ l n os j. let h = g.backs l n os j in let p : 0 < n = nw.1 i l n os j in (h.0, h.1, λ e. let q : n ≤ a.number = h.1 e in absurd (omega arith), λ e. let q : n ≤ a.number = h.1 e in absurd (omega arith));
      ordered = λ o oj. absurd (subst (λ (os : List Order). In o os) ao oj);
      runs = λ x xj. absurd (subst (λ (xs : List Seen). In x xs) ar xj);
      once = g.once;
    }

-- ONE AGENT OF MANY

-- what holds of the agent that changed and of each other one holds of all
pub put_is : (P : ℕ → Agent → Type 0) (i : ℕ) (a : Agent) (f : ℕ → Agent) → P i a → ((j : ℕ) → eqb j i ≡ false → P j (f j)) → (j : ℕ) → P j (put i a f j)
put_is P i a f h r j = cond_both (eqb j i) a (f j) (P j) (λ e. subst (λ (k : ℕ). P k a) (sym (eqb-true j i e)) h) (λ e. r j e)

-- a word of another agent
pub agrees_up : (s : State) (ws : List Word) (j : ℕ) (a : Agent) (i l n : ℕ) (xs : List Seen) → eqb j i ≡ false → Agrees s ws j a → Agrees s (Up i l n xs ∷ ws) j a
agrees_up s ws j a i l n xs e g = record { ups = λ l' n' xs' k. g.ups l' n' xs' (left l' n' xs' k); backs = λ l' n' os k. g.backs l' n' os (right l' n' os k); ordered = g.ordered; runs = g.runs; once = g.once }
  where
    left : (l' n' : ℕ) (xs' : List Seen) → In (Up j l' n' xs') (Up i l n xs ∷ ws) → In (Up j l' n' xs') ws
    left l' n' xs' (inl p) = let q : j ≡ i = cc in absurd (eqb-false j i e q)
    left l' n' xs' (inr k) = k

    right : (l' n' : ℕ) (os : List Order) → In (Back j l' n' os) (Up i l n xs ∷ ws) → In (Back j l' n' os) ws
    right l' n' os (inl p) = never (cc)
    right l' n' os (inr k) = k

pub agrees_back : (s : State) (ws : List Word) (j : ℕ) (a : Agent) (i l n : ℕ) (os : List Order) → eqb j i ≡ false → Agrees s ws j a → Agrees s (Back i l n os ∷ ws) j a
agrees_back s ws j a i l n os e g = record { ups = λ l' n' xs' k. g.ups l' n' xs' (left l' n' xs' k); backs = λ l' n' os' k. g.backs l' n' os' (right l' n' os' k); ordered = g.ordered; runs = g.runs; once = g.once }
  where
    left : (l' n' : ℕ) (xs' : List Seen) → In (Up j l' n' xs') (Back i l n os ∷ ws) → In (Up j l' n' xs') ws
    left l' n' xs' (inl p) = never (cc)
    left l' n' xs' (inr k) = k

    right : (l' n' : ℕ) (os' : List Order) → In (Back j l' n' os') (Back i l n os ∷ ws) → In (Back j l' n' os') ws
    right l' n' os' (inl p) = let q : j ≡ i = cc in absurd (eqb-false j i e q)
    right l' n' os' (inr k) = k

pub numbered_up : (ws : List Word) (i l n : ℕ) (xs : List Seen) → 0 < n → Numbered ws → Numbered (Up i l n xs ∷ ws)
numbered_up ws i l n xs p h = (ups, backs)
  where
    ups : (i' l' n' : ℕ) (xs' : List Seen) → In (Up i' l' n' xs') (Up i l n xs ∷ ws) → 0 < n'
    ups i' l' n' xs' (inl e) = let q : n' ≡ n = cc in omega arith
    ups i' l' n' xs' (inr j) = h.0 i' l' n' xs' j

    backs : (i' l' n' : ℕ) (os : List Order) → In (Back i' l' n' os) (Up i l n xs ∷ ws) → 0 < n'
    backs i' l' n' os (inl e) = never (cc)
    backs i' l' n' os (inr j) = h.1 i' l' n' os j

pub numbered_back : (ws : List Word) (i l n : ℕ) (os : List Order) → 0 < n → Numbered ws → Numbered (Back i l n os ∷ ws)
numbered_back ws i l n os p h = (ups, backs)
  where
    ups : (i' l' n' : ℕ) (xs' : List Seen) → In (Up i' l' n' xs') (Back i l n os ∷ ws) → 0 < n'
    ups i' l' n' xs' (inl e) = never (cc)
    ups i' l' n' xs' (inr j) = h.0 i' l' n' xs' j

    backs : (i' l' n' : ℕ) (os' : List Order) → In (Back i' l' n' os') (Back i l n os ∷ ws) → 0 < n'
    backs i' l' n' os' (inl e) = let q : n' ≡ n = cc in omega arith
    backs i' l' n' os' (inr j) = h.1 i' l' n' os' j
