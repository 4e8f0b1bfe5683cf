-- After a pass no task waits that a machine would take: a machine takes beside less what it takes beside more, and only what no machine took goes on waiting.
-- Assumes nothing.
use Rattle.std.proofs.Common.{◌≡◌, ℕ, suc, ◌+◌, ◌≤◌, Bool, true, false, cond, not, ◌&&◌, eqb, ltb, leb, ◌⊎◌, List, [], ◌∷◌, sym, refl, ap, ◌∙◌, subst, inl, inr, arith}
use Rattle.std.proofs.lemmas.Bool.{and_parts, and_from, not-true, eqb-true, eqb-false, leb-true, le-leb}
use Rattle.model.specs.State.{Machine, Task, State, is_waiting, is_task, of_job, on_machine, placed, cpu_of, mem_of}
use Rattle.model.specs.Lists.{some, every, keep, change}
use Rattle.model.specs.Settle.{here, present, takes, left, best, place, place_all_lem, unplaced}
use Rattle.model.specs.Promise.{WaitsForRoom}
use Rattle.model.proofs.Lists.{to_true, clash, In, in_from, some_from, some_at, in_keep, keep_in, Pass, pass_from}
use Rattle.model.proofs.Tasks.{Rising, rising_over, Put, Never, Queue, queue_next, queue_of, places_pass, told_not_waiting}
use Rattle.model.proofs.Settles.{tidy_unplaced, unplaced_alike, settle_pass, Fine, fine_from}
use Rattle.model.proofs.Room.Weights.{cpu_weigh, mem_weigh, weigh_up, put_stays}

-- what a machine takes beside more it takes beside less
pub takes_less : (now : ℕ) (t : Task) (m : Machine) {xs ys : List Task} → Pass Never Put xs ys → takes now t ys m ≡ true → takes now t xs m ≡ true
takes_less now t m {xs} {ys} p e =
    and_from _ _ (and_from _ _ (and_from _ _ e₃.0 apart) (room t.spec.cpu m.cpu (cpu_of (here m xs)) (cpu_of (here m ys)) cpus e₂.1)) (room t.spec.mem m.mem (mem_of (here m xs)) (mem_of (here m ys)) mems e₁.1)
  where
    front : Bool
    front = m.open' && present now m && every (λ (a : ℕ). some (eqb a) m.tags) t.spec.tags

    alone : List Task → Bool
    alone zs = not (t.spec.apart && some (of_job t.job) (here m zs))

    e₁ : (front && alone ys && leb (cpu_of (here m ys) + t.spec.cpu) m.cpu ≡ true) × (leb (mem_of (here m ys) + t.spec.mem) m.mem ≡ true)
    e₁ = and_parts _ _ e

    e₂ : (front && alone ys ≡ true) × (leb (cpu_of (here m ys) + t.spec.cpu) m.cpu ≡ true)
    e₂ = and_parts _ _ e₁.0

    e₃ : (front ≡ true) × (alone ys ≡ true)
    e₃ = and_parts _ _ e₂.0

    room : (a b c d : ℕ) → c ≤ d → leb (d + a) b ≡ true → leb (c + a) b ≡ true
    room a b c d l h = let k : d + a ≤ b = leb-true (d + a) b h in le-leb (c + a) b (omega arith)

    cpus : cpu_of (here m xs) ≤ cpu_of (here m ys)
    cpus = rw (cpu_weigh (here m xs), cpu_weigh (here m ys)) (weigh_up _ m.num p)

    mems : mem_of (here m xs) ≤ mem_of (here m ys)
    mems = rw (mem_weigh (here m xs), mem_weigh (here m ys)) (weigh_up _ m.num p)

    grows : some (of_job t.job) (here m xs) ≡ true → some (of_job t.job) (here m ys) ≡ true
    grows h =
        let s = some_at (of_job t.job) (here m xs) h in let k = in_keep (on_machine m.num) xs s.0 s.1 in
        let w : is_waiting s.0.phase ≡ false = not-true _ (and_parts _ _ k.1).0 in
        some_from (of_job t.job) (here m ys) s.0 (keep_in (on_machine m.num) ys s.0 (put_stays p s.0 w k.0) k.1) s.2

    apart : alone xs ≡ true
    apart = pick t.spec.apart (some (of_job t.job) (here m xs)) (some (of_job t.job) (here m ys)) grows e₃.1
      where
        pick : (a b c : Bool) → (b ≡ true → c ≡ true) → not (a && c) ≡ true → not (a && b) ≡ true
        pick false b c g h = refl
        pick true false c g h = refl
        pick true true c g h = clash c (g refl) (not-true c h)

-- THE BEST

-- the best of some is there
pub best_none : (ms : List Machine) (ts : List Task) → best ms ts ≡ [] → ms ≡ []
unfolding best
best_none [] ts e = refl
best_none (m ∷ ms) ts e = absurd (pick (best ms ts) refl)
  where
    solo : (c : Bool) (a b : Machine) → cond c (a ∷ []) (b ∷ []) ≡ [] → ⊥
    solo true a b h = let z : ◌≡◌ {A = ℕ} 0 1 = cc in omega arith
    solo false a b h = let z : ◌≡◌ {A = ℕ} 0 1 = cc in omega arith

    pick : (bs : List Machine) → best ms ts ≡ bs → ⊥
    pick [] p = let z : ◌≡◌ {A = ℕ} 0 1 = cc in omega arith
    pick (b ∷ bs) p = solo (ltb (left m ts) (left b ts)) b m (rw (p, best) at e)

-- the best is one of them
pub best_in : (ms : List Machine) (ts : List Task) (b : Machine) → In b (best ms ts) → In b ms
unfolding best
best_in [] ts b h = h
best_in (m ∷ ms) ts b h = pick (best ms ts) refl (λ k. best_in ms ts b k)
  where
    solo : (c : Bool) (a x : Machine) → In b (cond c (a ∷ []) (x ∷ [])) → (b ≡ a) ⊎ (b ≡ x)
    solo true a x (inl e) = inl e
    solo true a x (inr i) = absurd i
    solo false a x (inl e) = inr e
    solo false a x (inr i) = absurd i

    pick : (bs : List Machine) → best ms ts ≡ bs → (In b (best ms ts) → In b ms) → In b (m ∷ ms)
    pick [] p rec = elim (rw (p, best) at h) [ inl e ↦ inl e | inr i ↦ absurd i ]
    pick (x ∷ xs) p rec = elim (solo (ltb (left m ts) (left x ts)) x m (rw (p, best) at h)) [ inl e ↦ inr (rec (rw p (inl e))) | inr e ↦ inl e ]

-- what was placed doesn't wait
pub placed_waits_not : (n i k l : ℕ) (ts : List Task) → Rising n ts → (x : Task) → In x (change (is_task i) (placed k l) ts) → x.id ≡ i → is_waiting x.phase ≡ false
unfolding change
placed_waits_not n i k l [] r x h e = absurd h
placed_waits_not n i k l (t ∷ ts) r x h e = pick (is_task i t) refl h (λ j. placed_waits_not (suc t.id) i k l ts r.1 x j e)
  where
    pick : (b : Bool) → is_task i t ≡ b → In x (cond b (placed k l t ∷ ts) (t ∷ change (is_task i) (placed k l) ts)) → (In x (change (is_task i) (placed k l) ts) → is_waiting x.phase ≡ false) → is_waiting x.phase ≡ false
    pick true p (inl q) rec = ap (λ (y : Task). is_waiting y.phase) q ∙ told_not_waiting
    pick true p (inr j) rec = let a : i ≡ t.id = eqb-true i t.id p in let b : suc t.id ≤ x.id = rising_over (suc t.id) ts r.1 x j in absurd (omega arith)
    pick false p (inl q) rec = absurd (eqb-false i t.id p (sym e ∙ ap (λ (y : Task). y.id) q))
    pick false p (inr j) rec = rec j

pub put_waiting : (x y : Task) → Put x y → is_waiting y.phase ≡ true → y ≡ x
put_waiting x y (inl e) w = e
put_waiting x y (inr h) w = clash (is_waiting y.phase) w (ap (λ (t : Task). is_waiting t.phase) h.3 ∙ told_not_waiting)

module _ (now : ℕ) (ms : List Machine) (m : Machine) (mi : In m ms) where
  no_room : (n : ℕ) (w : Task) (ws ts : List Task) → Queue n (w ∷ ws) ts → (bs : List Machine) → best (keep (takes now w ts) ms) ts ≡ bs → In w (place_all_lem now ms ws (place w bs ts)) → takes now w (place_all_lem now ms ws (place w bs ts)) m ≡ true → ⊥
  unfolding place
  no_room n w ws ts q [] e i h =
      let p = places_pass now (suc w.id) ms ws (place w [] ts) (queue_next n w ws ts q []) in
      let k : In m (keep (takes now w ts) ms) = keep_in (takes now w ts) ms m mi (takes_less now w m p h) in
      subst (λ (xs : List Machine). In m xs) (best_none (keep (takes now w ts) ms) ts e) k
  no_room n w ws ts q (b ∷ bs) e i h =
      let p = places_pass now (suc w.id) ms ws (place w (b ∷ bs) ts) (queue_next n w ws ts q (b ∷ bs)) in
      let f = pass_from Never Put p w i in
      let c : w ≡ f.0 = f.4 ∙ put_waiting f.0 f.2 f.3 (sym (ap (λ (t : Task). is_waiting t.phase) f.4) ∙ (q.there w (inl refl)).1) in
      clash (is_waiting f.0.phase) (sym (ap (λ (t : Task). is_waiting t.phase) c) ∙ (q.there w (inl refl)).1) (placed_waits_not 0 w.id b.num b.life ts q.low f.0 f.1 (sym (ap (λ (t : Task). t.id) c)))

  -- who still waits is taken by no machine
  pub waits_placing : (n : ℕ) (ws ts : List Task) → Queue n ws ts → (t : Task) → In t ws → In t (place_all_lem now ms ws ts) → takes now t (place_all_lem now ms ws ts) m ≡ true → ⊥
  unfolding place_all_lem
  waits_placing n [] ts q t i k h = i
  waits_placing n (w ∷ ws) ts q t (inl e) k h =
      let bs = best (keep (takes now w ts) ms) ts in
      no_room n w ws ts q bs refl (subst (λ (x : Task). In x (place_all_lem now ms ws (place w bs ts))) e k) (sym (ap (λ (x : Task). takes now x (place_all_lem now ms ws (place w bs ts)) m) e) ∙ h)
  waits_placing n (w ∷ ws) ts q t (inr i) k h =
      let bs = best (keep (takes now w ts) ms) ts in waits_placing (suc w.id) ws (place w bs ts) (queue_next n w ws ts q bs) t i k h

pub waits_for_room_lem : WaitsForRoom
waits_for_room_lem s t m g i w mi h =
    waits_placing u.now u.machines m (subst (λ (xs : List Machine). In m xs) (sym (unplaced_alike s).1) (in_from mi)) 0 waiting u.tasks queue t in_waiting (in_from i) (to_true _ h)
  where
    u : State
    u = unplaced s

    fine : Fine s
    fine = fine_from s g

    waiting : List Task
    waiting = keep (λ (x : Task). is_waiting x.phase) u.tasks

    queue : Queue 0 waiting u.tasks
    queue = queue_of u.tasks (tidy_unplaced s fine.tidy).0

    in_waiting : In t waiting
    in_waiting =
        let f = pass_from Never Put (settle_pass s fine.tidy) t (in_from i) in
        let c : t ≡ f.0 = f.4 ∙ put_waiting f.0 f.2 f.3 (sym (ap (λ (x : Task). is_waiting x.phase) f.4) ∙ to_true _ w) in
        keep_in (λ (x : Task). is_waiting x.phase) u.tasks t (subst (λ (x : Task). In x u.tasks) (sym c) f.1) (to_true _ w)
