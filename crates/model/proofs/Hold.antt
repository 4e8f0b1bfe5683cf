-- What is told is on a machine that is there, in its life, and fits there; and what is on a machine stays there through a pass.
-- Assumes nothing.
use Rattle.std.proofs.Common.{◌≡◌, ℕ, suc, ◌+◌, ◌≤◌, Bool, true, false, cond, not, ◌&&◌, eqb, leb, ◌⊎◌, List, [], ◌∷◌, ◌++◌, sym, refl, ap, ◌∙◌, subst, inl, inr, le_trans, arith}
use Rattle.std.proofs.lemmas.Bool.{and_parts, leb-true, eqb-true, eq-eqb}
use Rattle.model.specs.State.{Machine, Spec, Job, Phase, Waiting, Ending, Task, State, is_waiting, is_task, of_job, on_machine, phased, placed, with_tasks, cpu_of, mem_of}
use Rattle.model.specs.Lists.{some, every, keep, change}
use Rattle.model.specs.Settle.{here, present, takes, best, place, place_all_lem, ended, fresh, for_job, orphans_end, settle, more, unplaced}
use Rattle.model.proofs.Lists.{clash, In, in_end, keep_no, in_keep, Pass, done, gone, goes, pass_same, pass_change, pass_from, pass_weaken, Once}
use Rattle.model.proofs.Tasks.{rising_one, Ends, jobless, orphans_pass, ended_pass, MayEnd, step_is, steps_are, Put, Never, Queue, queue_next, queue_of}
use Rattle.model.proofs.Settles.{Tidy, tidy_pass, tidy_step, orphan_id, EndsOne, unplaced_alike, settle_pass, Fine}
use Rattle.model.proofs.Room.{weigh, cpu_weigh, mem_weigh, weigh_cons, waits_nowhere, best_in}

-- WHAT HOLDS OF MACHINES AND TASKS

-- each task that doesn't wait is on a machine that is there, in the life of its agent
abbrev pub Housed : List Machine → List Task → Type 0
Housed ms ts = (t : Task) → In t ts → is_waiting t.phase ≡ false → (m : Machine) × In m ms × (m.num ≡ t.machine) × (m.life ≡ t.life)

abbrev pub cpu_need : Task → ℕ
cpu_need t = t.spec.cpu

abbrev pub mem_need : Task → ℕ
mem_need t = t.spec.mem

-- what is on a machine fits there
abbrev pub Fitting : List Machine → List Task → Type 0
Fitting ms ts = (m : Machine) → In m ms → (weigh cpu_need (here m ts) ≤ m.cpu) × (weigh mem_need (here m ts) ≤ m.mem)

-- a task of number k is on machine i
abbrev pub OnIt : List Task → ℕ → ℕ → Type 0
OnIt ts i k = (t : Task) × In t ts × (t.id ≡ k) × (on_machine i t ≡ true)

-- PASSES THAT LEAVE TASKS WHERE THEY ARE

-- a task stays where it is
abbrev pub Stay : Task → Task → Type 0
Stay x y = (y.id ≡ x.id) × (is_waiting y.phase ≡ is_waiting x.phase) × (y.machine ≡ x.machine) × (y.life ≡ x.life) × (y.spec ≡ x.spec)

pub stay_eq : (x y : Task) → y ≡ x → Stay x y
stay_eq x y e = (ap (λ (t : Task). t.id) e, ap (λ (t : Task). is_waiting t.phase) e, ap (λ (t : Task). t.machine) e, ap (λ (t : Task). t.life) e, ap (λ (t : Task). t.spec) e)

pub stay_phase : (x y : Task) (p : Phase) → is_waiting p ≡ is_waiting x.phase → y ≡ phased p x → Stay x y
stay_phase x y p h e = (ap (λ (t : Task). t.id) e, ap (λ (t : Task). is_waiting t.phase) e ∙ h, ap (λ (t : Task). t.machine) e, ap (λ (t : Task). t.life) e, ap (λ (t : Task). t.spec) e)

pub stay_on : (k : ℕ) (x y : Task) → Stay x y → on_machine k y ≡ on_machine k x
stay_on k x y s = ap (λ (b : Bool). not b && eqb k y.machine) s.1 ∙ ap (λ (n : ℕ). not (is_waiting x.phase) && eqb k n) s.2

pub ending_waits_not : is_waiting Ending ≡ false
ending_waits_not = refl

pub stay_ends : (x y : Task) → Ends x y → Stay x y
stay_ends x y h = stay_phase x y Ending (ending_waits_not ∙ sym h.0) h.1

pub told_stay : (D : Task → Type 0) (ms : List Machine) {xs ys : List Task} → Pass D Stay xs ys → Housed ms xs → Housed ms ys
told_stay D ms p h t i w =
    let f = pass_from D Stay p t i in
    let m = h f.0 f.1 (sym f.3.1 ∙ (sym (ap (λ (x : Task). is_waiting x.phase) f.4) ∙ w)) in
    (m.0, m.1, m.2 ∙ (sym f.3.2 ∙ sym (ap (λ (x : Task). x.machine) f.4)), m.3 ∙ (sym f.3.3 ∙ sym (ap (λ (x : Task). x.life) f.4)))

pub weigh_stay : (D : Task → Type 0) (g : Task → ℕ) → ((x y : Task) → Stay x y → g y ≡ g x) → (k : ℕ) {xs ys : List Task} → Pass D Stay xs ys → weigh g (keep (on_machine k) ys) ≤ weigh g (keep (on_machine k) xs)
weigh_stay D g h k done = omega arith
weigh_stay D g h k (gone {x = x} {xs = xs} {ys = ys} d p) =
    let i : weigh g (keep (on_machine k) ys) ≤ weigh g (keep (on_machine k) xs) = weigh_stay D g h k p in rw (weigh_cons g (on_machine k) x xs) (omega arith)
weigh_stay D g h k (goes {x = x} {y = y} {xs = xs} {ys = ys} r p) =
    let i : weigh g (keep (on_machine k) ys) ≤ weigh g (keep (on_machine k) xs) = weigh_stay D g h k p in
    let e : cond (on_machine k y) (g y) 0 ≡ cond (on_machine k x) (g x) 0 = ap (λ (b : Bool). cond b (g y) 0) (stay_on k x y r) ∙ ap (λ (n : ℕ). cond (on_machine k x) n 0) (h x y r) in
    rw (weigh_cons g (on_machine k) x xs, weigh_cons g (on_machine k) y ys, e) (omega arith)

pub room_stay : (D : Task → Type 0) (ms : List Machine) {xs ys : List Task} → Pass D Stay xs ys → Fitting ms xs → Fitting ms ys
room_stay D ms p h m i =
    (le_trans (weigh_stay D cpu_need (λ x y r. ap (λ (s : Spec). s.cpu) r.4) m.num p) (h m i).0, le_trans (weigh_stay D mem_need (λ x y r. ap (λ (s : Spec). s.mem) r.4) m.num p) (h m i).1)

-- what is on a machine goes on there
pub on_pass : (D : Task → Type 0) (R : Task → Task → Type 0) (i : ℕ) → ((x : Task) → D x → on_machine i x ≡ false) → ((x y : Task) → R x y → on_machine i x ≡ true → (y.id ≡ x.id) × (on_machine i y ≡ true)) → (k : ℕ) {xs ys : List Task} → Pass D R xs ys → OnIt xs i k → OnIt ys i k
on_pass D R i d r k done o = o
on_pass D R i d r k (gone {x = x} h p) (t, inl e, f, g) = clash (on_machine i t) g (ap (on_machine i) e ∙ d x h)
on_pass D R i d r k (gone {x = x} h p) (t, inr j, f, g) = on_pass D R i d r k p (t, j, f, g)
on_pass D R i d r k (goes {x = x} {y = y} h p) (t, inl e, f, g) = let q = r x y h (sym (ap (on_machine i) e) ∙ g) in (y, inl refl, q.0 ∙ (sym (ap (λ (z : Task). z.id) e) ∙ f), q.1)
on_pass D R i d r k (goes {x = x} {y = y} h p) (t, inr j, f, g) = let q = on_pass D R i d r k p (t, j, f, g) in (q.0, inr q.1, q.2, q.3)

pub on_stay : (D : Task → Type 0) (i : ℕ) → ((x : Task) → D x → on_machine i x ≡ false) → (k : ℕ) {xs ys : List Task} → Pass D Stay xs ys → OnIt xs i k → OnIt ys i k
on_stay D i d k p o = on_pass D Stay i d (λ x y s e. (s.0, stay_on i x y s ∙ e)) k p o

-- PLACING

pub once_machine : (ms : List Machine) → Once (λ (a b : Machine). eqb a.num b.num) ms → (a b : Machine) → In a ms → In b ms → a.num ≡ b.num → a ≡ b
once_machine [] o a b i k e = absurd i
once_machine (m ∷ ms) o a b (inl p) (inl q) e = p ∙ sym q
once_machine (m ∷ ms) o a b (inl p) (inr k) e = clash (eqb m.num b.num) (eq-eqb _ _ (sym (ap (λ (x : Machine). x.num) p) ∙ e)) (o.0 b k)
once_machine (m ∷ ms) o a b (inr i) (inl q) e = clash (eqb m.num a.num) (eq-eqb _ _ (sym (ap (λ (x : Machine). x.num) q) ∙ sym e)) (o.0 a i)
once_machine (m ∷ ms) o a b (inr i) (inr k) e = once_machine ms o.1 a b i k e

weigh_placed : (g : Task → ℕ) (k k' l : ℕ) (t : Task) → ((x : Task) → g (placed k' l x) ≡ g x) → (ts : List Task) → ((x : Task) → In x ts → is_task t.id x ≡ true → x ≡ t) → weigh g (keep (on_machine k) (change (is_task t.id) (placed k' l) ts)) ≤ cond (eqb k k') (g t) 0 + weigh g (keep (on_machine k) ts)
unfolding change
weigh_placed g k k' l t h [] u = omega arith
weigh_placed g k k' l t h (x ∷ xs) u = pick (is_task t.id x) refl (weigh_placed g k k' l t h xs (λ y i. u y (inr i)))
  where
    W : ℕ
    W = weigh g (keep (on_machine k) xs)

    pick : (b : Bool) → is_task t.id x ≡ b → weigh g (keep (on_machine k) (change (is_task t.id) (placed k' l) xs)) ≤ cond (eqb k k') (g t) 0 + W → weigh g (keep (on_machine k) (cond b (placed k' l x ∷ xs) (x ∷ change (is_task t.id) (placed k' l) xs))) ≤ cond (eqb k k') (g t) 0 + weigh g (keep (on_machine k) (x ∷ xs))
    pick true e i =
        let a : weigh g (keep (on_machine k) (placed k' l x ∷ xs)) ≡ cond (eqb k k') (g (placed k' l x)) 0 + W = weigh_cons g (on_machine k) (placed k' l x) xs in
        let b : cond (eqb k k') (g (placed k' l x)) 0 ≡ cond (eqb k k') (g t) 0 = ap (λ (n : ℕ). cond (eqb k k') n 0) (h x ∙ ap g (u x (inl refl) e)) in
        rw (a, weigh_cons g (on_machine k) x xs, b) (omega arith)
    pick false e i = rw (weigh_cons g (on_machine k) x (change (is_task t.id) (placed k' l) xs), weigh_cons g (on_machine k) x xs) (omega arith)

module _ (now : ℕ) (ms : List Machine) (one : Once (λ (a b : Machine). eqb a.num b.num) ms) where
  place_ok : (n : ℕ) (t : Task) (ws ts : List Task) → Queue n (t ∷ ws) ts → (bs : List Machine) → best (keep (takes now t ts) ms) ts ≡ bs → Housed ms ts → Fitting ms ts → Housed ms (place t bs ts) × Fitting ms (place t bs ts)
  unfolding place
  place_ok n t ws ts q [] e h r = (h, r)
  place_ok n t ws ts q (b ∷ bs) e h r = (told, room)
    where
      it : (x : Task) → In x ts → is_task t.id x ≡ true → x ≡ t
      it x k f = rising_one 0 ts q.low x t k (q.there t (inl refl)).0 (sym (eqb-true t.id x.id f))

      picked : In b ms × (takes now t ts b ≡ true)
      picked = in_keep (takes now t ts) ms b (best_in (keep (takes now t ts) ms) ts b (subst (λ (xs : List Machine). In b xs) (sym e) (inl refl)))

      R : Task → Task → Type 0
      R x y = (y ≡ x) ⊎ (y ≡ placed b.num b.life x)

      told : Housed ms (change (is_task t.id) (placed b.num b.life) ts)
      told y i w =
          let f = pass_from Never R (pass_change Never R (is_task t.id) (placed b.num b.life) ts (λ x k. inl refl) (λ x k g. inr refl)) y i in
          pick f.0 f.1 f.2 f.3 f.4
        where
          pick : (x : Task) → In x ts → (z : Task) → R x z → y ≡ z → (m : Machine) × In m ms × (m.num ≡ y.machine) × (m.life ≡ y.life)
          pick x k z (inl p) g = let c = g ∙ p in let m = h x k (sym (ap (λ (u : Task). is_waiting u.phase) c) ∙ w) in (m.0, m.1, m.2 ∙ sym (ap (λ (u : Task). u.machine) c), m.3 ∙ sym (ap (λ (u : Task). u.life) c))
          pick x k z (inr p) g = let c = g ∙ p in (b, picked.0, sym (ap (λ (u : Task). u.machine) c), sym (ap (λ (u : Task). u.life) c))

      fits : (cpu_of (here b ts) + t.spec.cpu ≤ b.cpu) × (mem_of (here b ts) + t.spec.mem ≤ b.mem)
      fits =
          let front = b.open' && present now b && every (λ (a : ℕ). some (eqb a) b.tags) t.spec.tags && not (t.spec.apart && some (of_job t.job) (here b ts)) in
          let c = leb (cpu_of (here b ts) + t.spec.cpu) b.cpu in let d = leb (mem_of (here b ts) + t.spec.mem) b.mem in
          let p = and_parts (front && c) d picked.1 in
          (leb-true (cpu_of (here b ts) + t.spec.cpu) b.cpu (and_parts front c p.0).1, leb-true (mem_of (here b ts) + t.spec.mem) b.mem p.1)

      add : (g : Task → ℕ) (c : Bool) (a w v x : ℕ) → w ≤ cond c a 0 + v → (c ≡ true → v + a ≤ x) → v ≤ x → w ≤ x
      add g true a w v x p q s = let q' : v + a ≤ x = q refl in omega arith
      add g false a w v x p q s = omega arith

      room : Fitting ms (change (is_task t.id) (placed b.num b.life) ts)
      room m i =
          let same : eqb m.num b.num ≡ true → b ≡ m = λ e. sym (once_machine ms one m b i picked.0 (eqb-true m.num b.num e)) in (
            add cpu_need (eqb m.num b.num) (cpu_need t) _ (weigh cpu_need (here m ts)) m.cpu (weigh_placed cpu_need m.num b.num b.life t (λ x. refl) ts it) (λ e. subst (λ (x : Machine). weigh cpu_need (here x ts) + cpu_need t ≤ x.cpu) (same e) (subst (λ (x : ℕ). x + cpu_need t ≤ b.cpu) (cpu_weigh (here b ts)) fits.0)) (r m i).0,
            add mem_need (eqb m.num b.num) (mem_need t) _ (weigh mem_need (here m ts)) m.mem (weigh_placed mem_need m.num b.num b.life t (λ x. refl) ts it) (λ e. subst (λ (x : Machine). weigh mem_need (here x ts) + mem_need t ≤ x.mem) (same e) (subst (λ (x : ℕ). x + mem_need t ≤ b.mem) (mem_weigh (here b ts)) fits.1)) (r m i).1,
          )

  places_ok : (n : ℕ) (ws ts : List Task) → Queue n ws ts → Housed ms ts → Fitting ms ts → Housed ms (place_all_lem now ms ws ts) × Fitting ms (place_all_lem now ms ws ts)
  unfolding place_all_lem
  places_ok n [] ts q h r = (h, r)
  places_ok n (t ∷ ws) ts q h r =
      let bs = best (keep (takes now t ts) ms) ts in let p = place_ok n t ws ts q bs refl h r in
      places_ok (suc t.id) ws (place t bs ts) (queue_next n t ws ts q bs) p.0 p.1

-- SETTLING

waiting_waits : is_waiting Waiting ≡ true
waiting_waits = refl

weigh_end : (g : Task → ℕ) (k : ℕ) (ts : List Task) (t : Task) → on_machine k t ≡ false → weigh g (keep (on_machine k) (ts ++ (t ∷ []))) ≤ weigh g (keep (on_machine k) ts)
weigh_end g k [] t e = rw (keep_no (on_machine k) t [] e) (omega arith)
weigh_end g k (x ∷ xs) t e =
    let i : weigh g (keep (on_machine k) (xs ++ (t ∷ []))) ≤ weigh g (keep (on_machine k) xs) = weigh_end g k xs t e in
    rw (weigh_cons g (on_machine k) x (xs ++ (t ∷ [])), weigh_cons g (on_machine k) x xs) (omega arith)

abbrev HeldIn : List Machine → State → Type 0
HeldIn ms u = Tidy u × Housed ms u.tasks × Fitting ms u.tasks

ends_stay : (t x y : Task) → EndsOne t x y → Stay x y
ends_stay t x y (inl e) = stay_eq x y e
ends_stay t x y (inr h) = stay_ends x y h.1

orphan_stay : (js : List Job) (x y : Task) → (y ≡ x) ⊎ ((jobless js x ≡ true) × Ends x y) → Stay x y
orphan_stay js x y (inl e) = stay_eq x y e
orphan_stay js x y (inr h) = stay_ends x y h.1

-- a step's own ends leave what is on machines there
abbrev WasWaiting : Task → Type 0
WasWaiting x = is_waiting x.phase ≡ true

pub ended_stay : (j : Job) (s : State) → Tidy s → (xs : List Task) → MayEnd s j xs → Pass WasWaiting Stay s.tasks (ended xs s.tasks)
unfolding ended
ended_stay j s h [] m = pass_same WasWaiting Stay s.tasks (λ x i. stay_eq x x refl)
ended_stay j s h (t ∷ ts) m = pass_weaken (λ x d. d.1) (ends_stay t) (ended_pass 0 s.tasks h.0 t m.0 ts)

pub orphans_stay : (js : List Job) (ts : List Task) → Pass WasWaiting Stay ts (orphans_end js ts)
orphans_stay js ts = pass_weaken (λ x d. d.1) (orphan_stay js) (orphans_pass js ts)

module _ (ms : List Machine) where
  told_more : (j : Job) (u : State) → Housed ms u.tasks → Housed ms (more j u).tasks
  told_more j u h t i w = pick (in_end t (fresh j u.next_id) u.tasks i)
    where
      pick : In t u.tasks ⊎ (t ≡ fresh j u.next_id) → (m : Machine) × In m ms × (m.num ≡ t.machine) × (m.life ≡ t.life)
      pick (inl k) = h t k w
      pick (inr e) = clash (is_waiting t.phase) (ap (λ (x : Task). is_waiting x.phase) e ∙ waiting_waits) w

  room_more : (j : Job) (u : State) → Fitting ms u.tasks → Fitting ms (more j u).tasks
  room_more j u r m i =
      let e : on_machine m.num (fresh j u.next_id) ≡ false = waits_nowhere m.num (fresh j u.next_id) waiting_waits in
      (le_trans (weigh_end cpu_need m.num u.tasks (fresh j u.next_id) e) (r m i).0, le_trans (weigh_end mem_need m.num u.tasks (fresh j u.next_id) e) (r m i).1)

  hold_ended : (j : Job) (u : State) → HeldIn ms u → (xs : List Task) → MayEnd u j xs → Housed ms (ended xs u.tasks) × Fitting ms (ended xs u.tasks)
  hold_ended j u h xs m = let p = ended_stay j u h.0 xs m in (told_stay WasWaiting ms p h.1, room_stay WasWaiting ms p h.2)

  hold_step : (j : Job) (u : State) → HeldIn ms u → HeldIn ms (for_job j u)
  hold_step j u h =
      let q = step_is (λ (v : State). Housed ms v.tasks × Fitting ms v.tasks) j u (hold_ended j u h) (λ xs m g. let p = hold_ended j u h xs m in let v = with_tasks (ended xs u.tasks) u in (told_more j v p.0, room_more j v p.1)) in
      (tidy_step j u h.0, q.0, q.1)

-- a pass keeps tasks on machines that are there, and fitting
pub hold_settle : (s : State) → Fine s → Housed s.machines s.tasks → Fitting s.machines s.tasks → Housed s.machines (settle s).tasks × Fitting s.machines (settle s).tasks
hold_settle s f h r =
    let ms = s.machines in
    let o = orphans_stay s.jobs s.tasks in
    let p : HeldIn ms (unplaced s) = steps_are (HeldIn ms) s.jobs (with_tasks (orphans_end s.jobs s.tasks) s) (λ j i u q. hold_step ms j u q) (tidy_pass _ _ (orphan_id s.jobs) s (orphans_pass s.jobs s.tasks) f.tidy, told_stay WasWaiting ms o h, room_stay WasWaiting ms o r) in
    let u = unplaced s in
    let e : u.machines ≡ ms = (unplaced_alike s).1 in
    let P : List Machine → Type 0 = λ xs. Housed ms (place_all_lem u.now xs (keep (λ (t : Task). is_waiting t.phase) u.tasks) u.tasks) × Fitting ms (place_all_lem u.now xs (keep (λ (t : Task). is_waiting t.phase) u.tasks) u.tasks) in
    subst P (sym e) (places_ok u.now ms f.machines 0 _ u.tasks (queue_of u.tasks p.0.0) p.1 p.2)

-- what is on a machine is there after a pass
pub on_settle : (s : State) → Tidy s → (i k : ℕ) → OnIt s.tasks i k → OnIt (settle s).tasks i k
on_settle s h i k o = on_pass Never Put i (λ x d. absurd d) puts k (settle_pass s h) all.1
  where
    P : State → Type 0
    P u = Tidy u × OnIt u.tasks i k

    puts : (x y : Task) → Put x y → on_machine i x ≡ true → (y.id ≡ x.id) × (on_machine i y ≡ true)
    puts x y (inl e) g = (ap (λ (t : Task). t.id) e, ap (on_machine i) e ∙ g)
    puts x y (inr q) g = clash (on_machine i x) g (waits_nowhere i x q.0)

    end : (ts : List Task) (t : Task) → OnIt ts i k → OnIt (ts ++ (t ∷ [])) i k
    end ts t w = (w.0, left w.1, w.2, w.3)
      where
        left : In w.0 ts → In w.0 (ts ++ (t ∷ []))
        left j = go ts j
          where
            go : (xs : List Task) → In w.0 xs → In w.0 (xs ++ (t ∷ []))
            go [] j' = absurd j'
            go (x ∷ xs) (inl e) = inl e
            go (x ∷ xs) (inr j') = inr (go xs j')

    ending : (j : Job) (u : State) → P u → (xs : List Task) → MayEnd u j xs → OnIt (ended xs u.tasks) i k
    ending j u p xs m = on_stay WasWaiting i (λ x d. waits_nowhere i x d) k (ended_stay j u p.0 xs m) p.1

    step : (j : Job) (u : State) → P u → P (for_job j u)
    step j u p = (tidy_step j u p.0, step_is (λ (v : State). OnIt v.tasks i k) j u (ending j u p) (λ xs m g. end (ended xs u.tasks) (fresh j u.next_id) (ending j u p xs m)))

    all : P (unplaced s)
    all = steps_are P s.jobs (with_tasks (orphans_end s.jobs s.tasks) s) (λ j i' u p. step j u p) (tidy_pass _ _ (orphan_id s.jobs) s (orphans_pass s.jobs s.tasks) h, on_stay WasWaiting i (λ x d. waits_nowhere i x d) k (orphans_stay s.jobs s.tasks) o)
