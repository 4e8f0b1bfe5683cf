-- One more row, and what is on a machine.
-- Assumes nothing.
use Rattle.std.proofs.Common.{◌≡◌, ℕ, zero, suc, ◌+◌, ◌*◌, ◌<◌, ◌≤◌, Bool, true, false, ◌||◌, eqb, List, [], ◌∷◌, ◌++◌, length, get_or, set, Option, Some, None, sym, refl, ap, subst, ◌∙◌, inl, inr, arith}
use Rattle.std.proofs.lemmas.List.{append-nil, append_assoc, length-append, get_or-set_same, get_or-set_other, get_or_default}
use Rattle.std.proofs.lemmas.Bool.{cases_Bool, cases_eq}
use Rattle.std.specs.List.{cons_option, filter_map, range_with_len}
use Rattle.model.specs.Lists.{keep, some}
use Rattle.model.specs.State as s
use Rattle.model.specs.State.{is_waiting, of_job, on_machine, cpu_of, mem_of}
use Rattle.jobs.specs.Rows.{span}
use Rattle.jobs.specs.Tables.{task_at, machine_rows_lem}
use Rattle.settling.specs.Place.{LoadBy, Loaded, weight_of, heavier, no_load, num_at}
use Rattle.settling.specs.declared.load.Load.{Load}
use Rattle.settling.specs.declared.load.Weight.{Weight}
use Rattle.settling.proofs.Scans.{keep_yes, keep_no, some_one, some_append}
use Rattle.settling.proofs.Tallies.{row_few}

cpu_push : (xs : List s.Task) (y : s.Task) → cpu_of (xs ++ y ∷ []) ≡ cpu_of xs + y.spec.cpu
unfolding cpu_of
cpu_push [] y = omega arith
cpu_push (x ∷ xs) y = omega (arith, cpu_push xs y)

mem_push : (xs : List s.Task) (y : s.Task) → mem_of (xs ++ y ∷ []) ≡ mem_of xs + y.spec.mem
unfolding mem_of
mem_push [] y = omega arith
mem_push (x ∷ xs) y = omega (arith, mem_push xs y)

some_push : (f : s.Task → Bool) (xs : List s.Task) (y : s.Task) → some f (xs ++ y ∷ []) ≡ (some f xs || f y)
some_push f xs y = some_append f xs (y ∷ []) ∙ ap (λ (b : Bool). some f xs || b) (some_one f y)

none_on : (job : s.Name) (k : ℕ) → LoadBy job k [] no_load
unfolding keep cpu_of mem_of some
none_on job k = record { cpu = refl; mem = refl; mine = refl }

module _ (job : s.Name) (k : ℕ) (ts : List s.Task) (l : Load) (b : LoadBy job k ts l) where
  stays : (x : s.Task) → on_machine k x ≡ false → LoadBy job k (ts ++ x ∷ []) l
  stays x n = record {
    cpu = b.cpu ∙ sym (ap cpu_of (keep_no (on_machine k) ts x n));
    mem = b.mem ∙ sym (ap mem_of (keep_no (on_machine k) ts x n));
    mine = b.mine ∙ sym (ap (some (of_job job)) (keep_no (on_machine k) ts x n));
  }

  joins : (x : s.Task) → on_machine k x ≡ true → LoadBy job k (ts ++ x ∷ []) (record { cpu = l.cpu + x.spec.cpu; mem = l.mem + x.spec.mem; mine = l.mine || of_job job x })
  joins x t = record {
    cpu = ap (λ (n : ℕ). n + x.spec.cpu) b.cpu ∙ sym (ap cpu_of (keep_yes (on_machine k) ts x t) ∙ cpu_push (keep (on_machine k) ts) x);
    mem = ap (λ (n : ℕ). n + x.spec.mem) b.mem ∙ sym (ap mem_of (keep_yes (on_machine k) ts x t) ∙ mem_push (keep (on_machine k) ts) x);
    mine = ap (λ (c : Bool). c || of_job job x) b.mine ∙ sym (ap (some (of_job job)) (keep_yes (on_machine k) ts x t) ∙ some_push (of_job job) (keep (on_machine k) ts) x);
  }

  -- a task that is on some machine
  on_some : (x : s.Task) (w : Weight) → is_waiting x.phase ≡ false → w ≡ record { machine = record { 0 = x.machine }; cpu = x.spec.cpu; mem = x.spec.mem; mine = of_job job x } → LoadBy job k (ts ++ x ∷ []) (heavier k w l)
  on_some x w f e =
      rw e (elim (cases_Bool (eqb k x.machine)) [ inl t ↦ rw t (joins x (rw (f, t))) | inr n ↦ rw n (stays x (rw (f, n))) ])

  -- the weight of a row, or none
  pub weighs : (xs : List s.Task) (w : Weight) → length xs ≤ 1 → Some w ≡ weight_of job xs → LoadBy job k (ts ++ xs) (heavier k w l)
  weighs [] w h e = absurd (let z : ◌≡◌ {A = ℕ} 0 1 = cc in omega arith)
  weighs (x ∷ []) w h e = elim (cases_Bool (is_waiting x.phase)) [
    | inl t ↦ absurd (let g : Some w ≡ None = e ∙ rw t in (let z : ◌≡◌ {A = ℕ} 0 1 = cc in omega arith))
    | inr n ↦ on_some x w n (let g : Some w ≡ Some (record { machine = record { 0 = x.machine }; cpu = x.spec.cpu; mem = x.spec.mem; mine = of_job job x }) = e ∙ rw n in cc)
  ]
  weighs (x ∷ z ∷ zs) w h e = absurd (let q : suc (suc (length zs)) ≤ 1 = h in omega arith)

  pub weighs_not : (xs : List s.Task) → length xs ≤ 1 → None ≡ weight_of job xs → LoadBy job k (ts ++ xs) l
  weighs_not [] h e = rw (append-nil ts) b
  weighs_not (x ∷ []) h e = elim (cases_Bool (is_waiting x.phase)) [
    | inl t ↦ stays x (rw t)
    | inr n ↦ absurd (let g : None ≡ Some (record { machine = record { 0 = x.machine }; cpu = x.spec.cpu; mem = x.spec.mem; mine = of_job job x }) = e ∙ rw n in (let z : ◌≡◌ {A = ℕ} 0 1 = cc in omega arith))
  ]
  weighs_not (x ∷ z ∷ zs) h e = absurd (let q : suc (suc (length zs)) ≤ 1 = h in omega arith)

-- THE TABLE, ROW BY ROW

-- rows below q have the task more, the others not yet
abbrev pub Adding : List ℕ → Weight → List Load → ℕ → List Load → Type 0
Adding home w ls q ms = (r : ℕ) (e : Load) → r < machine_rows_lem home → (r < q → get_or ms r e ≡ heavier (num_at home r) w (get_or ls r e)) × (q ≤ r → get_or ms r e ≡ get_or ls r e)

pub adding_none : (home : List ℕ) (w : Weight) (ls : List Load) → Adding home w ls 0 ls
adding_none home w ls r e h = ((λ l. absurd (omega arith)), λ l. refl)

pub adding_more : (home : List ℕ) (w : Weight) (ls ms : List Load) (q : ℕ) (v d : Load) → q < length ms → q < machine_rows_lem home → Adding home w ls q ms → v ≡ heavier (num_at home q) w (get_or ms q d) → Adding home w ls (q + 1) (set ms q v)
adding_more home w ls ms q v d l z a is r e h = (
  (λ b. elim (cases_eq r q) [
    | inl s' ↦ rw s' (get_or-set_same ms q v e l ∙ is ∙ ap (heavier (num_at home q) w) (get_or_default ms q d e l ∙ (a q e z).1 (omega arith)))
    | inr n ↦ get_or-set_other ms q r v e n ∙ (a r e h).0 (below r b n)
  ]),
  λ b. get_or-set_other ms q r v e (λ s'. omega arith) ∙ (a r e h).1 (omega arith),
)
  where
    below : (r : ℕ) → r < q + 1 → (r ≡ q → ⊥) → r < q
    below r b n = omega arith

-- ALL WEIGHTS, as a chain yields them

-- what weights make of a machine k that has the load l
unfoldable pub put_from : ℕ → Load → List Weight → Load
put_from k l [] = l
put_from k l (w ∷ ws) = put_from k (heavier k w l) ws

put_more : (k : ℕ) (l : Load) (ws : List Weight) (w : Weight) → put_from k l (ws ++ w ∷ []) ≡ heavier k w (put_from k l ws)
unfolding put_from
put_more k l [] w = refl
put_more k l (v ∷ ws) w = put_more k (heavier k v l) ws w

adds_few : (k : ℕ) (w : Weight) (l : Load) → ((heavier k w l).cpu ≤ l.cpu + w.cpu) × ((heavier k w l).mem ≤ l.mem + w.mem)
adds_few k w l = elim (cases_Bool (eqb k w.machine.0)) [ inl t ↦ rw t (omega arith, omega arith) | inr n ↦ rw n (omega arith, omega arith) ]

-- each row's load is that of so many weights
abbrev pub Weighed : List ℕ → List Weight → List Load → Type 0
Weighed home ws ls = (r : ℕ) (e : Load) → r < machine_rows_lem home → (get_or ls r e ≡ put_from (num_at home r) no_load ws) × ((get_or ls r e).cpu ≤ length ws * 4294967295) × ((get_or ls r e).mem ≤ length ws * 4294967295)

pub weighed_none : (home : List ℕ) (ls : List Load) → ((r : ℕ) (e : Load) → r < 256 → get_or ls r e ≡ no_load) → Weighed home [] ls
unfolding put_from
weighed_none home ls z r e h = let l = z r e (omega arith) in (l, rw l (omega arith), rw l (omega arith))

pub weighed_more : (home : List ℕ) (ws : List Weight) (ls ms : List Load) (w : Weight) → w.cpu < 4294967296 → w.mem < 4294967296 → ((r : ℕ) (e : Load) → r < machine_rows_lem home → get_or ms r e ≡ heavier (num_at home r) w (get_or ls r e)) → Weighed home ws ls → Weighed home (ws ++ w ∷ []) ms
weighed_more home ws ls ms w c m p k r e h =
    let l = get_or ls r e in
    let b = k r e h in
    let f = adds_few (num_at home r) w l in
    let n : length (ws ++ w ∷ []) ≡ length ws + 1 = length-append ws (w ∷ []) in (
      p r e h ∙ ap (heavier (num_at home r) w) b.0 ∙ sym (put_more (num_at home r) no_load ws w),
      rw (p r e h, n) (omega (arith, f.0, b.1)),
      rw (p r e h, n) (omega (arith, f.1, b.2)),
    )

pub weighed_light : (home : List ℕ) (ws : List Weight) (ls : List Load) → length ws ≤ 2048 → Weighed home ws ls → (r : ℕ) (e : Load) → r < machine_rows_lem home → ((get_or ls r e).cpu < 1000000000000000) × ((get_or ls r e).mem < 1000000000000000)
weighed_light home ws ls n k r e h = let b = k r e h in (omega (arith, b.1), omega (arith, b.2))

-- the weights of n rows from a on, and no more of them than rows
abbrev pub weights_of : s.Name → List ℕ → List ℕ → ℕ → ℕ → List Weight
weights_of job home live a n = filter_map (λ (i : ℕ). weight_of job (task_at home live i)) (range_with_len a n)

module _ (job : s.Name) (home live : List ℕ) where
  one_more : (o : Option Weight) (ws : List Weight) (n : ℕ) → length ws ≤ n → length (cons_option o ws) ≤ suc n
  one_more None ws n h = omega (arith, h)
  one_more (Some w) ws n h = omega (arith, h)

  pub weights_few : (a n : ℕ) → length (weights_of job home live a n) ≤ n
  weights_few a zero = omega arith
  weights_few a (suc n) = one_more (weight_of job (task_at home live a)) _ n (weights_few (a + 1) n)

  -- what a row adds, and then weights ws to all ts
  row_on : (k : ℕ) (ts xs : List s.Task) (l : Load) (ws : List Weight) (us : List s.Task) → LoadBy job k ts l → length xs ≤ 1 → ((m : Load) → LoadBy job k (ts ++ xs) m → LoadBy job k us (put_from k m ws)) → (o : Option Weight) → o ≡ weight_of job xs → LoadBy job k us (put_from k l (cons_option o ws))
  unfolding put_from
  row_on k ts xs l ws us b h on None e = on l (weighs_not job k ts l b xs h e)
  row_on k ts xs l ws us b h on (Some w) e = on (heavier k w l) (weighs job k ts l b xs w h e)

  loads_on : (k a n : ℕ) (ts : List s.Task) (l : Load) → LoadBy job k ts l → LoadBy job k (ts ++ span (task_at home live) a n) (put_from k l (weights_of job home live a n))
  unfolding span put_from
  loads_on k a zero ts l b = rw (append-nil ts) b
  loads_on k a (suc n) ts l b =
      let xs = task_at home live a in
      let e : a + 1 ≡ suc a = omega arith in
      row_on k ts xs l (weights_of job home live (a + 1) n) (ts ++ (xs ++ span (task_at home live) (suc a) n)) b (row_few home live a)
      (λ m c.
      subst (λ (ys : List s.Task). LoadBy job k ys (put_from k m (weights_of job home live (a + 1) n))) (append_assoc ts xs (span (task_at home live) (suc a) n))
      (subst (λ (i : ℕ). LoadBy job k ((ts ++ xs) ++ span (task_at home live) i n) (put_from k m (weights_of job home live (a + 1) n))) e (loads_on k (a + 1) n (ts ++ xs) m c)))
      (weight_of job xs) refl

  pub weighed_all : (n : ℕ) (ls : List Load) → Weighed home (weights_of job home live 0 n) ls → Loaded job home (span (task_at home live) 0 n) ls
  weighed_all n ls k r e h = rw ((k r e h).0) (loads_on (num_at home r) 0 n [] no_load (none_on job (num_at home r)))
