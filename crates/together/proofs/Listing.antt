-- What a state that words stand for can list in an answer to a report: its numbers are in range, since words are. (The steps are those of the answers of the herd, said here of the orders alone.)
-- Assumes nothing.
use Rattle.std.proofs.Common.{◌≡◌, ℕ, zero, suc, ◌+◌, ◌*◌, ◌%◌, ◌<◌, ◌≤◌, min, Bool, true, false, cond, ◌&&◌, eqb, List, [], ◌∷◌, ◌++◌, map, length, get_or, take, drop, refl, arith, length-append, length-take, get_or-drop, inl, inr, subst, sym}
use Rattle.std.proofs.lemmas.Bool.{and_parts, lt-ltb, le-leb}
use Rattle.model.specs.Lists.{every, keep}
use Rattle.model.specs.State.{Machine, Task, is_ending, on_machine}
use Rattle.model.specs.Calls.{small, orders}
use Rattle.model.specs.Answers.{long, spec_fits, order_fits}
use Rattle.model.proofs.Lists.{In, in_append}
use Rattle.jobs.specs.Rows.{span}
use Rattle.jobs.specs.Tables.{low, spec_from_lem, task_from, task_at, task_row_lem, task_rows_lem, tasks_of, machine_from, machine_row_lem, machine_at, machine_rows_lem}
use Rattle.wire.specs.Fits.{brief}
use Rattle.serving.specs.Herd.{Held, state_in, Whole}

-- LISTS

every_append : {A : Type 0} (p : A → Bool) (xs ys : List A) → every p xs ≡ true → every p ys ≡ true → every p (xs ++ ys) ≡ true
unfolding every
every_append p [] ys e f = f
every_append p (x ∷ xs) ys e f = let q = and_parts (p x) (every p xs) e in rw q.0 (every_append p xs ys q.1 f)

every_keep : {A : Type 0} (p f : A → Bool) (xs : List A) → every p xs ≡ true → every p (keep f xs) ≡ true
unfolding every keep
every_keep p f [] e = refl
every_keep p f (x ∷ xs) e = let q = and_parts (p x) (every p xs) e in pick (f x) q.0 (every_keep p f xs q.1)
  where
    pick : (b : Bool) → p x ≡ true → every p (keep f xs) ≡ true → every p (cond b (x ∷ keep f xs) (keep f xs)) ≡ true
    pick true g h = rw g h
    pick false g h = h

length_keep : {A : Type 0} (f : A → Bool) (xs : List A) → length (keep f xs) ≤ length xs
unfolding keep
length_keep f [] = omega arith
length_keep f (x ∷ xs) = pick (f x) (length_keep f xs)
  where
    pick : (b : Bool) → length (keep f xs) ≤ length xs → length (cond b (x ∷ keep f xs) (keep f xs)) ≤ length (x ∷ xs)
    pick true h = omega arith
    pick false h = omega arith

every_span : {A : Type 0} (p : A → Bool) (h : ℕ → List A) → ((i : ℕ) → every p (h i) ≡ true) → (a n : ℕ) → every p (span h a n) ≡ true
unfolding every span
every_span p h e a zero = refl
every_span p h e a (suc n) = every_append p (h a) (span h (suc a) n) (e a) (every_span p h e (suc a) n)

length_span : {A : Type 0} (h : ℕ → List A) → ((i : ℕ) → length (h i) ≤ 1) → (a n : ℕ) → length (span h a n) ≤ n
unfolding span
length_span h e a zero = omega arith
length_span h e a (suc n) = let b = e a in let g = length_span h e (suc a) n in let l = length-append (h a) (span h (suc a) n) in omega arith

-- A TASK, from its row

lows_small : (n : ℕ) (xs : List ℕ) → every small (take n (map low xs)) ≡ true
unfolding every
lows_small zero xs = refl
lows_small (suc n) [] = refl
lows_small (suc n) (x ∷ xs) = rw (lt-ltb (low x) 4294967296 (omega arith)) (lows_small n xs)

spec_from_fits : (p : List ℕ) → spec_fits (spec_from_lem p) ≡ true
spec_from_fits p =
    let few : length (spec_from_lem p).tags ≤ 8 = (let l = length-take (min (get_or p 5 0) 8) (map low (take 8 (drop 6 p))) in omega arith) in
    rw (lt-ltb (low (get_or p 1 0)) 4294967296 (omega arith), lt-ltb (low (get_or p 2 0)) 4294967296 (omega arith), lt-ltb (low (get_or p 3 0)) 4294967296 (omega arith), le-leb (length (spec_from_lem p).tags) 8 few)
    (lows_small (min (get_or p 5 0) 8) (take 8 (drop 6 p)))

task_fits : Task → Bool
task_fits t = long t.id && spec_fits t.spec && small t.version && brief t.machine

machine_small : (b : Bool) (w : ℕ) → cond b 0 (w % 65536) < 65536
machine_small true w = omega arith
machine_small false w = omega arith

task_from_fits : (r : List ℕ) (ready : ℕ) → get_or r 0 0 < 18446744073709551616 → task_fits (task_from r ready) ≡ true
unfolding task_fits
task_from_fits r ready l =
    rw (lt-ltb (get_or r 0 0) 18446744073709551616 l, spec_from_fits (drop 4 r), lt-ltb (low (get_or (drop 4 r) 0 0)) 4294967296 (omega arith)) (lt-ltb _ 65536 (machine_small (eqb (get_or r 1 0) 0) (get_or r 2 0)))

module _ (home live : List ℕ) (words : (k : ℕ) → get_or home k 0 < 18446744073709551616) where
  id_small : (i : ℕ) → get_or (task_row_lem home i) 0 0 < 18446744073709551616
  id_small i = front 27 (drop (12808 + i * 27) home) (let e = get_or-drop (12808 + i * 27) home 0 0 in let w = words (12808 + i * 27 + 0) in omega arith)
    where
      front : (n : ℕ) (xs : List ℕ) → get_or xs 0 0 < 18446744073709551616 → get_or (take n xs) 0 0 < 18446744073709551616
      front zero xs h = omega arith
      front (suc n) [] h = omega arith
      front (suc n) (x ∷ xs) h = h

  slot_fits : (i : ℕ) → every task_fits (task_at home live i) ≡ true
  unfolding every
  slot_fits i = pick (eqb (get_or (task_row_lem home i) 0 0) 0)
    where
      t : Task
      t = task_from (task_row_lem home i) (get_or live (256 + i) 0)

      pick : (b : Bool) → every task_fits (cond b [] (t ∷ [])) ≡ true
      pick true = refl
      pick false = rw (task_from_fits (task_row_lem home i) (get_or live (256 + i) 0) (id_small i))

  slot_one : (i : ℕ) → length (task_at home live i) ≤ 1
  slot_one i = pick (eqb (get_or (task_row_lem home i) 0 0) 0)
    where
      t : Task
      t = task_from (task_row_lem home i) (get_or live (256 + i) 0)

      pick : (b : Bool) → length (cond b [] (t ∷ [])) ≤ 1
      pick true = omega arith
      pick false = omega arith

  tasks_fit : every task_fits (tasks_of home live) ≡ true
  tasks_fit = every_span task_fits (task_at home live) slot_fits 0 (task_rows_lem home)

  tasks_few : length (tasks_of home live) ≤ 2048
  tasks_few = let l = length_span (task_at home live) slot_one 0 (task_rows_lem home) in omega arith

-- WHAT IS LISTED

orders_fit_all : (ts : List Task) → every task_fits ts ≡ true → every order_fits (orders ts) ≡ true
unfolding every orders task_fits
orders_fit_all [] e = refl
orders_fit_all (t ∷ ts) e =
    let p = and_parts (task_fits t) (every task_fits ts) e in let q = and_parts (long t.id && spec_fits t.spec && small t.version) (brief t.machine) p.0 in let r = and_parts (long t.id && spec_fits t.spec) (small t.version) q.0 in
    pick (is_ending t.phase) r.0 (orders_fit_all ts p.1)
  where
    pick : (b : Bool) → (long t.id && spec_fits t.spec) ≡ true → every order_fits (orders ts) ≡ true → every order_fits (cond b (orders ts) (record { id = t.id; spec = t.spec } ∷ orders ts)) ≡ true
    pick true f g = g
    pick false f g = rw f g

length_orders : (ts : List Task) → length (orders ts) ≤ length ts
unfolding orders
length_orders [] = omega arith
length_orders (t ∷ ts) = pick (is_ending t.phase) (length_orders ts)
  where
    pick : (b : Bool) → length (orders ts) ≤ length ts → length (cond b (orders ts) (record { id = t.id; spec = t.spec } ∷ orders ts)) ≤ length (t ∷ ts)
    pick true h = omega arith
    pick false h = omega arith

-- THE ORDERS ON A MACHINE
pub few_orders : (x : Held) → Whole x → (k : ℕ) → length (orders (keep (on_machine k) (state_in x).tasks)) < 65536
few_orders x w k =
    let ts = keep (on_machine k) (tasks_of x.home x.live) in let a = length_orders ts in let b = length_keep (on_machine k) (tasks_of x.home x.live) in let c = tasks_few x.home x.live w.small in omega arith

pub orders_fit : (x : Held) → Whole x → (k : ℕ) → every order_fits (orders (keep (on_machine k) (state_in x).tasks)) ≡ true
orders_fit x w k = orders_fit_all (keep (on_machine k) (tasks_of x.home x.live)) (every_keep task_fits (on_machine k) (tasks_of x.home x.live) (tasks_fit x.home x.live w.small))

-- MACHINES have numbers of two bytes
in_span : {A : Type 0} (h : ℕ → List A) (P : A → Type 0) → ((i : ℕ) (x : A) → In x (h i) → P x) → (a n : ℕ) (x : A) → In x (span h a n) → P x
unfolding span
in_span h P f a zero x i = absurd i
in_span h P f a (suc n) x i = elim (in_append x (h a) (span h (suc a) n) i) [ inl k ↦ f a x k | inr k ↦ in_span h P f (suc a) n x k ]

pub machine_brief : (x : Held) (m : Machine) → In m (state_in x).machines → m.num < 65536
machine_brief x m i = in_span (machine_at x.home x.live) P slot 0 (machine_rows_lem x.home) m i
  where
    P : Machine → Type 0
    P y = y.num < 65536

    slot : (j : ℕ) (y : Machine) → In y (machine_at x.home x.live j) → P y
    slot j y = pick (eqb (get_or (machine_row_lem x.home j) 0 0) 0)
      where
        v : Machine
        v = machine_from (machine_row_lem x.home j) (get_or x.live j 0)

        low : v.num < 65536
        low = omega arith

        pick : (b : Bool) → In y (cond b [] (v ∷ [])) → P y
        pick true k = absurd k
        pick false (inl e) = subst P (sym e) low
        pick false (inr k) = absurd k
