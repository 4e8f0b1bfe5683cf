-- What the herd answers is in range, whatever its words are.
-- Assumes nothing.
use Rattle.std.proofs.Common.{◌≡◌, ℕ, zero, suc, ◌+◌, ◌*◌, ◌%◌, ◌<◌, ◌≤◌, min, Bool, true, false, cond, ◌&&◌, eqb, ltb, List, [], ◌∷◌, ◌++◌, map, length, get_or, take, drop, refl, ap, arith, length-append, length-take, get_or-drop}
use Rattle.std.proofs.lemmas.Bool.{and_parts, lt-ltb, le-leb}
use Rattle.model.specs.Lists.{every, keep}
use Rattle.model.specs.State.{Task, is_ending, of_job, on_machine}
use Rattle.model.specs.Calls.{small, orders, lines_of}
use Rattle.model.specs.Answers.{long, spec_fits, order_fits}
use Rattle.jobs.specs.Rows.{span}
use Rattle.jobs.specs.Tables.{low, spec_from_lem, task_from, task_at, task_row_lem, task_rows_lem, tasks_of, state_of}
use Rattle.calls.specs.Answers.{number_of, answer_of}
use Rattle.calls.specs.declared.answer.Refusal.{Refusal}
use Rattle.calls.specs.declared.answer.Refusal.TheVariants.{Malformed, Unknown, Present, Stale, Full, NoTime, NotBuilt}
use Rattle.calls.specs.declared.answer.Answer.{Answer}
use Rattle.calls.specs.declared.answer.Answer.TheVariants.{TurnedAway, Yes, Run, Lines}
use Rattle.wire.specs.Fits.{brief, line_fits, answer_fits}
use Rattle.wire.specs.Herd.{head_fits, HerdAnswersBack}
use Rattle.wire.proofs.AnswersBack.{answers_back}

-- LISTS

every_append : {A : Type 0} (p : A → Bool) (xs ys : List A) → every p xs ≡ true → every p ys ≡ true → every p (xs ++ ys) ≡ true
unfolding every
every_append p [] ys e f = f
every_append p (x ∷ xs) ys e f = let q = and_parts (p x) (every p xs) e in rw q.0 (every_append p xs ys q.1 f)

every_keep : {A : Type 0} (p f : A → Bool) (xs : List A) → every p xs ≡ true → every p (keep f xs) ≡ true
unfolding every keep
every_keep p f [] e = refl
every_keep p f (x ∷ xs) e = let q = and_parts (p x) (every p xs) e in pick (f x) q.0 (every_keep p f xs q.1)
  where
    pick : (b : Bool) → p x ≡ true → every p (keep f xs) ≡ true → every p (cond b (x ∷ keep f xs) (keep f xs)) ≡ true
    pick true g h = rw g h
    pick false g h = h

length_keep : {A : Type 0} (f : A → Bool) (xs : List A) → length (keep f xs) ≤ length xs
unfolding keep
length_keep f [] = omega arith
length_keep f (x ∷ xs) = pick (f x) (length_keep f xs)
  where
    pick : (b : Bool) → length (keep f xs) ≤ length xs → length (cond b (x ∷ keep f xs) (keep f xs)) ≤ length (x ∷ xs)
    pick true h = omega arith
    pick false h = omega arith

every_span : {A : Type 0} (p : A → Bool) (h : ℕ → List A) → ((i : ℕ) → every p (h i) ≡ true) → (a n : ℕ) → every p (span h a n) ≡ true
unfolding every span
every_span p h e a zero = refl
every_span p h e a (suc n) = every_append p (h a) (span h (suc a) n) (e a) (every_span p h e (suc a) n)

length_span : {A : Type 0} (h : ℕ → List A) → ((i : ℕ) → length (h i) ≤ 1) → (a n : ℕ) → length (span h a n) ≤ n
unfolding span
length_span h e a zero = omega arith
length_span h e a (suc n) = let b = e a in let g = length_span h e (suc a) n in let l = length-append (h a) (span h (suc a) n) in omega arith

-- A TASK, from its row

lows_small : (n : ℕ) (xs : List ℕ) → every small (take n (map low xs)) ≡ true
unfolding every
lows_small zero xs = refl
lows_small (suc n) [] = refl
lows_small (suc n) (x ∷ xs) = rw (lt-ltb (low x) 4294967296 (omega arith)) (lows_small n xs)

spec_from_fits : (p : List ℕ) → spec_fits (spec_from_lem p) ≡ true
spec_from_fits p =
    let few : length (spec_from_lem p).tags ≤ 8 = (let l = length-take (min (get_or p 5 0) 8) (map low (take 8 (drop 6 p))) in omega arith) in
    rw (lt-ltb (low (get_or p 1 0)) 4294967296 (omega arith), lt-ltb (low (get_or p 2 0)) 4294967296 (omega arith), lt-ltb (low (get_or p 3 0)) 4294967296 (omega arith), le-leb (length (spec_from_lem p).tags) 8 few)
    (lows_small (min (get_or p 5 0) 8) (take 8 (drop 6 p)))

task_fits : Task → Bool
task_fits t = long t.id && spec_fits t.spec && small t.version && brief t.machine

machine_small : (b : Bool) (w : ℕ) → cond b 0 (w % 65536) < 65536
machine_small true w = omega arith
machine_small false w = omega arith

task_from_fits : (r : List ℕ) (ready : ℕ) → get_or r 0 0 < 18446744073709551616 → task_fits (task_from r ready) ≡ true
unfolding task_fits
task_from_fits r ready l =
    rw (lt-ltb (get_or r 0 0) 18446744073709551616 l, spec_from_fits (drop 4 r), lt-ltb (low (get_or (drop 4 r) 0 0)) 4294967296 (omega arith)) (lt-ltb _ 65536 (machine_small (eqb (get_or r 1 0) 0) (get_or r 2 0)))

module _ (home live : List ℕ) (words : (k : ℕ) → get_or home k 0 < 18446744073709551616) where
  id_small : (i : ℕ) → get_or (task_row_lem home i) 0 0 < 18446744073709551616
  id_small i = front 27 (drop (12808 + i * 27) home) (let e = get_or-drop (12808 + i * 27) home 0 0 in let w = words (12808 + i * 27 + 0) in omega arith)
    where
      front : (n : ℕ) (xs : List ℕ) → get_or xs 0 0 < 18446744073709551616 → get_or (take n xs) 0 0 < 18446744073709551616
      front zero xs h = omega arith
      front (suc n) [] h = omega arith
      front (suc n) (x ∷ xs) h = h

  slot_fits : (i : ℕ) → every task_fits (task_at home live i) ≡ true
  unfolding every
  slot_fits i = pick (eqb (get_or (task_row_lem home i) 0 0) 0)
    where
      t : Task
      t = task_from (task_row_lem home i) (get_or live (256 + i) 0)

      pick : (b : Bool) → every task_fits (cond b [] (t ∷ [])) ≡ true
      pick true = refl
      pick false = rw (task_from_fits (task_row_lem home i) (get_or live (256 + i) 0) (id_small i))

  slot_one : (i : ℕ) → length (task_at home live i) ≤ 1
  slot_one i = pick (eqb (get_or (task_row_lem home i) 0 0) 0)
    where
      t : Task
      t = task_from (task_row_lem home i) (get_or live (256 + i) 0)

      pick : (b : Bool) → length (cond b [] (t ∷ [])) ≤ 1
      pick true = omega arith
      pick false = omega arith

  tasks_fit : every task_fits (tasks_of home live) ≡ true
  tasks_fit = every_span task_fits (task_at home live) slot_fits 0 (task_rows_lem home)

  tasks_few : length (tasks_of home live) ≤ 2048
  tasks_few = let l = length_span (task_at home live) slot_one 0 (task_rows_lem home) in omega arith

-- WHAT IS LISTED

orders_fit_all : (ts : List Task) → every task_fits ts ≡ true → every order_fits (orders ts) ≡ true
unfolding every orders task_fits
orders_fit_all [] e = refl
orders_fit_all (t ∷ ts) e =
    let p = and_parts (task_fits t) (every task_fits ts) e in let q = and_parts (long t.id && spec_fits t.spec && small t.version) (brief t.machine) p.0 in let r = and_parts (long t.id && spec_fits t.spec) (small t.version) q.0 in
    pick (is_ending t.phase) r.0 (orders_fit_all ts p.1)
  where
    pick : (b : Bool) → (long t.id && spec_fits t.spec) ≡ true → every order_fits (orders ts) ≡ true → every order_fits (cond b (orders ts) (record { id = t.id; spec = t.spec } ∷ orders ts)) ≡ true
    pick true f g = g
    pick false f g = rw f g

length_orders : (ts : List Task) → length (orders ts) ≤ length ts
unfolding orders
length_orders [] = omega arith
length_orders (t ∷ ts) = pick (is_ending t.phase) (length_orders ts)
  where
    pick : (b : Bool) → length (orders ts) ≤ length ts → length (cond b (orders ts) (record { id = t.id; spec = t.spec } ∷ orders ts)) ≤ length (t ∷ ts)
    pick true h = omega arith
    pick false h = omega arith

lines_fit_all : (ts : List Task) → every task_fits ts ≡ true → every line_fits (lines_of ts) ≡ true
unfolding every lines_of task_fits
lines_fit_all [] e = refl
lines_fit_all (t ∷ ts) e =
    let p = and_parts (task_fits t) (every task_fits ts) e in let q = and_parts (long t.id && spec_fits t.spec && small t.version) (brief t.machine) p.0 in let r = and_parts (long t.id && spec_fits t.spec) (small t.version) q.0 in
    let s = and_parts (long t.id) (spec_fits t.spec) r.0 in rw (s.0, r.1, q.1) (lines_fit_all ts p.1)

length_lines : (ts : List Task) → length (lines_of ts) ≡ length ts
unfolding lines_of
length_lines [] = refl
length_lines (t ∷ ts) = ap suc (length_lines ts)

-- AN ANSWER

number_small : (r : Refusal) → ltb (number_of r) 256 ≡ true
number_small Malformed = refl
number_small Unknown = refl
number_small Present = refl
number_small Stale = refl
number_small Full = refl
number_small NoTime = refl
number_small NotBuilt = refl

herd_answer_fits : (home live : List ℕ) (time : ℕ) (a : Answer) → ((k : ℕ) → get_or home k 0 < 18446744073709551616) → head_fits a ≡ true → answer_fits (answer_of a (state_of home live time)) ≡ true
herd_answer_fits home live time (TurnedAway r) w e = number_small r
herd_answer_fits home live time Yes w e = refl
herd_answer_fits home live time (Run r) w e =
    let ts = keep (on_machine r.machine.0) (tasks_of home live) in
    let l : length (orders ts) < 65536 = (let a = length_orders ts in let b = length_keep (on_machine r.machine.0) (tasks_of home live) in let c = tasks_few home live w in omega arith) in
    rw (e, lt-ltb (length (orders ts)) 65536 l) (orders_fit_all ts (every_keep task_fits (on_machine r.machine.0) (tasks_of home live) (tasks_fit home live w)))
herd_answer_fits home live time (Lines n) w e =
    let ts = keep (of_job n.now) (tasks_of home live) in
    let l : length (lines_of ts) < 65536 = (let a = length_lines ts in let b = length_keep (of_job n.now) (tasks_of home live) in let c = tasks_few home live w in omega arith) in
    rw (lt-ltb (length (lines_of ts)) 65536 l) (lines_fit_all ts (every_keep task_fits (of_job n.now) (tasks_of home live) (tasks_fit home live w)))

pub herd_answers_back : HerdAnswersBack
herd_answers_back home live time a w e = answers_back (answer_of a (state_of home live time)) (herd_answer_fits home live time a w e)
