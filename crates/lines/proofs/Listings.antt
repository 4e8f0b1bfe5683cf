-- Tasks listed from their rows, one by one.
-- Assumes nothing.
use Rattle.std.proofs.Common.{◌≡◌, ℕ, zero, suc, ◌+◌, ◌%◌, ◌≤◌, Bool, false, cond, not, ◌&&◌, eqb, List, [], ◌∷◌, ◌++◌, length, drop, sym, refl, ap, ◌∙◌, subst, inl, inr, append_assoc, append-nil, arith}
use Rattle.std.proofs.lemmas.List.{length-append}
use Rattle.std.proofs.lemmas.Bool.{cases_Bool, ne_eqb}
use Rattle.model.specs.Lists.{keep, same}
use Rattle.model.specs.State.{Name, Spec, Task, is_ending, of_job, on_machine}
use Rattle.model.specs.Calls.{lines_of, orders}
use Rattle.model.specs.Wire.{Bytes, bytes_of, line_bytes, order_bytes, phase_of, spec_bytes}
use Rattle.settling.proofs.Scans.{keep_append}
use Rattle.jobs.specs.Rows.{at, span}
use Rattle.jobs.specs.Tables.{name_from_lem, phase_from_lem, spec_from_lem, task_from, task_slot, version_from_lem}
use Rattle.jobs.proofs.Spans.{span_none, span_more}
use Rattle.lines.specs.Puts.{Puts}
use Rattle.lines.specs.Listings.{Lists, each_bytes, line_of, order_of, runs_on_lem}
use Rattle.lines.proofs.Writing.{puts_none, puts_then, puts_back, puts_as}

-- ANY LIST

each_join : (f : Task → Bytes) (xs ys : List Task) → each_bytes f (xs ++ ys) ≡ each_bytes f xs ++ each_bytes f ys
unfolding each_bytes
each_join f [] ys = refl
each_join f (x ∷ xs) ys = ap (λ (t : Bytes). f x ++ t) (each_join f xs ys) ∙ sym (append_assoc (f x) (each_bytes f xs) (each_bytes f ys))

module _ (which : Task → Bool) (each : Task → Bytes) where
  -- a row in which there is nothing to list
  pub lists_nothing : (ts : List Task) (a : Bytes) (n c : ℕ) → keep which ts ≡ [] → Lists which each ts a a n c n c
  unfolding each_bytes
  lists_nothing ts a n c e = record { bytes = puts_as (sym (ap (each_bytes each) e)) (puts_none a n); count = let z = ap length e in omega arith }

  -- and one with a task
  pub lists_one : {ts : List Task} {t : Task} {a b : Bytes} {n m : ℕ} (c : ℕ) → keep which ts ≡ t ∷ [] → Puts (each t) a b n m → Lists which each ts a b n c m (c + 1)
  unfolding each_bytes
  lists_one {ts} {t} c e p = record { bytes = puts_as (sym (ap (each_bytes each) e ∙ append-nil (each t))) p; count = let z = ap length e in omega arith }

  pub lists_start : (h : ℕ → List Task) (a : Bytes) (n : ℕ) → Lists which each (span h 0 0) a a n 0 n 0
  unfolding keep
  lists_start h a n = lists_nothing (span h 0 0) a n 0 (ap (keep which) (span_none h 0))

  -- one row more
  pub lists_more : (h : ℕ → List Task) (i : ℕ) {a b d : Bytes} {n m c k l : ℕ} → Lists which each (span h 0 i) a b n 0 m c → Lists which each (h i) b d m c k l → Lists which each (span h 0 (i + 1)) a d n 0 k l
  lists_more h i p q =
      let e : keep which (span h 0 (i + 1)) ≡ keep which (span h 0 i) ++ keep which (h i) = ap (keep which) (span_more h i) ∙ keep_append which (span h 0 i) (h i) in
      record { bytes = puts_as (sym (ap (each_bytes each) e ∙ each_join each (keep which (span h 0 i)) (keep which (h i)))) (puts_then p.bytes q.bytes); count = let z = ap length e ∙ length-append (keep which (span h 0 i)) (keep which (h i)) in omega (arith, p.count, q.count) }

  pub lists_as : {ts us : List Task} {a b : Bytes} {n c m d : ℕ} → ts ≡ us → Lists which each ts a b n c m d → Lists which each us a b n c m d
  lists_as {ts} {us} {a} {b} {n} {c} {m} {d} e p = subst (λ (xs : List Task). Lists which each xs a b n c m d) e p

  -- how many there are stands in front, written afterwards
  pub lists_front : {ts : List Task} {a b c : Bytes} {n m d r : ℕ} → n + 2 ≤ length a → Lists which each ts a b (n + 2) 0 m d → Puts (bytes_of 2 d) b c n r → r ≡ n + 2 → Puts (bytes_of 2 (length (keep which ts)) ++ each_bytes each (keep which ts)) a c n m
  lists_front {ts} {a} {b} {c} {n} {m} {d} {r} h p q e =
      let k : d ≡ length (keep which ts) = omega (arith, p.count) in
      puts_back h p.bytes (puts_as (ap (bytes_of 2) k) (subst (λ (z : ℕ). Puts (bytes_of 2 d) b c n z) e q))

-- ORDERS

-- a task is to run on machine k if it is neither waiting nor ending, and there
runs_task : (t : Task) (k w m ready : ℕ) → t.phase ≡ phase_from_lem w ready → t.machine ≡ cond (eqb w 0) 0 m → runs_on_lem k t ≡ (eqb w 1 && eqb k m)
runs_task t k zero m ready p q = rw p
runs_task t k (suc zero) m ready p q =
    elim (cases_Bool (eqb k m)) [ inl a ↦ elim (cases_Bool (eqb ready 0)) [ inl b ↦ rw (p, q, a, b) | inr b ↦ rw (p, q, a, b) ] | inr a ↦ elim (cases_Bool (eqb ready 0)) [ inl b ↦ rw (p, q, a, b) | inr b ↦ rw (p, q, a, b) ] ]
runs_task t k (suc (suc w)) m ready p q =
    let x : eqb (suc (suc w)) 0 ≡ false = ne_eqb (suc (suc w)) 0 (λ e. omega arith) in
    let y : eqb (suc (suc w)) 1 ≡ false = ne_eqb (suc (suc w)) 1 (λ e. omega arith) in
    elim (cases_Bool (eqb k m)) [ inl a ↦ rw (p, q, x, y, a) | inr a ↦ rw (p, q, x, y, a) ]

-- the task in a row, if it passes a test that the row's words tell
slot_is : (which : Task → Bool) (row : List ℕ) (ready : ℕ) (b : Bool) → which (task_from row ready) ≡ b → keep which (task_slot row ready) ≡ cond (not (eqb (at row 0) 0) && b) (task_from row ready ∷ []) []
unfolding keep
slot_is which row ready b e = elim (cases_Bool (eqb (at row 0) 0)) [ inl t ↦ rw t | inr f ↦ rw (f, e) ]

slot_by : (b c : Bool) (t : Task) (ts : List Task) → ts ≡ cond b (t ∷ []) [] → c ≡ b → ts ≡ cond c (t ∷ []) []
slot_by b c t ts e f = e ∙ ap (λ (x : Bool). cond x (t ∷ []) []) (sym f)

module _ (row : List ℕ) (ready : ℕ) where
  pub order_lists : (k : ℕ) (b : Bool) → b ≡ (not (eqb (at row 0) 0) && (eqb (at row 1) 1 && eqb k (at row 2 % 65536))) → keep (runs_on_lem k) (task_slot row ready) ≡ cond b (task_from row ready ∷ []) []
  order_lists k b e = slot_by _ b _ _ (slot_is (runs_on_lem k) row ready _ (runs_task (task_from row ready) k (at row 1) (at row 2 % 65536) ready refl refl)) e

  pub order_put : {a b d : Bytes} {n m l : ℕ} (spec : Spec) → spec ≡ spec_from_lem (drop 4 row) → Puts (bytes_of 8 (at row 0)) a b n m → Puts (spec_bytes spec) b d m l → Puts (order_of (task_from row ready)) a d n l
  order_put spec s p q = puts_then p (puts_as (ap spec_bytes s) q)

-- LINES

module _ (row : List ℕ) (ready : ℕ) where
  pub line_lists : (name : Name) (b : Bool) → b ≡ (not (eqb (at row 0) 0) && same name (name_from_lem (drop 4 row))) → keep (of_job name) (task_slot row ready) ≡ cond b (task_from row ready ∷ []) []
  line_lists name b e = slot_by _ b _ _ (slot_is (of_job name) row ready _ refl) e

  pub line_put : {a b d e f : Bytes} {n m l i j : ℕ} (v p k : ℕ) → v ≡ version_from_lem (drop 4 row) → p ≡ phase_of (phase_from_lem (at row 1) ready) → k ≡ cond (eqb (at row 1) 0) 0 (at row 2 % 65536) →
      Puts (bytes_of 8 (at row 0)) a b n m → Puts (bytes_of 4 v) b d m l → Puts (p ∷ []) d e l i → Puts (bytes_of 2 k) e f i j → Puts (line_of (task_from row ready)) a f n j
  line_put v p k u w x q r y z = puts_then q (puts_then (puts_as (ap (bytes_of 4) u) r) (puts_then (puts_as (ap (λ (s : ℕ). s ∷ []) w) y) (puts_as (ap (bytes_of 2) x) z)))

-- THE LISTS OF THE MODEL

pub orders_bytes : (k : ℕ) (ts : List Task) → each_bytes order_of (keep (runs_on_lem k) ts) ≡ order_bytes (orders (keep (on_machine k) ts))
unfolding each_bytes keep orders order_bytes
orders_bytes k [] = refl
orders_bytes k (t ∷ ts) =
    elim (cases_Bool (on_machine k t)) [
      | inl a ↦ elim (cases_Bool (is_ending t.phase)) [ inl b ↦ rw (a, b) (orders_bytes k ts) | inr b ↦ rw (a, b) (append_assoc (bytes_of 8 t.id) (spec_bytes t.spec) (each_bytes order_of (keep (runs_on_lem k) ts)) ∙ ap (λ (x : Bytes). bytes_of 8 t.id ++ (spec_bytes t.spec ++ x)) (orders_bytes k ts)) ]
      | inr a ↦ rw a (orders_bytes k ts)
    ]

pub orders_count : (k : ℕ) (ts : List Task) → length (keep (runs_on_lem k) ts) ≡ length (orders (keep (on_machine k) ts))
unfolding keep orders
orders_count k [] = refl
orders_count k (t ∷ ts) =
    elim (cases_Bool (on_machine k t)) [
      | inl a ↦ elim (cases_Bool (is_ending t.phase)) [ inl b ↦ rw (a, b) (orders_count k ts) | inr b ↦ rw (a, b) (ap (λ (n : ℕ). suc n) (orders_count k ts)) ]
      | inr a ↦ rw a (orders_count k ts)
    ]

pub lines_bytes : (ts : List Task) → each_bytes line_of ts ≡ line_bytes (lines_of ts)
unfolding each_bytes lines_of line_bytes
lines_bytes [] = refl
lines_bytes (t ∷ ts) =
    let a = append_assoc (bytes_of 8 t.id) (bytes_of 4 t.version ++ (phase_of t.phase ∷ bytes_of 2 t.machine)) (each_bytes line_of ts) in
    let b = append_assoc (bytes_of 4 t.version) (phase_of t.phase ∷ bytes_of 2 t.machine) (each_bytes line_of ts) in
    a ∙ ap (λ (x : Bytes). bytes_of 8 t.id ++ x) b ∙ ap (λ (x : Bytes). bytes_of 8 t.id ++ (bytes_of 4 t.version ++ (phase_of t.phase ∷ (bytes_of 2 t.machine ++ x)))) (lines_bytes ts)

pub lines_count : (ts : List Task) → length ts ≡ length (lines_of ts)
unfolding lines_of
lines_count [] = refl
lines_count (t ∷ ts) = ap (λ (n : ℕ). suc n) (lines_count ts)

-- with how many they are in front
pub orders_list : (k : ℕ) (ts : List Task) → bytes_of 2 (length (keep (runs_on_lem k) ts)) ++ each_bytes order_of (keep (runs_on_lem k) ts) ≡ bytes_of 2 (length (orders (keep (on_machine k) ts))) ++ order_bytes (orders (keep (on_machine k) ts))
orders_list k ts = λ i. bytes_of 2 (orders_count k ts i) ++ orders_bytes k ts i

pub lines_list : (ts : List Task) → bytes_of 2 (length ts) ++ each_bytes line_of ts ≡ bytes_of 2 (length (lines_of ts)) ++ line_bytes (lines_of ts)
lines_list ts = λ i. bytes_of 2 (lines_count ts i) ++ lines_bytes ts i
