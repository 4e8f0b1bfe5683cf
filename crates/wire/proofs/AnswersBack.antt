-- Answers, written and read back.
-- Assumes nothing.
use Rattle.std.proofs.Common.{◌≡◌, ℕ, ◌+◌, ◌*◌, ◌≤◌, Bool, true, false, cond, ◌&&◌, ltb, leb, List, [], ◌∷◌, ◌++◌, length, drop, sym, refl, ap, ◌∙◌, arith, length-append, drop-drop, ltb-true, leb-true}
use Rattle.std.proofs.lemmas.Bool.{and_parts, eq-eqb, le-leb, true≢false}
use Rattle.model.specs.Lists.{every}
use Rattle.model.specs.State.{Phase, Waiting, Told, Ready, Ending, Spec}
use Rattle.model.specs.Calls.{Order, Line, small}
use Rattle.model.specs.Wire.{Bytes, garbled, meant, bytes_of, field, byte_at, flag_of, spec_in_lem, spec_bytes, order_bytes, phase_of, line_bytes, Refused, Done, Runs, Shown}
use Rattle.model.specs.Answers.{tags_at, order_width, order_in, is_order_in, orders_in_lem, are_orders_in, phase_in, lines_in, phases_in, read_shown, long, spec_fits, order_fits, is_runs, RunsBack, NoOtherRuns, NoReportRuns}
use Rattle.octets.proofs.Numbers.{length_bytes_of}
use Rattle.wire.specs.Fits.{brief, spec_numbers, line_fits, AnswersBack}
use Rattle.wire.proofs.Fields.{field_front, field_at, drop_front, drop_next, byte_at_lem, length_front}
use Rattle.wire.proofs.Likeness.{flag_small, spec_on, spec_on_lem, front12, behind, long_on, spec_back}
use Rattle.wire.proofs.Ordered.{order_fits_lem}

-- AN ORDER

numbers_of : (a : Spec) → spec_fits a ≡ true → spec_numbers a ≡ true
numbers_of a f =
    let p1 = and_parts (small a.image && small a.cpu && small a.mem && leb (length a.tags) 8) (every small a.tags) f in
    let p2 = and_parts (small a.image && small a.cpu && small a.mem) (leb (length a.tags) 8) p1.0 in rw (p2.0, p1.1)

abbrev order_on : Order → Bytes → Bytes
order_on o rest = bytes_of 8 o.id ++ (spec_bytes o.spec ++ rest)

module _ (o : Order) (rest : Bytes) where
  from8 : drop 8 (order_on o rest) ≡ spec_on o.spec rest
  from8 = drop_front 8 o.id (spec_bytes o.spec ++ rest) ∙ spec_on_lem o.spec rest

  -- what stands so far behind the task's number
  from : (n : ℕ) (xs : Bytes) → drop n (spec_on o.spec rest) ≡ xs → drop (8 + n) (order_on o rest) ≡ xs
  from n xs e = sym (drop-drop n 8 (order_on o rest)) ∙ ap (drop n) from8 ∙ e

  tags_at_lem : tags_at (order_on o rest) ≡ length o.spec.tags
  tags_at_lem = byte_at_lem 20 (length o.spec.tags) (order_on o rest) _ (from 12 _ (front12 o.spec rest))

  flag_at : drop (21 + 4 * length o.spec.tags) (order_on o rest) ≡ flag_of o.spec.apart ∷ rest
  flag_at = let k : 8 + (13 + 4 * length o.spec.tags) ≡ 21 + 4 * length o.spec.tags = omega arith in ap (λ (n : ℕ). drop n (order_on o rest)) (sym k) ∙ from (13 + 4 * length o.spec.tags) _ (behind o.spec rest)

  pub rest_at : drop (order_width (order_on o rest)) (order_on o rest) ≡ rest
  rest_at =
      let k : 22 + 4 * tags_at (order_on o rest) ≡ 21 + 4 * length o.spec.tags + 1 = let t = tags_at_lem in omega arith in
      ap (λ (n : ℕ). drop n (order_on o rest)) k ∙ sym (drop-drop 1 (21 + 4 * length o.spec.tags) (order_on o rest)) ∙ ap (drop 1) flag_at

  long_at : length (order_on o rest) ≡ 22 + 4 * length o.spec.tags + length rest
  long_at = let a = length_front 8 o.id (spec_bytes o.spec ++ rest) in let b = ap length (spec_on_lem o.spec rest) in let c = long_on o.spec rest in omega arith

  module _ (f : order_fits o ≡ true) where
    fits : (long o.id ≡ true) × (spec_fits o.spec ≡ true)
    fits = and_parts (long o.id) (spec_fits o.spec) f

    few : length o.spec.tags ≤ 8
    few =
        let p1 = and_parts (small o.spec.image && small o.spec.cpu && small o.spec.mem && leb (length o.spec.tags) 8) (every small o.spec.tags) fits.1 in
        let p2 = and_parts (small o.spec.image && small o.spec.cpu && small o.spec.mem) (leb (length o.spec.tags) 8) p1.0 in leb-true (length o.spec.tags) 8 p2.1

    pub is_order_lem : is_order_in (order_on o rest) ≡ true
    is_order_lem =
        let t = tags_at_lem in let l = long_at in
        order_fits_lem (order_on o rest) (omega arith) (let w = few in omega arith)
        (let e = ap (λ (n : ℕ). byte_at (21 + 4 * n) (order_on o rest)) t ∙ byte_at_lem (21 + 4 * length o.spec.tags) (flag_of o.spec.apart) (order_on o rest) rest flag_at in let z = flag_small o.spec.apart in omega arith)

    pub order_back : order_in (order_on o rest) ≡ o
    order_back =
        let i = field_front 8 o.id (spec_bytes o.spec ++ rest) (ltb-true o.id 18446744073709551616 fits.0) in
        let a = ap (λ (n : ℕ). spec_in_lem n (drop 8 (order_on o rest))) tags_at_lem ∙ ap (spec_in_lem (length o.spec.tags)) from8 ∙ spec_back o.spec rest (numbers_of o.spec fits.1) in
        λ j. record { id = i j; spec = a j }

are_orders : (os : List Order) → every order_fits os ≡ true → are_orders_in (length os) (order_bytes os) ≡ true
unfolding are_orders_in order_bytes every
are_orders [] e = refl
are_orders (o ∷ os) e =
    let p = and_parts (order_fits o) (every order_fits os) e in let h = are_orders os p.1 in
    rw (is_order_lem o (order_bytes os) p.0, rest_at o (order_bytes os)) h

orders_back : (os : List Order) → every order_fits os ≡ true → orders_in_lem (length os) (order_bytes os) ≡ os
unfolding orders_in_lem order_bytes every
orders_back [] e = refl
orders_back (o ∷ os) e =
    let p = and_parts (order_fits o) (every order_fits os) e in let h = orders_back os p.1 in
    rw (order_back o (order_bytes os) p.0, rest_at o (order_bytes os), h)

-- AN ANSWER TO A REPORT

abbrev runs_on_lem : ℕ → ℕ → ℕ → List Order → Bytes
runs_on_lem k l n os = bytes_of 2 k ++ (bytes_of 8 l ++ (bytes_of 8 n ++ (bytes_of 2 (length os) ++ order_bytes os)))

module _ (k l n : ℕ) (os : List Order) where
  from2 : drop 2 (runs_on_lem k l n os) ≡ bytes_of 8 l ++ (bytes_of 8 n ++ (bytes_of 2 (length os) ++ order_bytes os))
  from2 = drop_front 2 k _

  from10 : drop 10 (runs_on_lem k l n os) ≡ bytes_of 8 n ++ (bytes_of 2 (length os) ++ order_bytes os)
  from10 = drop_next 8 2 l (runs_on_lem k l n os) _ from2

  from18 : drop 18 (runs_on_lem k l n os) ≡ bytes_of 2 (length os) ++ order_bytes os
  from18 = drop_next 8 10 n (runs_on_lem k l n os) _ from10

  from20 : drop 20 (runs_on_lem k l n os) ≡ order_bytes os
  from20 = drop_next 2 18 (length os) (runs_on_lem k l n os) _ from18

  long_runs : 20 ≤ length (runs_on_lem k l n os)
  long_runs =
      let a = length_front 2 k (bytes_of 8 l ++ (bytes_of 8 n ++ (bytes_of 2 (length os) ++ order_bytes os))) in let b = length_front 8 l (bytes_of 8 n ++ (bytes_of 2 (length os) ++ order_bytes os)) in
      let c = length_front 8 n (bytes_of 2 (length os) ++ order_bytes os) in let d = length_front 2 (length os) (order_bytes os) in omega arith

pub runs_back_lem : RunsBack
runs_back_lem k l n os f =
    let p1 = and_parts (ltb k 65536 && long l && long n && ltb (length os) 65536) (every order_fits os) f in
    let p2 = and_parts (ltb k 65536 && long l && long n) (ltb (length os) 65536) p1.0 in
    let p3 = and_parts (ltb k 65536 && long l) (long n) p2.0 in
    let p4 = and_parts (ltb k 65536) (long l) p3.0 in
    let c : field 2 18 (runs_on_lem k l n os) ≡ length os = field_at 2 18 (length os) (runs_on_lem k l n os) _ (from18 k l n os) (ltb-true (length os) 65536 p2.1) in
    let a : field 2 0 (runs_on_lem k l n os) ≡ k = field_front 2 k _ (ltb-true k 65536 p4.0) in
    let b : field 8 2 (runs_on_lem k l n os) ≡ l = field_at 8 2 l (runs_on_lem k l n os) _ (from2 k l n os) (ltb-true l 18446744073709551616 p4.1) in
    let d : field 8 10 (runs_on_lem k l n os) ≡ n = field_at 8 10 n (runs_on_lem k l n os) _ (from10 k l n os) (ltb-true n 18446744073709551616 p3.1) in
    rw (le-leb 20 _ (long_runs k l n os), c, from20 k l n os, are_orders os p1.1, orders_back os p1.1, a, b, d)

-- A SHOWING

phase_small : (p : Phase) → phase_of p ≤ 3
phase_small Waiting = omega arith
phase_small Told = omega arith
phase_small Ready = omega arith
phase_small Ending = omega arith

phase_back : (p : Phase) → phase_in (phase_of p) ≡ p
phase_back Waiting = refl
phase_back Told = refl
phase_back Ready = refl
phase_back Ending = refl

abbrev line_on : Line → Bytes → Bytes
line_on l rest = bytes_of 8 l.id ++ (bytes_of 4 l.version ++ (phase_of l.phase ∷ (bytes_of 2 l.machine ++ rest)))

module _ (l : Line) (rest : Bytes) where
  line8 : drop 8 (line_on l rest) ≡ bytes_of 4 l.version ++ (phase_of l.phase ∷ (bytes_of 2 l.machine ++ rest))
  line8 = drop_front 8 l.id _

  line12 : drop 12 (line_on l rest) ≡ phase_of l.phase ∷ (bytes_of 2 l.machine ++ rest)
  line12 = drop_next 4 8 l.version (line_on l rest) _ line8

  line13 : drop 13 (line_on l rest) ≡ bytes_of 2 l.machine ++ rest
  line13 = sym (drop-drop 1 12 (line_on l rest)) ∙ ap (drop 1) line12

  line15 : drop 15 (line_on l rest) ≡ rest
  line15 = drop_next 2 13 l.machine (line_on l rest) _ line13

  phase_at : byte_at 12 (line_on l rest) ≡ phase_of l.phase
  phase_at = byte_at_lem 12 (phase_of l.phase) (line_on l rest) _ line12

  line_back : line_fits l ≡ true → ◌≡◌ {A = Line} (record { id = field 8 0 (line_on l rest); version = field 4 8 (line_on l rest); phase = phase_in (byte_at 12 (line_on l rest)); machine = field 2 13 (line_on l rest) }) l
  line_back f =
      let p = and_parts (long l.id && small l.version) (brief l.machine) f in let q = and_parts (long l.id) (small l.version) p.0 in
      let i = field_front 8 l.id (bytes_of 4 l.version ++ (phase_of l.phase ∷ (bytes_of 2 l.machine ++ rest))) (ltb-true l.id 18446744073709551616 q.0) in
      let v = field_at 4 8 l.version (line_on l rest) _ line8 (ltb-true l.version 4294967296 q.1) in
      let h = ap phase_in phase_at ∙ phase_back l.phase in
      let m = field_at 2 13 l.machine (line_on l rest) _ line13 (ltb-true l.machine 65536 p.1) in
      λ j. record { id = i j; version = v j; phase = h j; machine = m j }

phases_shown : (ls : List Line) → phases_in (length ls) (line_bytes ls) ≡ true
unfolding phases_in line_bytes
phases_shown [] = refl
phases_shown (l ∷ ls) = rw (phase_at l (line_bytes ls), le-leb (phase_of l.phase) 3 (phase_small l.phase), line15 l (line_bytes ls)) (phases_shown ls)

lines_back : (ls : List Line) → every line_fits ls ≡ true → lines_in (length ls) (line_bytes ls) ≡ ls
unfolding lines_in line_bytes every
lines_back [] e = refl
lines_back (l ∷ ls) e = let p = and_parts (line_fits l) (every line_fits ls) e in rw (line_back l (line_bytes ls) p.0, line15 l (line_bytes ls), lines_back ls p.1)

length_line_bytes : (ls : List Line) → length (line_bytes ls) ≡ 15 * length ls
unfolding line_bytes
length_line_bytes [] = refl
length_line_bytes (l ∷ ls) = let h = length_line_bytes ls in simp (length-append, length_bytes_of) (omega arith)

shown_back : (ls : List Line) → brief (length ls) ≡ true → every line_fits ls ≡ true → read_shown (bytes_of 2 (length ls) ++ line_bytes ls) ≡ meant (Shown ls)
shown_back ls b e =
    let c : field 2 0 (bytes_of 2 (length ls) ++ line_bytes ls) ≡ length ls = field_front 2 (length ls) (line_bytes ls) (ltb-true (length ls) 65536 b) in
    let l : length (bytes_of 2 (length ls) ++ line_bytes ls) ≡ 2 + 15 * length ls = length_front 2 (length ls) (line_bytes ls) ∙ ap (λ (n : ℕ). 2 + n) (length_line_bytes ls) in
    rw (c, eq-eqb _ _ l, drop_front 2 (length ls) (line_bytes ls), phases_shown ls, lines_back ls e)

-- ALL

pub answers_back : AnswersBack
answers_back (Refused k) f = refl
answers_back Done f = refl
answers_back (Runs k l n os) f = runs_back_lem k l n os f
answers_back (Shown ls) f = let p = and_parts (brief (length ls)) (every line_fits ls) f in shown_back ls p.0 p.1

-- no other answer, and no report, is read as an answer to a report
pub no_other_runs_lem : NoOtherRuns
no_other_runs_lem (Refused k) b r e = let p : Refused k ≡ b = cc in ap is_runs (sym p)
no_other_runs_lem Done b r e = let p : Done ≡ b = cc in ap is_runs (sym p)
no_other_runs_lem (Runs k l n os) b r e = absurd (true≢false r)
no_other_runs_lem (Shown ls) b r e = pick _ _ e
  where
    pick : (t : Bool) (ms : List Line) → cond t (meant (Shown ms)) garbled ≡ meant b → is_runs b ≡ false
    pick true ms q = let p : Shown ms ≡ b = cc in ap is_runs (sym p)
    pick false ms q = absurd (let z : ◌≡◌ {A = ℕ} 0 1 = cc in omega arith)

pub no_report_runs : NoReportRuns
no_report_runs k l n xs = refl
