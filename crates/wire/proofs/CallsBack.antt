-- Calls, written and read back.
-- Assumes nothing.
use Rattle.std.proofs.Common.{◌≡◌, ℕ, ◌+◌, ◌*◌, ◌≤◌, true, ◌&&◌, List, [], ◌∷◌, ◌++◌, length, take, drop, sym, refl, ap, ◌∙◌, append-nil, arith, length-append, drop-drop, ltb-true}
use Rattle.std.proofs.lemmas.List.{take_at, drop_at}
use Rattle.std.proofs.lemmas.Bool.{and_parts, eq-eqb, le-leb}
use Rattle.model.specs.Lists.{every}
use Rattle.model.specs.State.{Name, Spec}
use Rattle.model.specs.Calls.{Seen, Call, SetJob, EndJob, AddMachine, Close, Reopen, Forget, Report, Tick, Show, small}
use Rattle.model.specs.Wire.{Bytes, meant, bytes_of, field, byte_at, flag_of, tags_in_lem, seens_in, flags_in, spec_in_lem, read_name, read_machine, read_set_of, read_set_lem, read_add_lem, read_report_lem, read_tick, tag_bytes, seen_bytes, spec_bytes}
use Rattle.model.specs.Answers.{long}
use Rattle.octets.proofs.Numbers.{length_bytes_of}
use Rattle.lines.proofs.Writing.{length_tag_bytes}
use Rattle.wire.specs.Short.{is_short_lem}
use Rattle.wire.specs.Fits.{brief, spec_numbers, long_id, numbers_fit, CallsBack}
use Rattle.wire.proofs.Lengths.{length_seen_bytes}
use Rattle.wire.proofs.Fields.{field_front, field_whole, field_at, drop_front, drop_next, byte_at_lem}
use Rattle.wire.proofs.Likeness.{flag_small, flag_back, tags_back, spec_on, spec_on_lem, front12, behind, spec_back}

-- A NAME, A MACHINE, A TIME

name_back : (f : Name → Call) (n : Name) → read_name f (length n ∷ n) ≡ meant (f n)
name_back f n = rw (eq-eqb (length (length n ∷ n)) (1 + length n) (omega arith))

machine_back : (f : ℕ → Call) (k : ℕ) → brief k ≡ true → read_machine f (bytes_of 2 k) ≡ meant (f k)
machine_back f k e = rw (eq-eqb (length (bytes_of 2 k)) 2 (length_bytes_of 2 k), field_whole 2 k (ltb-true k 65536 e))

tick_back : (t : ℕ) → long t ≡ true → read_tick (bytes_of 8 t) ≡ meant (Tick t)
tick_back t e = rw (eq-eqb (length (bytes_of 8 t)) 8 (length_bytes_of 8 t), field_whole 8 t (ltb-true t 18446744073709551616 e))

-- SETTING A JOB

module _ (n : Name) (a : Spec) (c l m : ℕ) where
  tail : Bytes
  tail = bytes_of 2 c ++ (bytes_of 2 l ++ bytes_of 2 m)

  body : Bytes
  body = length n ∷ (n ++ (spec_bytes a ++ tail))

  from_spec : drop (1 + length n) body ≡ spec_on a tail
  unfolding body
  from_spec = drop_at (length n ∷ n) (spec_bytes a ++ tail) (1 + length n) (omega arith) ∙ spec_on_lem a tail

  -- what stands so far behind the name
  from : (k at : ℕ) (xs : Bytes) → at ≡ 1 + length n + k → drop k (spec_on a tail) ≡ xs → drop at body ≡ xs
  from k at xs e h = ap (λ (i : ℕ). drop i body) e ∙ sym (drop-drop k (1 + length n) body) ∙ ap (drop k) from_spec ∙ h

  long_body : length body ≡ length n + 4 * length a.tags + 21
  unfolding body tail
  long_body = simp (length-append, length_bytes_of, length_tag_bytes) (omega arith)

  tags_back_at : byte_at (length n + 13) body ≡ length a.tags
  tags_back_at = byte_at_lem (length n + 13) (length a.tags) body _ (from 12 (length n + 13) _ (omega arith) (front12 a tail))

  flag_at : drop (length n + 4 * length a.tags + 14) body ≡ flag_of a.apart ∷ tail
  flag_at = from (13 + 4 * length a.tags) (length n + 4 * length a.tags + 14) _ (omega arith) (behind a tail)

  count_at : drop (length n + 4 * length a.tags + 15) body ≡ bytes_of 2 c ++ (bytes_of 2 l ++ bytes_of 2 m)
  unfolding tail
  count_at =
      let e : length n + 4 * length a.tags + 15 ≡ length n + 4 * length a.tags + 14 + 1 = omega arith in
      ap (λ (i : ℕ). drop i body) e ∙ sym (drop-drop 1 (length n + 4 * length a.tags + 14) body) ∙ ap (drop 1) flag_at

  least_at : drop (length n + 4 * length a.tags + 17) body ≡ bytes_of 2 l ++ bytes_of 2 m
  least_at = let e : length n + 4 * length a.tags + 17 ≡ length n + 4 * length a.tags + 15 + 2 = omega arith in ap (λ (i : ℕ). drop i body) e ∙ drop_next 2 (length n + 4 * length a.tags + 15) c body _ count_at

  most_at : drop (length n + 4 * length a.tags + 19) body ≡ bytes_of 2 m ++ []
  most_at =
      let e : length n + 4 * length a.tags + 19 ≡ length n + 4 * length a.tags + 17 + 2 = omega arith in
      ap (λ (i : ℕ). drop i body) e ∙ drop_next 2 (length n + 4 * length a.tags + 17) l body _ least_at ∙ sym (append-nil (bytes_of 2 m))

  name_at : take (length n) (drop 1 body) ≡ n
  unfolding body
  name_at = take_at n (spec_bytes a ++ tail) (length n) refl

  named : byte_at 0 body ≡ length n
  unfolding body
  named = refl

  set_back : spec_numbers a ≡ true → brief c ≡ true → brief l ≡ true → brief m ≡ true → read_set_lem body ≡ meant (SetJob n a c l m)
  set_back f p q r = ap (λ (x : ℕ). read_set_of x (byte_at (x + 13) body) body) named ∙ ap (λ (t : ℕ). read_set_of (length n) t body) tags_back_at ∙ parts
    where
      flag : byte_at (length n + 4 * length a.tags + 14) body ≤ 1
      flag = let e = byte_at_lem (length n + 4 * length a.tags + 14) (flag_of a.apart) body tail flag_at in let s = flag_small a.apart in omega arith

      like : spec_in_lem (length a.tags) (drop (1 + length n) body) ≡ a
      like = ap (spec_in_lem (length a.tags)) from_spec ∙ spec_back a tail f

      counted : field 2 (length n + 4 * length a.tags + 15) body ≡ c
      counted = field_at 2 (length n + 4 * length a.tags + 15) c body _ count_at (ltb-true c 65536 p)

      lowest : field 2 (length n + 4 * length a.tags + 17) body ≡ l
      lowest = field_at 2 (length n + 4 * length a.tags + 17) l body _ least_at (ltb-true l 65536 q)

      highest : field 2 (length n + 4 * length a.tags + 19) body ≡ m
      highest = field_at 2 (length n + 4 * length a.tags + 19) m body [] most_at (ltb-true m 65536 r)

      parts : read_set_of (length n) (length a.tags) body ≡ meant (SetJob n a c l m)
      parts = rw (eq-eqb (length body) (length n + 4 * length a.tags + 21) long_body, le-leb _ _ flag, name_at, like, counted, lowest, highest)

-- ADDING A MACHINE

module _ (k c m : ℕ) (ts : List ℕ) where
  added : Bytes
  added = bytes_of 2 k ++ (bytes_of 4 c ++ (bytes_of 4 m ++ (length ts ∷ tag_bytes ts)))

  from2 : drop 2 added ≡ bytes_of 4 c ++ (bytes_of 4 m ++ (length ts ∷ tag_bytes ts))
  unfolding added
  from2 = drop_front 2 k _

  from6 : drop 6 added ≡ bytes_of 4 m ++ (length ts ∷ tag_bytes ts)
  from6 = drop_next 4 2 c added _ from2

  from10 : drop 10 added ≡ length ts ∷ tag_bytes ts
  from10 = drop_next 4 6 m added _ from6

  from11 : drop 11 added ≡ tag_bytes ts ++ []
  from11 = sym (drop-drop 1 10 added) ∙ ap (drop 1) from10 ∙ sym (append-nil (tag_bytes ts))

  long_added : length added ≡ 11 + 4 * length ts
  unfolding added
  long_added = simp (length-append, length_bytes_of, length_tag_bytes) (omega arith)

  added_to : brief k ≡ true → field 2 0 added ≡ k
  unfolding added
  added_to p = field_front 2 k _ (ltb-true k 65536 p)

  add_back : brief k ≡ true → small c ≡ true → small m ≡ true → every small ts ≡ true → read_add_lem added ≡ meant (AddMachine k c m ts)
  add_back p q r s = rw (many, eq-eqb (length added) (11 + 4 * length ts) long_added, added_to p, cpu, mem, tags)
    where
      many : byte_at 10 added ≡ length ts
      many = byte_at_lem 10 (length ts) added _ from10

      cpu : field 4 2 added ≡ c
      cpu = field_at 4 2 c added _ from2 (ltb-true c 4294967296 q)

      mem : field 4 6 added ≡ m
      mem = field_at 4 6 m added _ from6 (ltb-true m 4294967296 r)

      tags : tags_in_lem (length ts) (drop 11 added) ≡ ts
      tags = ap (tags_in_lem (length ts)) from11 ∙ tags_back ts [] s

-- A REPORT

pub flags_seen : (xs : List Seen) → flags_in (length xs) (seen_bytes xs) ≡ true
unfolding flags_in seen_bytes
flags_seen [] = refl
flags_seen (x ∷ xs) =
    let from8 : drop 8 (seen_bytes (x ∷ xs)) ≡ flag_of x.ready ∷ seen_bytes xs = drop_front 8 x.id (flag_of x.ready ∷ seen_bytes xs) in
    let b : byte_at 8 (seen_bytes (x ∷ xs)) ≡ flag_of x.ready = byte_at_lem 8 (flag_of x.ready) (seen_bytes (x ∷ xs)) _ from8 in
    let d : drop 9 (seen_bytes (x ∷ xs)) ≡ seen_bytes xs = sym (drop-drop 1 8 (seen_bytes (x ∷ xs))) ∙ ap (drop 1) from8 in
    rw (b, le-leb (flag_of x.ready) 1 (flag_small x.ready), d) (flags_seen xs)

seens_back : (xs : List Seen) → every long_id xs ≡ true → seens_in (length xs) (seen_bytes xs) ≡ xs
unfolding seens_in seen_bytes every
seens_back [] e = refl
seens_back (x ∷ xs) e =
    let p = and_parts (long_id x) (every long_id xs) e in
    let from8 : drop 8 (seen_bytes (x ∷ xs)) ≡ flag_of x.ready ∷ seen_bytes xs = drop_front 8 x.id (flag_of x.ready ∷ seen_bytes xs) in
    let b : byte_at 8 (seen_bytes (x ∷ xs)) ≡ flag_of x.ready = byte_at_lem 8 (flag_of x.ready) (seen_bytes (x ∷ xs)) _ from8 in
    let d : drop 9 (seen_bytes (x ∷ xs)) ≡ seen_bytes xs = sym (drop-drop 1 8 (seen_bytes (x ∷ xs))) ∙ ap (drop 1) from8 in
    let i : field 8 0 (seen_bytes (x ∷ xs)) ≡ x.id = field_front 8 x.id (flag_of x.ready ∷ seen_bytes xs) (ltb-true x.id 18446744073709551616 p.0) in
    rw (i, b, flag_back x.ready, d, seens_back xs p.1)

module _ (k l n : ℕ) (xs : List Seen) where
  reported : Bytes
  reported = bytes_of 2 k ++ (bytes_of 8 l ++ (bytes_of 8 n ++ (bytes_of 2 (length xs) ++ seen_bytes xs)))

  after2 : drop 2 reported ≡ bytes_of 8 l ++ (bytes_of 8 n ++ (bytes_of 2 (length xs) ++ seen_bytes xs))
  unfolding reported
  after2 = drop_front 2 k _

  after10 : drop 10 reported ≡ bytes_of 8 n ++ (bytes_of 2 (length xs) ++ seen_bytes xs)
  after10 = drop_next 8 2 l reported _ after2

  after18 : drop 18 reported ≡ bytes_of 2 (length xs) ++ seen_bytes xs
  after18 = drop_next 8 10 n reported _ after10

  after20 : drop 20 reported ≡ seen_bytes xs
  after20 = drop_next 2 18 (length xs) reported _ after18

  long_reported : length reported ≡ 20 + 9 * length xs
  unfolding reported
  long_reported = simp (length-append, length_bytes_of, length_seen_bytes) (omega arith)

  reported_of : brief k ≡ true → field 2 0 reported ≡ k
  unfolding reported
  reported_of p = field_front 2 k _ (ltb-true k 65536 p)

  report_back : brief k ≡ true → long l ≡ true → long n ≡ true → brief (length xs) ≡ true → every long_id xs ≡ true → read_report_lem reported ≡ meant (Report k l n xs)
  report_back p q r s t = rw (many, eq-eqb (length reported) (20 + 9 * length xs) long_reported, after20, flags_seen xs, reported_of p, life, number, seens_back xs t)
    where
      many : field 2 18 reported ≡ length xs
      many = field_at 2 18 (length xs) reported _ after18 (ltb-true (length xs) 65536 s)

      life : field 8 2 reported ≡ l
      life = field_at 8 2 l reported _ after2 (ltb-true l 18446744073709551616 q)

      number : field 8 10 reported ≡ n
      number = field_at 8 10 n reported _ after10 (ltb-true n 18446744073709551616 r)

-- ALL

pub calls_back : CallsBack
unfolding body tail added reported
calls_back (SetJob n a c l m) e =
    let p = and_parts (is_short_lem (SetJob n a c l m)) (numbers_fit (SetJob n a c l m)) e in
    let q1 = and_parts (spec_numbers a && brief c && brief l) (brief m) p.1 in let q2 = and_parts (spec_numbers a && brief c) (brief l) q1.0 in let q3 = and_parts (spec_numbers a) (brief c) q2.0 in
    set_back n a c l m q3.0 q3.1 q2.1 q1.1
calls_back (EndJob n) e = name_back EndJob n
calls_back (AddMachine k c m t) e =
    let p = and_parts (is_short_lem (AddMachine k c m t)) (numbers_fit (AddMachine k c m t)) e in
    let q1 = and_parts (brief k && small c && small m) (every small t) p.1 in let q2 = and_parts (brief k && small c) (small m) q1.0 in let q3 = and_parts (brief k) (small c) q2.0 in
    add_back k c m t q3.0 q3.1 q2.1 q1.1
calls_back (Close k) e = machine_back Close k e
calls_back (Reopen k) e = machine_back Reopen k e
calls_back (Forget k) e = machine_back Forget k e
calls_back (Report k l n xs) e =
    let p = and_parts (is_short_lem (Report k l n xs)) (numbers_fit (Report k l n xs)) e in
    let q1 = and_parts (brief k && long l && long n) (every long_id xs) p.1 in let q2 = and_parts (brief k && long l) (long n) q1.0 in let q3 = and_parts (brief k) (long l) q2.0 in
    report_back k l n xs q3.0 q3.1 q2.1 p.0 q1.1
calls_back (Tick t) e = tick_back t e
calls_back (Show n) e = name_back Show n
