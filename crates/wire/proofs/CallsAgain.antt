-- Calls, read and written as the same bytes.
-- Assumes nothing.
use Rattle.std.proofs.Common.{◌≡◌, ℕ, zero, suc, ◌+◌, ◌*◌, ◌<◌, ◌≤◌, Bool, true, false, cond, ◌&&◌, ◌⊎◌, inl, inr, eqb, leb, ltb, [], ◌∷◌, ◌++◌, length, take, drop, sym, refl, ap, ◌∙◌, subst, append-nil, arith, length-drop, drop-drop, get_or-drop, leb-true}
use Rattle.std.specs.Int.Digits.{AllBelowBase}
use Rattle.std.proofs.lemmas.List.{take-append-drop, drop_all}
use Rattle.std.proofs.lemmas.Bool.{and_parts, eqb-true, lt-ltb}
use Rattle.model.specs.Lists.{every}
use Rattle.model.specs.Calls.{Call, SetJob, EndJob, AddMachine, Close, Reopen, Forget, Report, Show}
use Rattle.model.specs.Wire.{Bytes, Read, garbled, meant, bytes_of, field, byte_at, tags_in_lem, seens_in, flags_in, spec_in_lem, read_name, read_machine, read_set_lem, read_add_lem, read_report_lem, read_tick, read_kind_lem, read_call, tag_bytes, seen_bytes, spec_bytes, name_bytes, call_bytes}
use Rattle.octets.proofs.Numbers.{length_take_under}
use Rattle.calls.proofs.News.{seens_length}
use Rattle.calls.proofs.Ranges.{length_tags}
use Rattle.wire.specs.Fits.{brief, long_id, call_fits, CallsAgain, NoOtherCalls}
use Rattle.wire.proofs.Again.{below_drop, field_to, field_last, field_lt, byte_to, byte_small}
use Rattle.wire.proofs.Likeness.{flag_again, tags_on, tags_small, spec_in_small, spec_again}

-- what a test let through
pub let_through : {A : Type 0} (b : Bool) (x c : A) → cond b (meant x) garbled ≡ meant c → (b ≡ true) × (x ≡ c)
let_through true x c e = (refl, cc)
let_through false x c e = absurd (let z : ◌≡◌ {A = ℕ} 0 1 = cc in omega arith)

pub either : {A : Type 0} (b : Bool) (x y : Read A) (c : A) → cond b x y ≡ meant c → ((b ≡ true) × (x ≡ meant c)) ⊎ ((b ≡ false) × (y ≡ meant c))
either true x y c e = inl (refl, e)
either false x y c e = inr (refl, e)

pub not_garbled : {A : Type 0} (c : A) → garbled ≡ meant c → ⊥
not_garbled c e = let z : ◌≡◌ {A = ℕ} 0 1 = cc in omega arith

-- these bytes are what the call is written as, and it is in range
pub record Rewritten (bs : Bytes) (c : Call) : Type 0 where
  pub bytes : call_bytes c ≡ bs
  pub fits : call_fits c ≡ true

pub rewritten : (bs : Bytes) (c d : Call) → c ≡ d → Rewritten bs c → Rewritten bs d
rewritten bs c d e r = subst (Rewritten bs) e r

-- A NAME, A MACHINE, A TIME

name_again : (bs : Bytes) → length bs ≡ 1 + byte_at 0 bs → name_bytes (drop 1 bs) ≡ bs
name_again bs l = ap (λ (n : ℕ). n ∷ drop 1 bs) (let d = length-drop 1 bs in omega arith) ∙ byte_to 0 1 bs refl (omega arith)

name_short : (bs : Bytes) → AllBelowBase 256 bs → length bs ≡ 1 + byte_at 0 bs → ltb (length (drop 1 bs)) 256 ≡ true
name_short bs u l = lt-ltb _ _ (let d = length-drop 1 bs in let b = byte_small 0 bs u in omega arith)

-- SETTING A JOB

module _ (n t : ℕ) (bs : Bytes) (u : AllBelowBase 256 bs) (named : byte_at 0 bs ≡ n) (tagged : byte_at (n + 13) bs ≡ t) (l : length bs ≡ n + 4 * t + 21) (f : byte_at (n + 4 * t + 14) bs ≤ 1) where
  like : Bytes
  like = drop (1 + n) bs

  like_at : (k at : ℕ) → at ≡ 1 + n + k → drop k like ≡ drop at bs
  unfolding like
  like_at k at e = drop-drop k (1 + n) bs ∙ ap (λ (i : ℕ). drop i bs) (omega arith)

  byte_like : (k at : ℕ) → at ≡ 1 + n + k → byte_at k like ≡ byte_at at bs
  unfolding like
  byte_like k at e = get_or-drop (1 + n) bs k 0 ∙ ap (λ (i : ℕ). byte_at i bs) (omega arith)

  long_like : length like ≡ 4 * t + 20
  unfolding like
  long_like = let d = length-drop (1 + n) bs in omega arith

  call : Call
  call = SetJob (take n (drop 1 bs)) (spec_in_lem t like) (field 2 (n + 4 * t + 15) bs) (field 2 (n + 4 * t + 17) bs) (field 2 (n + 4 * t + 19) bs)

  long_name : length (take n (drop 1 bs)) ≡ n
  long_name = length_take_under n (drop 1 bs) (let d = length-drop 1 bs in omega arith)

  numbers : bytes_of 2 (field 2 (n + 4 * t + 15) bs) ++ (bytes_of 2 (field 2 (n + 4 * t + 17) bs) ++ bytes_of 2 (field 2 (n + 4 * t + 19) bs)) ≡ drop (n + 4 * t + 15) bs
  numbers =
      ap (λ (xs : Bytes). bytes_of 2 (field 2 (n + 4 * t + 15) bs) ++ (bytes_of 2 (field 2 (n + 4 * t + 17) bs) ++ xs)) (field_last 2 (n + 4 * t + 19) bs (omega arith) u) ∙
      ap (λ (xs : Bytes). bytes_of 2 (field 2 (n + 4 * t + 15) bs) ++ xs) (field_to 2 (n + 4 * t + 17) (n + 4 * t + 19) bs (omega arith) (omega arith) u) ∙
      field_to 2 (n + 4 * t + 15) (n + 4 * t + 17) bs (omega arith) (omega arith) u

  liked : spec_bytes (spec_in_lem t like) ++ drop (n + 4 * t + 15) bs ≡ drop (1 + n) bs
  unfolding like
  liked =
      ap (λ (xs : Bytes). spec_bytes (spec_in_lem t like) ++ xs) (sym (like_at (14 + 4 * t) (n + 4 * t + 15) (omega arith))) ∙
      spec_again t like (below_drop (1 + n) bs u) (let h = long_like in omega arith) (byte_like 12 (n + 13) (omega arith) ∙ tagged) (let h = byte_like (13 + 4 * t) (n + 4 * t + 14) (omega arith) in omega arith)

  called : name_bytes (take n (drop 1 bs)) ++ drop (1 + n) bs ≡ bs
  called =
      ap (λ (k : ℕ). k ∷ (take n (drop 1 bs) ++ drop (1 + n) bs)) (long_name ∙ sym named) ∙
      ap (λ (xs : Bytes). byte_at 0 bs ∷ (take n (drop 1 bs) ++ xs)) (ap (λ (i : ℕ). drop i bs) (omega arith) ∙ sym (drop-drop n 1 bs)) ∙
      ap (λ (xs : Bytes). byte_at 0 bs ∷ xs) (take-append-drop n (drop 1 bs)) ∙ byte_to 0 1 bs refl (omega arith)

  set_again : Rewritten (1 ∷ bs) call
  unfolding call like
  set_again = record {
    bytes = ap (λ (xs : Bytes). 1 ∷ (name_bytes (take n (drop 1 bs)) ++ (spec_bytes (spec_in_lem t like) ++ xs))) numbers ∙ ap (λ (xs : Bytes). 1 ∷ (name_bytes (take n (drop 1 bs)) ++ xs)) liked ∙ ap (λ (xs : Bytes). 1 ∷ xs) called;
    fits = rw (
      lt-ltb (length (take n (drop 1 bs))) 256 few_name,
      lt-ltb (length (tags_in_lem t (drop 13 like))) 256 few_tags,
      spec_in_small t like (below_drop (1 + n) bs u),
      lt-ltb (field 2 (n + 4 * t + 15) bs) 65536 (field_lt 2 (n + 4 * t + 15) bs u),
      lt-ltb (field 2 (n + 4 * t + 17) bs) 65536 (field_lt 2 (n + 4 * t + 17) bs u),
      lt-ltb (field 2 (n + 4 * t + 19) bs) 65536 (field_lt 2 (n + 4 * t + 19) bs u),
    );
  }
    where
      few_name : length (take n (drop 1 bs)) < 256
      few_name = let a = long_name in let b = byte_small 0 bs u in omega arith

      few_tags : length (tags_in_lem t (drop 13 like)) < 256
      few_tags = let a = length_tags t (drop 13 like) in let b = byte_small (n + 13) bs u in omega arith

set_all : (bs : Bytes) (c : Call) → AllBelowBase 256 bs → read_set_lem bs ≡ meant c → Rewritten (1 ∷ bs) c
unfolding call like
set_all bs c u e =
    let n = byte_at 0 bs in let t = byte_at (byte_at 0 bs + 13) bs in
    let p = let_through (eqb (length bs) (n + 4 * t + 21) && leb (byte_at (n + 4 * t + 14) bs) 1) _ c e in let q = and_parts (eqb (length bs) (n + 4 * t + 21)) (leb (byte_at (n + 4 * t + 14) bs) 1) p.0 in
    rewritten (1 ∷ bs) _ c p.1 (set_again n t bs u refl refl (eqb-true _ _ q.0) (leb-true _ _ q.1))

-- ADDING A MACHINE

add_all : (bs : Bytes) (c : Call) → AllBelowBase 256 bs → read_add_lem bs ≡ meant c → Rewritten (3 ∷ bs) c
add_all bs c u e = rewritten (3 ∷ bs) _ c p.1 record {
  bytes = ap (λ (xs : Bytes). 3 ∷ (bytes_of 2 (field 2 0 bs) ++ (bytes_of 4 (field 4 2 bs) ++ (bytes_of 4 (field 4 6 bs) ++ xs)))) tags ∙ ap (λ (xs : Bytes). 3 ∷ (bytes_of 2 (field 2 0 bs) ++ (bytes_of 4 (field 4 2 bs) ++ xs))) (field_to 4 6 10 bs refl (omega (arith, l)) u) ∙
      ap (λ (xs : Bytes). 3 ∷ (bytes_of 2 (field 2 0 bs) ++ xs)) (field_to 4 2 6 bs refl (omega (arith, l)) u) ∙ ap (λ (xs : Bytes). 3 ∷ xs) (field_to 2 0 2 bs refl (omega (arith, l)) u);
  fits = rw (lt-ltb (length (tags_in_lem t (drop 11 bs))) 256 few, lt-ltb (field 2 0 bs) 65536 (field_lt 2 0 bs u), lt-ltb (field 4 2 bs) 4294967296 (field_lt 4 2 bs u), lt-ltb (field 4 6 bs) 4294967296 (field_lt 4 6 bs u)) (tags_small t (drop 11 bs) (below_drop 11 bs u));
}
  where
    t : ℕ
    t = byte_at 10 bs

    p : (eqb (length bs) (11 + 4 * t) ≡ true) × (AddMachine (field 2 0 bs) (field 4 2 bs) (field 4 6 bs) (tags_in_lem t (drop 11 bs)) ≡ c)
    p = let_through (eqb (length bs) (11 + 4 * t)) _ c e

    l : length bs ≡ 11 + 4 * t
    l = eqb-true _ _ p.0

    few : length (tags_in_lem t (drop 11 bs)) < 256
    few = let a = length_tags t (drop 11 bs) in let b = byte_small 10 bs u in omega (arith, l)

    tags : length (tags_in_lem t (drop 11 bs)) ∷ tag_bytes (tags_in_lem t (drop 11 bs)) ≡ drop 10 bs
    tags =
        ap (λ (k : ℕ). k ∷ tag_bytes (tags_in_lem t (drop 11 bs))) (length_tags t (drop 11 bs)) ∙
        ap (λ (xs : Bytes). t ∷ xs) (sym (append-nil (tag_bytes (tags_in_lem t (drop 11 bs)))) ∙ ap (λ (xs : Bytes). tag_bytes (tags_in_lem t (drop 11 bs)) ++ xs) (sym (drop_all (4 * t) (drop 11 bs) (let d = length-drop 11 bs in omega (arith, l)))) ∙ tags_on t (drop 11 bs) (let d = length-drop 11 bs in omega (arith, l)) (below_drop 11 bs u)) ∙
        byte_to 10 11 bs refl (omega (arith, l))

-- A REPORT

pub seens_again : (n : ℕ) (bs : Bytes) → length bs ≡ 9 * n → flags_in n bs ≡ true → AllBelowBase 256 bs → seen_bytes (seens_in n bs) ≡ bs
unfolding seen_bytes seens_in flags_in
seens_again zero [] l f u = refl
seens_again zero (b ∷ bs) l f u = absurd (omega arith)
seens_again (suc n) bs l f u =
    let p = and_parts (leb (byte_at 8 bs) 1) (flags_in n (drop 9 bs)) f in
    let h = seens_again n (drop 9 bs) (let d = length-drop 9 bs in omega arith) p.1 (below_drop 9 bs u) in
    rw (h, flag_again (byte_at 8 bs) (leb-true _ _ p.0), byte_to 8 9 bs refl (omega arith)) (field_to 8 0 8 bs refl (omega arith) u)

pub seens_long : (n : ℕ) (bs : Bytes) → AllBelowBase 256 bs → every long_id (seens_in n bs) ≡ true
unfolding seens_in every
seens_long zero bs u = refl
seens_long (suc n) bs u = rw (lt-ltb (field 8 0 bs) 18446744073709551616 (field_lt 8 0 bs u)) (seens_long n (drop 9 bs) (below_drop 9 bs u))

report_all : (bs : Bytes) (c : Call) → AllBelowBase 256 bs → read_report_lem bs ≡ meant c → Rewritten (7 ∷ bs) c
report_all bs c u e = rewritten (7 ∷ bs) _ c p.1 record {
  bytes = ap (λ (xs : Bytes). 7 ∷ (bytes_of 2 (field 2 0 bs) ++ (bytes_of 8 (field 8 2 bs) ++ (bytes_of 8 (field 8 10 bs) ++ xs)))) tasks ∙ ap (λ (xs : Bytes). 7 ∷ (bytes_of 2 (field 2 0 bs) ++ (bytes_of 8 (field 8 2 bs) ++ xs))) (field_to 8 10 18 bs refl (omega (arith, l)) u) ∙
      ap (λ (xs : Bytes). 7 ∷ (bytes_of 2 (field 2 0 bs) ++ xs)) (field_to 8 2 10 bs refl (omega (arith, l)) u) ∙ ap (λ (xs : Bytes). 7 ∷ xs) (field_to 2 0 2 bs refl (omega (arith, l)) u);
  fits = rw (lt-ltb (length (seens_in n (drop 20 bs))) 65536 few, lt-ltb (field 2 0 bs) 65536 (field_lt 2 0 bs u), lt-ltb (field 8 2 bs) 18446744073709551616 (field_lt 8 2 bs u), lt-ltb (field 8 10 bs) 18446744073709551616 (field_lt 8 10 bs u)) (seens_long n (drop 20 bs) (below_drop 20 bs u));
}
  where
    n : ℕ
    n = field 2 18 bs

    p : ((eqb (length bs) (20 + 9 * n) && flags_in n (drop 20 bs)) ≡ true) × (Report (field 2 0 bs) (field 8 2 bs) (field 8 10 bs) (seens_in n (drop 20 bs)) ≡ c)
    p = let_through (eqb (length bs) (20 + 9 * n) && flags_in n (drop 20 bs)) _ c e

    q : (eqb (length bs) (20 + 9 * n) ≡ true) × (flags_in n (drop 20 bs) ≡ true)
    q = and_parts (eqb (length bs) (20 + 9 * n)) (flags_in n (drop 20 bs)) p.0

    l : length bs ≡ 20 + 9 * n
    l = eqb-true _ _ q.0

    few : length (seens_in n (drop 20 bs)) < 65536
    few = let a = seens_length n (drop 20 bs) in let b = field_lt 2 18 bs u in omega (arith, l)

    tasks : bytes_of 2 (length (seens_in n (drop 20 bs))) ++ seen_bytes (seens_in n (drop 20 bs)) ≡ drop 18 bs
    tasks =
        ap (λ (k : ℕ). bytes_of 2 k ++ seen_bytes (seens_in n (drop 20 bs))) (seens_length n (drop 20 bs)) ∙
        ap (λ (xs : Bytes). bytes_of 2 n ++ xs) (seens_again n (drop 20 bs) (let d = length-drop 20 bs in omega (arith, l)) q.1 (below_drop 20 bs u)) ∙ field_to 2 18 20 bs refl (omega (arith, l)) u

-- ALL, by their kinds

module _ (bs : Bytes) (c : Call) (u : AllBelowBase 256 bs) where
  end_all : read_name EndJob bs ≡ meant c → Rewritten (2 ∷ bs) c
  end_all e =
      let p = let_through (eqb (length bs) (1 + byte_at 0 bs)) _ c e in let l = eqb-true _ _ p.0 in
      rewritten (2 ∷ bs) _ c p.1 record { bytes = ap (λ (xs : Bytes). 2 ∷ xs) (name_again bs l); fits = rw (name_short bs u l) }

  show_all : read_name Show bs ≡ meant c → Rewritten (9 ∷ bs) c
  show_all e =
      let p = let_through (eqb (length bs) (1 + byte_at 0 bs)) _ c e in let l = eqb-true _ _ p.0 in
      rewritten (9 ∷ bs) _ c p.1 record { bytes = ap (λ (xs : Bytes). 9 ∷ xs) (name_again bs l); fits = rw (name_short bs u l) }

  brief_at : brief (field 2 0 bs) ≡ true
  brief_at = lt-ltb (field 2 0 bs) 65536 (field_lt 2 0 bs u)

  machine_at : eqb (length bs) 2 ≡ true → bytes_of 2 (field 2 0 bs) ≡ bs
  machine_at e = let l = eqb-true (length bs) 2 e in field_last 2 0 bs l u

  close_all : read_machine Close bs ≡ meant c → Rewritten (4 ∷ bs) c
  close_all e = let p = let_through (eqb (length bs) 2) _ c e in rewritten (4 ∷ bs) _ c p.1 record { bytes = ap (λ (xs : Bytes). 4 ∷ xs) (machine_at p.0); fits = brief_at }

  reopen_all : read_machine Reopen bs ≡ meant c → Rewritten (5 ∷ bs) c
  reopen_all e = let p = let_through (eqb (length bs) 2) _ c e in rewritten (5 ∷ bs) _ c p.1 record { bytes = ap (λ (xs : Bytes). 5 ∷ xs) (machine_at p.0); fits = brief_at }

  forget_all : read_machine Forget bs ≡ meant c → Rewritten (6 ∷ bs) c
  forget_all e = let p = let_through (eqb (length bs) 2) _ c e in rewritten (6 ∷ bs) _ c p.1 record { bytes = ap (λ (xs : Bytes). 6 ∷ xs) (machine_at p.0); fits = brief_at }

  tick_all : read_tick bs ≡ meant c → Rewritten (8 ∷ bs) c
  tick_all e =
      let p = let_through (eqb (length bs) 8) _ c e in let l = eqb-true (length bs) 8 p.0 in
      rewritten (8 ∷ bs) _ c p.1 record { bytes = ap (λ (xs : Bytes). 8 ∷ xs) (field_last 8 0 bs l u); fits = lt-ltb (field 8 0 bs) 18446744073709551616 (field_lt 8 0 bs u) }

  of_kind : (k j : ℕ) → eqb k j ≡ true → Rewritten (j ∷ bs) c → Rewritten (k ∷ bs) c
  of_kind k j e r = subst (λ (i : ℕ). Rewritten (i ∷ bs) c) (sym (eqb-true k j e)) r

  kind_all : (k : ℕ) → read_kind_lem k bs ≡ meant c → Rewritten (k ∷ bs) c
  kind_all k e0 =
      elim (either (eqb k 1) _ _ c e0) [
        | inl p ↦ of_kind k 1 p.0 (set_all bs c u p.1)
        | inr e1 ↦ elim (either (eqb k 2) _ _ c e1.1) [
          | inl p ↦ of_kind k 2 p.0 (end_all p.1)
          | inr e2 ↦ elim (either (eqb k 3) _ _ c e2.1) [
            | inl p ↦ of_kind k 3 p.0 (add_all bs c u p.1)
            | inr e3 ↦ elim (either (eqb k 4) _ _ c e3.1) [
              | inl p ↦ of_kind k 4 p.0 (close_all p.1)
              | inr e4 ↦ elim (either (eqb k 5) _ _ c e4.1) [
                | inl p ↦ of_kind k 5 p.0 (reopen_all p.1)
                | inr e5 ↦ elim (either (eqb k 6) _ _ c e5.1) [
                  | inl p ↦ of_kind k 6 p.0 (forget_all p.1)
                  | inr e6 ↦ elim (either (eqb k 7) _ _ c e6.1) [
                    | inl p ↦ of_kind k 7 p.0 (report_all bs c u p.1)
                    | inr e7 ↦ elim (either (eqb k 8) _ _ c e7.1) [
                      | inl p ↦ of_kind k 8 p.0 (tick_all p.1)
                      | inr e8 ↦ elim (either (eqb k 9) _ _ c e8.1) [
                        | inl p ↦ of_kind k 9 p.0 (show_all p.1)
                        | inr p ↦ absurd (not_garbled c p.1)
                      ]
                    ]
                  ]
                ]
              ]
            ]
          ]
        ]
      ]

pub calls_again : CallsAgain
calls_again [] c u e = absurd (not_garbled c e)
calls_again (k ∷ bs) c u e = let r = kind_all bs c u.1 k e in (r.bytes, r.fits)

pub no_other_calls : NoOtherCalls
no_other_calls bs u f = pick (read_call bs) refl
  where
    pick : (x : Read Call) → read_call bs ≡ x → x ≡ garbled
    pick garbled e = refl
    pick (meant c) e = let r = calls_again bs c u e in absurd (f c r.1 r.0)
