-- Bytes pushed one part behind the other.
-- Assumes nothing.
use Rattle.std.proofs.Common.{◌≡◌, refl, ℕ, zero, suc, ◌+◌, ◌-◌, ◌/◌, ◌%◌, ◌<◌, ◌≤◌, Bool, true, false, eqb, Ok, Err, Result, OnOk, is_ok, cond, List, [], ◌∷◌, ◌++◌, length, get_or, take, drop, sym, ap, ◌∙◌, subst, append_assoc, append-nil, arith, length-append}
use mir.Val.{bool_byte}
use Rattle.std.specs.Int.Digits.{AllBelowBase}
use Rattle.std.specs.declared.alloc.AllocError.{AllocError}
use Rattle.std.proofs.lemmas.List.{take_at, take_all, drop_at, drop_all, take-append-le, drop-append-le, get_or_append_left}
use Rattle.model.specs.Wire.{Bytes, bytes_of, value_of, flag_of, seens_in, seen_bytes}
use Rattle.model.specs.Lists.{every}
use Rattle.model.specs.State.{Name, Spec}
use Rattle.model.specs.Calls.{Seen, SetJob, AddMachine, Report, small}
use Rattle.std.proofs.lemmas.Bool.{lt-ltb}
use Rattle.wire.specs.Fits.{spec_numbers, long_id, numbers_fit}
use Rattle.calls.specs.Meaning.{seens_of}
use Rattle.octets.proofs.Numbers.{length_bytes_of, length_take_under, bytes_of_value}
use Rattle.std.proofs.ByRecursion.{All-take}
use Rattle.wire.proofs.Again.{below_drop}

pub then : (old v w a b : Bytes) → v ≡ old ++ a → w ≡ v ++ b → w ≡ old ++ (a ++ b)
then old v w a b p q = q ∙ ap (λ (xs : Bytes). xs ++ b) p ∙ append_assoc old a b

pub report_pushed : (old v1 v2 v3 v4 v5 v6 d : Bytes) (k l n c m : ℕ) → v1 ≡ old ++ (7 ∷ []) → v2 ≡ v1 ++ bytes_of 2 k → v3 ≡ v2 ++ bytes_of 8 l → v4 ≡ v3 ++ bytes_of 8 n → v5 ≡ v4 ++ bytes_of 2 c → v6 ≡ v5 ++ d → m ≡ c →
    v6 ≡ old ++ 7 ∷ (bytes_of 2 k ++ (bytes_of 8 l ++ (bytes_of 8 n ++ (bytes_of 2 m ++ d))))
report_pushed old v1 v2 v3 v4 v5 v6 d k l n c m e1 e2 e3 e4 e5 e6 h = rw (e6, e5, e4, e3, e2, e1, h) (simp append_assoc)

-- NUMBERS IN RANGE

pub like_fits : (a : Spec) → a.image < 4294967296 → a.cpu < 4294967296 → a.mem < 4294967296 → every small a.tags ≡ true → spec_numbers a ≡ true
like_fits a i c m t = rw (lt-ltb a.image 4294967296 i, lt-ltb a.cpu 4294967296 c, lt-ltb a.mem 4294967296 m) t

pub set_fits : (n : Name) (a : Spec) (c l m : ℕ) → spec_numbers a ≡ true → c < 65536 → l < 65536 → m < 65536 → numbers_fit (SetJob n a c l m) ≡ true
set_fits n a c l m f p q r = rw (f, lt-ltb c 65536 p, lt-ltb l 65536 q, lt-ltb m 65536 r)

pub added_fits : (k c m : ℕ) (t : List ℕ) → k < 65536 → c < 4294967296 → m < 4294967296 → every small t ≡ true → numbers_fit (AddMachine k c m t) ≡ true
added_fits k c m t p q r f = rw (lt-ltb k 65536 p, lt-ltb c 4294967296 q, lt-ltb m 4294967296 r) f

pub reported_fits : (k l n : ℕ) (xs : List Seen) → k < 65536 → l < 18446744073709551616 → n < 18446744073709551616 → every long_id xs ≡ true → numbers_fit (Report k l n xs) ≡ true
reported_fits k l n xs p q r f = rw (lt-ltb k 65536 p, lt-ltb l 18446744073709551616 q, lt-ltb n 18446744073709551616 r) f

-- A REPORT'S TASKS

pub flag_byte : (b : Bool) → bool_byte b ≡ flag_of b
flag_byte true = refl
flag_byte false = refl

-- the first task, and the others
tasks_front : (piece left : Bytes) → length piece ≡ 9 → AllBelowBase 256 piece → seen_bytes (seens_of (piece ++ left)) ≡ take 8 piece ++ (flag_of (eqb (get_or piece 8 0) 1) ∷ seen_bytes (seens_of left))
unfolding seen_bytes seens_in
tasks_front piece left l u =
    let a = length-append piece left in let n : length (piece ++ left) / 9 ≡ suc (length left / 9) = omega (arith, a, l) in
    let e : take 8 (piece ++ left) ≡ take 8 piece = take-append-le 8 piece left (omega (arith, l)) in
    let f : bytes_of 8 (value_of (take 8 piece)) ≡ take 8 piece = bytes_of_value 8 (take 8 piece) (length_take_under 8 piece (omega (arith, l))) (All-take (λ d. d < 256) 8 piece u) in
    let g : get_or (piece ++ left) 8 0 ≡ get_or piece 8 0 = get_or_append_left piece left 0 8 (omega (arith, l)) in
    let d : drop 9 (piece ++ left) ≡ left = drop_at piece left 9 l in rw (n, e, f, g, d)

pub tasks_more : (acc v w piece rest left a all : Bytes) (x : ℕ) → v ≡ acc ++ a → w ≡ v ++ (x ∷ []) → a ≡ take 8 piece → x ≡ bool_byte (eqb (get_or piece 8 0) 1) → length piece ≡ 9 → AllBelowBase 256 rest → rest ≡ piece ++ left →
    acc ++ seen_bytes (seens_of rest) ≡ all → w ++ seen_bytes (seens_of left) ≡ all
tasks_more acc v w piece rest left a all x p q e f l u r inv =
    rw (q, p, e, f, flag_byte (eqb (get_or piece 8 0) 1)) (append_assoc (acc ++ take 8 piece) (flag_of (eqb (get_or piece 8 0) 1) ∷ []) (seen_bytes (seens_of left)) ∙ append_assoc acc (take 8 piece) (flag_of (eqb (get_or piece 8 0) 1) ∷ seen_bytes (seens_of left))) ∙
    ap (λ (xs : Bytes). acc ++ xs) (sym (ap (λ (xs : Bytes). seen_bytes (seens_of xs)) r ∙ tasks_front piece left l (front _ _ l (subst (AllBelowBase 256) r u)))) ∙ inv
  where
    front : (piece left : Bytes) → length piece ≡ 9 → AllBelowBase 256 (piece ++ left) → AllBelowBase 256 piece
    front xs ys h w = subst (AllBelowBase 256) (take_at xs ys 9 h) (All-take (λ d. d < 256) 9 (xs ++ ys) w)

pub tasks_left : (piece rest left : Bytes) → length piece ≡ 9 → AllBelowBase 256 rest → rest ≡ piece ++ left → AllBelowBase 256 left
tasks_left piece rest left l u r = subst (AllBelowBase 256) (ap (drop 9) r ∙ drop_at piece left 9 l) (below_drop 9 rest u)

pub tasks_done : (acc rest all : Bytes) → length rest < 9 → acc ++ seen_bytes (seens_of rest) ≡ all → acc ≡ all
unfolding seen_bytes seens_in
tasks_done acc rest all l inv = let z : length rest / 9 ≡ 0 = omega (arith, l) in sym (append-nil acc) ∙ ap (λ (n : ℕ). acc ++ seen_bytes (seens_in n rest)) (sym z) ∙ inv

-- A NUMBER'S LOW BYTES

-- the bytes behind the first k are those of the rest
low_bytes : (k w n : ℕ) → drop k (bytes_of (k + w) n) ≡ bytes_of w n
unfolding bytes_of
low_bytes k zero n = drop_all k (bytes_of (k + zero) n) (let l = length_bytes_of (k + zero) n in omega arith)
low_bytes k (suc w) n =
    let e : k + suc w ≡ suc (k + w) = omega arith in let l = length_bytes_of (k + w) (n / 256) in
    rw e (drop-append-le k (bytes_of (k + w) (n / 256)) (n % 256 ∷ []) (omega arith) ∙ ap (λ (xs : Bytes). xs ++ (n % 256 ∷ [])) (low_bytes k w (n / 256)))

-- of eight bytes the last w are pushed, if there was memory for them
pub number_pushed : (r : Result (Unit {0}) AllocError) (w n x d m : ℕ) (old new all : Bytes) → w ≤ 8 → d ≡ 8 - w → w ≤ m → x ≡ n → all ≡ bytes_of 8 x → new ≡ cond (is_ok r) (old ++ take m (drop d all)) old → OnOk r (new ≡ old ++ bytes_of w n)
number_pushed (Ok u) w n x d m old new all l e f s a q = q ∙ ap (λ (xs : Bytes). old ++ xs) (take_all m (drop d all) long ∙ same)
  where
    k : 8 - w + w ≡ 8
    k = omega arith

    same : drop d all ≡ bytes_of w n
    same = (λ i. drop (e i) (a i)) ∙ ap (λ (j : ℕ). drop (8 - w) (bytes_of j x)) (sym k) ∙ low_bytes (8 - w) w x ∙ ap (bytes_of w) s

    long : length (drop d all) ≤ m
    long = let p = ap length same in let b = length_bytes_of w n in omega arith
number_pushed (Err z) w n x d m old new all l e f s a q = tt
