-- Numbers as bytes of a fixed width: reading what was written gives it back, and writing what was read does.
-- Assumes nothing.
use Rattle.std.proofs.Common.{◌≡◌, ℕ, zero, suc, ◌+◌, ◌-◌, ◌*◌, ◌/◌, ◌%◌, ◌^◌, ◌<◌, ◌≤◌, [], ◌∷◌, ◌++◌, length, get_or, take, drop, set, sym, refl, ap, ◌∙◌, append_assoc, append-nil, pow-suc, div-add-mod', add-one, arith, length-take}
use native.Mathlib.Nat.{div-div-eq-div-mul, pow-le-pow_right}
use Rattle.std.specs.Int.Digits.{AllBelowBase}
use Rattle.std.proofs.lemmas.Int.Digits.{number_push, number_lt}
use Rattle.std.proofs.lemmas.List.{length_push, take_more, take_all, drop_all, drop-set}
use Rattle.std.proofs.ByRecursion.{All-take, All-get_or, All-from_get_or}
use Rattle.model.specs.Wire.{Bytes, bytes_of, value_of}

-- a front that is there
pub length_take_under : (n : ℕ) (xs : Bytes) → n ≤ length xs → length (take n xs) ≡ n
length_take_under n xs h = let e = length-take n xs in omega arith

pub length_bytes_of : (w n : ℕ) → length (bytes_of w n) ≡ w
unfolding bytes_of
length_bytes_of zero n = refl
length_bytes_of (suc w) n = let h = length_bytes_of w (n / 256) in length_push (bytes_of w (n / 256)) (n % 256) ∙ omega arith

-- what was written is read back
pub value_bytes_of : (w n : ℕ) → n < 256 ^ w → value_of (bytes_of w n) ≡ n
unfolding bytes_of
value_bytes_of zero n h = omega arith
value_bytes_of (suc w) n h =
    let q : n < 256 ^ w * 256 = rw pow-suc at h in
    let e = value_bytes_of w (n / 256) (omega arith) in let p = number_push 256 (bytes_of w (n / 256)) (n % 256) in let d = div-add-mod' n 256 in p ∙ omega arith

-- one byte more is one more at the end
pub bytes_of_push : (w n d : ℕ) → d < 256 → bytes_of (suc w) (n * 256 + d) ≡ bytes_of w n ++ (d ∷ [])
unfolding bytes_of
bytes_of_push w n d h = let q : (n * 256 + d) / 256 ≡ n = omega arith in let r : (n * 256 + d) % 256 ≡ d = omega arith in rw (q, r)

-- what was read is written back
pub bytes_of_value : (w : ℕ) (bs : Bytes) → length bs ≡ w → AllBelowBase 256 bs → bytes_of w (value_of bs) ≡ bs
unfolding bytes_of
bytes_of_value zero [] e u = refl
bytes_of_value zero (b ∷ bs) e u = absurd (let z : ◌≡◌ {A = ℕ} 0 1 = cc in omega arith)
bytes_of_value (suc w) bs e u =
    rw (parts, number_push 256 (take w bs) (get_or bs w 0)) (bytes_of_push w (value_of (take w bs)) (get_or bs w 0) small ∙ ap (λ (xs : Bytes). xs ++ (get_or bs w 0 ∷ [])) (bytes_of_value w (take w bs) front (All-take _ w bs u)))
  where
    inside : w < length bs
    inside = omega (arith, e)

    front : length (take w bs) ≡ w
    front = length_take_under w bs (omega (arith, inside))

    small : get_or bs w 0 < 256
    small = All-get_or (λ d. d < 256) bs w 0 inside u

    parts : bs ≡ take w bs ++ (get_or bs w 0 ∷ [])
    parts = sym (take_all (w + 1) bs (omega (arith, e))) ∙ take_more bs w 0 inside

pub bytes_under : (bs : Bytes) → ((k : ℕ) → get_or bs k 0 < 256) → AllBelowBase 256 bs
bytes_under bs u = All-from_get_or (λ d. d < 256) bs 0 (λ k l. u k)

-- so many bytes stay below the next byte's place
pub value_lt : (bs : Bytes) (w : ℕ) → length bs ≤ w → AllBelowBase 256 bs → value_of bs < 256 ^ w
value_lt bs w h u = let a = number_lt 256 bs u in let b : 256 ^ length bs ≤ 256 ^ w = pow-le-pow_right (omega arith) h in omega arith

-- reading byte by byte, what was read before the last of at most eight leaves room for it
pub value_room : (bs : Bytes) (i : ℕ) → i < length bs → length bs ≤ 8 → ((k : ℕ) → get_or bs k 0 < 256) → value_of (take i bs) < 72057594037927936
value_room bs i h e u =
    let a = All-take (λ d. d < 256) i bs (bytes_under bs u) in
    value_lt (take i bs) 7 (let l = length_take_under i bs (omega arith) in omega arith) a

-- writing from the end: what is written stands behind the bytes of what is left
pub put_none : (out : Bytes) (n : ℕ) → bytes_of (length out) n ++ drop (length out) out ≡ bytes_of (length out) n
put_none out n = rw (drop_all (length out) out (omega arith), append-nil)

pub put_more : (out : Bytes) (n i : ℕ) → 0 < i → i ≤ length out → bytes_of (i - 1) (n / 256) ++ drop (i - 1) (set out (i - 1) (n % 256)) ≡ bytes_of i n ++ drop i out
unfolding bytes_of
put_more out n zero p h = absurd (omega arith)
put_more out n (suc j) p h =
    let e : suc j - 1 ≡ j = omega arith in let l : j < length out = omega arith in
    rw (e, drop-set out j (n % 256) l, add-one j) (sym (append_assoc (bytes_of j (n / 256)) (n % 256 ∷ []) (drop (suc j) out)))

pub put_all : (out : Bytes) (n i : ℕ) → i ≤ 0 → out ≡ bytes_of i n ++ drop i out
unfolding bytes_of
put_all out n zero h = refl
put_all out n (suc i) h = absurd (omega arith)

-- the four bytes of a number, one by one
pub bytes_of_four : (n : ℕ) → bytes_of 4 n ≡ n / 16777216 % 256 ∷ n / 65536 % 256 ∷ n / 256 % 256 ∷ n % 256 ∷ []
unfolding bytes_of
bytes_of_four n = let a : n / 256 / 256 ≡ n / 65536 = div-div-eq-div-mul n 256 256 in let b : n / 65536 / 256 ≡ n / 16777216 = div-div-eq-div-mul n 65536 256 in rw (a, b)

-- and eight
pub bytes_of_eight : (n : ℕ) →
    bytes_of 8 n ≡ n / 72057594037927936 % 256 ∷ n / 281474976710656 % 256 ∷ n / 1099511627776 % 256 ∷ n / 4294967296 % 256 ∷ n / 16777216 % 256 ∷ n / 65536 % 256 ∷ n / 256 % 256 ∷ n % 256 ∷ []
unfolding bytes_of
bytes_of_eight n =
    let b : n / 256 / 256 ≡ n / 65536 = div-div-eq-div-mul n 256 256 in
    let c : n / 65536 / 256 ≡ n / 16777216 = div-div-eq-div-mul n 65536 256 in
    let d : n / 16777216 / 256 ≡ n / 4294967296 = div-div-eq-div-mul n 16777216 256 in
    let e : n / 4294967296 / 256 ≡ n / 1099511627776 = div-div-eq-div-mul n 4294967296 256 in
    let f : n / 1099511627776 / 256 ≡ n / 281474976710656 = div-div-eq-div-mul n 1099511627776 256 in
    let g : n / 281474976710656 / 256 ≡ n / 72057594037927936 = div-div-eq-div-mul n 281474976710656 256 in rw (b, c, d, e, f, g)
