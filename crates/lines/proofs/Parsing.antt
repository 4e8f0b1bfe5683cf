-- Bytes that are a call: what their parts say together.
-- Assumes nothing.
use Rattle.std.proofs.Common.{◌≡◌, ℕ, zero, suc, ◌+◌, ◌-◌, ◌*◌, ◌/◌, ◌<◌, ◌≤◌, Bool, eqb, [], ◌∷◌, length, get_or, take, drop, refl, ap, arith, length-drop, take-take}
use Rattle.std.proofs.lemmas.List.{take_all, drop-take}
use Rattle.model.specs.Wire.{Bytes, field, tags_in_lem, spec_in_lem, read_kind_lem, read_call}
use Rattle.octets.proofs.Numbers.{length_take_under}
use Rattle.calls.specs.Meaning.{tags_of}

-- tags say the same where nothing is behind them
tags_front : (t : ℕ) (bs : Bytes) → tags_in_lem t (take (4 * t) bs) ≡ tags_in_lem t bs
unfolding tags_in_lem
tags_front zero bs = refl
tags_front (suc t) bs =
    let e : 4 * suc t ≡ 4 + 4 * t = omega arith in let h = tags_front t (drop 4 bs) in
    rw (e, take-take 4 (4 + 4 * t) bs (omega arith), drop-take 4 (4 * t) bs, h)

-- a likeness, by its parts
pub like_read : (t : ℕ) (bs : Bytes) (i c m : ℕ) (a : Bool) → 14 + 4 * t ≤ length bs → i ≡ field 4 0 bs → c ≡ field 4 4 bs → m ≡ field 4 8 bs → a ≡ eqb (get_or bs (13 + 4 * t) 0) 1 →
    record { image = i; cpu = c; mem = m; tags = tags_of (take (13 + 4 * t - 13) (drop 13 bs)); apart = a } ≡ spec_in_lem t bs
like_read t bs i c m a l p q r s =
    let n : 13 + 4 * t - 13 ≡ 4 * t = omega arith in
    let k : length (take (4 * t) (drop 13 bs)) ≡ 4 * t = length_take_under (4 * t) (drop 13 bs) (let d = length-drop 13 bs in omega arith) in
    let g : tags_of (take (13 + 4 * t - 13) (drop 13 bs)) ≡ tags_in_lem t (drop 13 bs) = let f : 4 * t / 4 ≡ t = omega arith in rw (n, k, f) (tags_front t (drop 13 bs)) in
    λ j. record { image = p j; cpu = q j; mem = r j; tags = g j; apart = s j }

-- the first byte and the rest
pub call_read : (bs : Bytes) → 0 < length bs → read_kind_lem (get_or bs 0 0) (take (length bs - 1) (drop 1 bs)) ≡ read_call bs
call_read [] h = absurd (omega arith)
call_read (k ∷ bs) h = ap (read_kind_lem k) (take_all (length (k ∷ bs) - 1) bs (omega arith))
