-- Numbers that stand one after the other in bytes.
-- Assumes nothing.
use Rattle.std.proofs.Common.{◌≡◌, ℕ, ◌+◌, ◌^◌, ◌<◌, ◌∷◌, ◌++◌, length, get_or, take, drop, sym, ap, ◌∙◌, arith, length-append, get_or-drop, drop-drop}
use Rattle.std.proofs.lemmas.List.{take_at, take_all, drop_at}
use Rattle.model.specs.Wire.{Bytes, bytes_of, value_of, field, byte_at}
use Rattle.octets.proofs.Numbers.{length_bytes_of, value_bytes_of}

-- what stands at the front
pub field_front : (w m : ℕ) (bs : Bytes) → m < 256 ^ w → field w 0 (bytes_of w m ++ bs) ≡ m
field_front w m bs h = ap value_of (take_at (bytes_of w m) bs w (length_bytes_of w m)) ∙ value_bytes_of w m h

pub drop_front : (w m : ℕ) (bs : Bytes) → drop w (bytes_of w m ++ bs) ≡ bs
drop_front w m bs = drop_at (bytes_of w m) bs w (length_bytes_of w m)

-- what stands at a place where the rest is known
pub field_at : (w at m : ℕ) (bs rest : Bytes) → drop at bs ≡ bytes_of w m ++ rest → m < 256 ^ w → field w at bs ≡ m
field_at w at m bs rest e h = ap (λ (xs : Bytes). value_of (take w xs)) e ∙ field_front w m rest h

pub drop_next : (w at m : ℕ) (bs rest : Bytes) → drop at bs ≡ bytes_of w m ++ rest → drop (at + w) bs ≡ rest
drop_next w at m bs rest e = sym (drop-drop w at bs) ∙ ap (drop w) e ∙ drop_front w m rest

pub byte_at_lem : (at b : ℕ) (bs rest : Bytes) → drop at bs ≡ b ∷ rest → byte_at at bs ≡ b
byte_at_lem at b bs rest e = sym (get_or-drop at bs 0 0 ∙ ap (λ (n : ℕ). get_or bs n 0) (omega arith)) ∙ ap (λ (xs : Bytes). get_or xs 0 0) e

pub field_whole : (w m : ℕ) → m < 256 ^ w → field w 0 (bytes_of w m) ≡ m
field_whole w m h = ap value_of (take_all w (bytes_of w m) (let l = length_bytes_of w m in omega arith)) ∙ value_bytes_of w m h

pub length_front : (w m : ℕ) (bs : Bytes) → length (bytes_of w m ++ bs) ≡ w + length bs
length_front w m bs = let a = length-append (bytes_of w m) bs in let b = length_bytes_of w m in omega arith
