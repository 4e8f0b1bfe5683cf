-- How long calls are.
-- Assumes nothing.
use Rattle.std.proofs.Common.{◌≡◌, ◌*◌, ◌<◌, true, ltb, List, [], ◌∷◌, length, refl, ◌∙◌, arith, length-append, ltb-true}
use Rattle.std.proofs.lemmas.Bool.{and_parts}
use Rattle.model.specs.Calls.{Seen, Call, SetJob, EndJob, AddMachine, Close, Reopen, Forget, Report, Tick, Show}
use Rattle.model.specs.Wire.{bytes_of, flag_of, seen_bytes, call_bytes}
use Rattle.octets.proofs.Numbers.{length_bytes_of}
use Rattle.lines.proofs.Writing.{length_tag_bytes}
use Rattle.wire.specs.Short.{is_short_lem}

pub length_seen_bytes : (xs : List Seen) → length (seen_bytes xs) ≡ 9 * length xs
unfolding seen_bytes
length_seen_bytes [] = refl
length_seen_bytes (x ∷ xs) =
    let h = length_seen_bytes xs in let a = length-append (bytes_of 8 x.id) (flag_of x.ready ∷ seen_bytes xs) in let b = length_bytes_of 8 x.id in a ∙ omega arith

-- no call that is short comes near the end of what a frame can say
pub short_call : (c : Call) → is_short_lem c ≡ true → length (call_bytes c) < 600000
short_call (SetJob n a c l m) e =
    let p = and_parts (ltb (length n) 256) (ltb (length a.tags) 256) e in let x = ltb-true (length n) 256 p.0 in let y = ltb-true (length a.tags) 256 p.1 in
    simp (length-append, length_bytes_of, length_tag_bytes) (omega arith)
short_call (EndJob n) e = let x = ltb-true (length n) 256 e in omega arith
short_call (AddMachine k c m t) e = let x = ltb-true (length t) 256 e in simp (length-append, length_bytes_of, length_tag_bytes) (omega arith)
short_call (Close k) e = simp length_bytes_of (omega arith)
short_call (Reopen k) e = simp length_bytes_of (omega arith)
short_call (Forget k) e = simp length_bytes_of (omega arith)
short_call (Report k l n xs) e = let x = ltb-true (length xs) 65536 e in simp (length-append, length_bytes_of, length_seen_bytes) (omega arith)
short_call (Tick t) e = simp length_bytes_of (omega arith)
short_call (Show n) e = let x = ltb-true (length n) 256 e in omega arith
