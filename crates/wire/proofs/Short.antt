-- Calls that are short.
-- Assumes nothing.
use Rattle.std.proofs.Common.{◌≡◌, ℕ, ◌/◌, ◌<◌, ◌≤◌, true, ltb, Ok, Err, Result, Vec, length, vec_items, ap, ◌∙◌, arith, ltb-true}
use Rattle.std.proofs.lemmas.Bool.{and_parts}
use Rattle.std.specs.declared.alloc.Global.{Global}
use Rattle.model.specs.Calls as m
use Rattle.model.specs.Wire.{Bytes, tags_in_lem, seens_in, call_bytes, read_call}
use Rattle.model.specs.Lines.{framed, tag_in, call_in}
use Rattle.calls.specs.Meaning.{call_of}
use Rattle.calls.specs.declared.call.Added.{Added}
use Rattle.calls.specs.declared.call.Reported.{Reported}
use Rattle.calls.specs.declared.call.Wanted.{Wanted}
use Rattle.calls.specs.declared.call.Call.TheVariants.{Set, Add, Report}
use Rattle.calls.proofs.News.{seens_length}
use Rattle.calls.proofs.Ranges.{length_tags}
use Rattle.wire.specs.declared.unwritten.Unwritten.{Unwritten}
use Rattle.wire.specs.declared.unwritten.Unwritten.TheVariants.{TooLong, NoMemory}
use Rattle.wire.specs.Frames.{FramedAs}
use Rattle.wire.specs.Written.{WrittenAs}
use Rattle.wire.specs.Short.{is_short_lem}
use Rattle.wire.specs.Fits.{numbers_fit, call_fits}
use Rattle.wire.proofs.CallsBack.{calls_back}
use Rattle.wire.proofs.Framing.{frame_back}
use Rattle.wire.proofs.Lengths.{short_call}

pub few_set : (w : Wanted) → is_short_lem (call_of (Set w)) ≡ true → length w.like.tags.now / 4 ≤ 255
few_set w e =
    let t = w.like.tags.now in let p = and_parts (ltb (length w.name.now) 256) (ltb (length (tags_in_lem (length t / 4) t)) 256) e in
    let l = ltb-true (length (tags_in_lem (length t / 4) t)) 256 p.1 in let h = length_tags (length t / 4) t in omega arith

pub few_added : (a : Added) → is_short_lem (call_of (Add a)) ≡ true → length a.tags.now / 4 ≤ 255
few_added a e = let t = a.tags.now in let l = ltb-true (length (tags_in_lem (length t / 4) t)) 256 e in let h = length_tags (length t / 4) t in omega arith

pub few_reported : (r : Reported) → is_short_lem (call_of (Report r)) ≡ true → length r.tasks.now / 9 ≤ 65535
few_reported r e = let t = r.tasks.now in let l = ltb-true (length (seens_in (length t / 9) t)) 65536 e in let h = seens_length (length t / 9) t in omega arith

-- its frame is never too long, and what was written is read back
pub framed_call : (tag : ℕ) (c : m.Call) (body : Bytes) (r : Result (Vec ℕ Global) Unwritten) → tag < 4294967296 → is_short_lem c ≡ true → numbers_fit c ≡ true → body ≡ call_bytes c → FramedAs tag body r → WrittenAs tag c r
framed_call tag c body (Ok v) t e n b h =
    let f : call_fits c ≡ true = rw (e, n) in let k = frame_back tag (call_bytes c) t (let l = short_call c e in omega arith) in let q : vec_items v ≡ framed tag (call_bytes c) = h ∙ ap (framed tag) b in
    record { fits = f; bytes = q; back = ap (λ (bs : Bytes). read_call (call_in bs)) q ∙ ap read_call k.0 ∙ calls_back c f; tagged = ap tag_in q ∙ k.1 }
framed_call tag c body (Err TooLong) t e n b h = absurd (let l = short_call c e in let k = ap length b in omega arith)
framed_call tag c body (Err NoMemory) t e n b h = tt
