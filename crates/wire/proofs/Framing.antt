-- Frames, made and opened.
-- Assumes nothing.
use Rattle.std.proofs.Common.{◌≡◌, ℕ, ◌+◌, Bool, true, false, cond, eqb, ltb, [], ◌++◌, length, drop, sym, refl, ap, ◌∙◌, arith, length-drop, ltb-false}
use Rattle.std.specs.Int.Digits.{AllBelowBase}
use Rattle.std.proofs.lemmas.Bool.{eq-eqb, eqb-true, le-ltb}
use Rattle.model.specs.Wire.{Bytes, meant, bytes_of, field, Answer, answer_bytes}
use Rattle.model.specs.Lines.{framed, tag_in, call_in}
use Rattle.model.specs.Answers.{FrameBack, read_answer_lem}
use Rattle.wire.proofs.Again.{below_drop, field_to}
use Rattle.wire.proofs.CallsAgain.{not_garbled}
use Rattle.wire.proofs.AnswersAgain.{answers_again}
use Rattle.wire.proofs.Fields.{field_front, field_at, drop_front, drop_next, length_front}

pub frame_back : FrameBack
frame_back tag body t l = (rw (short, fits) (drop_next 4 4 tag (framed tag body) body rest), rw short (field_at 4 4 tag (framed tag body) body rest (omega (arith, t))))
  where
    long : length (framed tag body) ≡ 8 + length body
    long = let a = length_front 4 (4 + length body) (bytes_of 4 tag ++ body) in let b = length_front 4 tag body in omega arith

    short : ltb (length (framed tag body)) 8 ≡ false
    short = le-ltb _ _ (let a = long in omega arith)

    head : field 4 0 (framed tag body) ≡ 4 + length body
    head = field_front 4 (4 + length body) (bytes_of 4 tag ++ body) (omega (arith, l))

    fits : eqb (field 4 0 (framed tag body) + 4) (length (framed tag body)) ≡ true
    fits = eq-eqb _ _ (let a = long in let b = head in omega arith)

    rest : drop 4 (framed tag body) ≡ bytes_of 4 tag ++ body
    rest = drop_front 4 (4 + length body) (bytes_of 4 tag ++ body)

-- a frame with something in it is made again of what stands in it
pub frame_again : (line : Bytes) → AllBelowBase 256 line → (call_in line ≡ [] → ⊥) → framed (tag_in line) (call_in line) ≡ line
frame_again line u n = pick (ltb (length line) 8) (eqb (field 4 0 line + 4) (length line)) refl refl n
  where
    pick : (b c : Bool) → ltb (length line) 8 ≡ b → eqb (field 4 0 line + 4) (length line) ≡ c → (cond b [] (cond c (drop 8 line) []) ≡ [] → ⊥) → framed (cond b 0 (field 4 4 line)) (cond b [] (cond c (drop 8 line) [])) ≡ line
    pick true c p q m = absurd (m refl)
    pick false false p q m = absurd (m refl)
    pick false true p q m =
        let l = ltb-false (length line) 8 p in let e = eqb-true (field 4 0 line + 4) (length line) q in let d = length-drop 8 line in let k : 4 + length (drop 8 line) ≡ field 4 0 line = omega arith in
        ap (λ (x : ℕ). bytes_of 4 x ++ (bytes_of 4 (field 4 4 line) ++ drop 8 line)) k ∙ ap (λ (xs : Bytes). bytes_of 4 (field 4 0 line) ++ xs) (field_to 4 4 8 line refl (omega arith) u) ∙ field_to 4 0 4 line refl (omega arith) u

-- its bytes are bytes
below_call : (line : Bytes) → AllBelowBase 256 line → AllBelowBase 256 (call_in line)
below_call line u = pick (ltb (length line) 8) (eqb (field 4 0 line + 4) (length line))
  where
    pick : (b c : Bool) → AllBelowBase 256 (cond b [] (cond c (drop 8 line) []))
    pick true c = tt
    pick false true = below_drop 8 line u
    pick false false = tt

-- and so is a framed answer
pub answer_again : (line : Bytes) (a : Answer) (tag : ℕ) → AllBelowBase 256 line → tag ≡ tag_in line → read_answer_lem (call_in line) ≡ meant a → framed tag (answer_bytes a) ≡ line
answer_again line a tag u t e = (λ i. framed (t i) ((answers_again (call_in line) a (below_call line u) e).0 i)) ∙ frame_again line u (λ z. not_garbled a (sym (ap read_answer_lem z) ∙ e))

-- the tag of a line that says something
pub tag_at : (line : Bytes) (a : Answer) → read_answer_lem (call_in line) ≡ meant a → field 4 4 line ≡ tag_in line
tag_at line a e = pick (ltb (length line) 8) e
  where
    pick : (b : Bool) → read_answer_lem (cond b [] (cond (eqb (field 4 0 line + 4) (length line)) (drop 8 line) [])) ≡ meant a → field 4 4 line ≡ cond b 0 (field 4 4 line)
    pick true h = absurd (not_garbled a h)
    pick false h = refl
