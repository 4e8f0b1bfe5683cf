-- What lines bear: a line that the herd or an agent writes says what it was written to say, or nothing.
-- Assumes nothing.
use Rattle.std.proofs.Common.{◌≡◌, ℕ, ◌+◌, ◌≤◌, Bool, true, false, eqb, ltb, ◌⊎◌, List, [], ◌∷◌, ◌++◌, length, drop, sym, refl, ap, ◌∙◌, subst, inl, inr, arith}
use mathlib.Core.List.{Memᴰ}
use Rattle.std.proofs.lemmas.Bool.{le-ltb, true≢false}
use Rattle.model.specs.Calls.{Seen, Forget, Report, Order}
use Rattle.model.specs.World.{Word, Up, Back}
use Rattle.model.specs.Wire.{Bytes, Read, garbled, meant, bytes_of, field, read_call, call_bytes, Answer, Refused, Done, Runs, Shown, answer_bytes}
use Rattle.model.specs.Answers.{read_answer_lem, is_runs, runs_fit_lem}
use Rattle.model.specs.Lines.{framed, call_in, kind_in}
use Rattle.model.proofs.Lists.{never}
use Rattle.lines.proofs.Saying.{kind_read}
use Rattle.wire.specs.Fits.{call_fits}
use Rattle.wire.proofs.Fields.{drop_front, drop_next, length_front}
use Rattle.wire.proofs.AnswersBack.{runs_back_lem, no_other_runs_lem, no_report_runs}
use Rattle.wire.proofs.CallsBack.{calls_back}
use Rattle.together.specs.Telling.{Carried}

-- FRAMES: what was framed is unframed, or nothing is
pub call_framed : (tag : ℕ) (body : Bytes) → (call_in (framed tag body) ≡ body) ⊎ (call_in (framed tag body) ≡ [])
call_framed tag body = pick (eqb (field 4 0 (framed tag body) + 4) (length (framed tag body))) refl
  where
    long' : length (framed tag body) ≡ 8 + length body
    long' = let a = length_front 4 (4 + length body) (bytes_of 4 tag ++ body) in let b = length_front 4 tag body in omega arith

    short : ltb (length (framed tag body)) 8 ≡ false
    short = le-ltb _ _ (let a = long' in omega arith)

    rest : drop 4 (framed tag body) ≡ bytes_of 4 tag ++ body
    rest = drop_front 4 (4 + length body) (bytes_of 4 tag ++ body)

    pick : (b : Bool) → eqb (field 4 0 (framed tag body) + 4) (length (framed tag body)) ≡ b → (call_in (framed tag body) ≡ body) ⊎ (call_in (framed tag body) ≡ [])
    pick true e = inl (rw (short, e) (drop_next 4 4 tag (framed tag body) body rest))
    pick false e = inr (rw (short, e) refl)

-- nothing says nothing
carried_none : (ws : List Word) → Carried [] ws
carried_none ws = record { ups = λ i l n xs e. never (cc); backs = λ i l n os e. never (cc); fit = λ i l n os e. never (cc); no_forget = λ i e. never (cc) }

pub carried_framed : (tag : ℕ) (body : Bytes) (ws : List Word) → Carried body ws → Carried (call_in (framed tag body)) ws
carried_framed tag body ws c = pick (call_framed tag body)
  where
    pick : (call_in (framed tag body) ≡ body) ⊎ (call_in (framed tag body) ≡ []) → Carried (call_in (framed tag body)) ws
    pick (inl e) = subst (λ (b : Bytes). Carried b ws) (sym e) c
    pick (inr e) = subst (λ (b : Bytes). Carried b ws) (sym e) (carried_none ws)

pub carried_more : (bs : Bytes) (x : Word) (ws : List Word) → Carried bs ws → Carried bs (x ∷ ws)
carried_more bs x ws c = record { ups = λ i l n xs e. Memᴰ.tail (c.ups i l n xs e); backs = λ i l n os e. Memᴰ.tail (c.backs i l n os e); fit = c.fit; no_forget = c.no_forget }

-- ANSWERS are no reports, and don't say that a machine is gone: their first byte is below 6
answer_kind : (a : Answer) → kind_in (answer_bytes a) ≤ 3
answer_kind (Refused k) = omega arith
answer_kind Done = omega arith
answer_kind (Runs k l n os) = omega arith
answer_kind (Shown ls) = omega arith

answer_no_report : {C : Type 0} (a : Answer) (i l n : ℕ) (xs : List Seen) → read_call (answer_bytes a) ≡ meant (Report i l n xs) → C
answer_no_report a i l n xs e = let k = answer_kind a in let q : kind_in (answer_bytes a) ≡ 7 = kind_read (answer_bytes a) (Report i l n xs) e in absurd (omega arith)

answer_no_forget : (a : Answer) (i : ℕ) → read_call (answer_bytes a) ≡ meant (Forget i) → ⊥
answer_no_forget a i e = let k = answer_kind a in let q : kind_in (answer_bytes a) ≡ 6 = kind_read (answer_bytes a) (Forget i) e in omega arith

pub carried_answer : (a : Answer) (ws : List Word) → is_runs a ≡ false → Carried (answer_bytes a) ws
carried_answer a ws q =
    record {
      ups = λ i l n xs e. answer_no_report a i l n xs e;
      backs = λ i l n os e. absurd (true≢false (no_other_runs_lem a (Runs i l n os) q e));
      fit = λ i l n os e. absurd (true≢false (no_other_runs_lem a (Runs i l n os) q e));
      no_forget = answer_no_forget a;
    }

-- what an answer is to fit, if it is one to a report
abbrev fitting : Answer → Bool
fitting (Refused k) = true
fitting Done = true
fitting (Runs k l n os) = runs_fit_lem k l n os
fitting (Shown ls) = true

pub carried_runs : (i l n : ℕ) (os : List Order) (ws : List Word) → runs_fit_lem i l n os ≡ true → Memᴰ (Back i l n os) ws → Carried (answer_bytes (Runs i l n os)) ws
carried_runs i l n os ws t h = record { ups = λ i' l' n' xs e. answer_no_report (Runs i l n os) i' l' n' xs e; backs = λ i' l' n' os' e. back i' l' n' os' (same i' l' n' os' e); fit = λ i' l' n' os' e. fits i' l' n' os' (same i' l' n' os' e); no_forget = answer_no_forget (Runs i l n os) }
  where
    same : (i' l' n' : ℕ) (os' : List Order) → read_answer_lem (answer_bytes (Runs i l n os)) ≡ meant (Runs i' l' n' os') → Runs i l n os ≡ Runs i' l' n' os'
    same i' l' n' os' e = let q : meant (Runs i l n os) ≡ meant (Runs i' l' n' os') = sym (runs_back_lem i l n os t) ∙ e in cc

    back : (i' l' n' : ℕ) (os' : List Order) → Runs i l n os ≡ Runs i' l' n' os' → Memᴰ (Back i' l' n' os') ws
    back i' l' n' os' e = let p : Back i l n os ≡ Back i' l' n' os' = cc in subst (λ (x : Word). Memᴰ x ws) p h

    fits : (i' l' n' : ℕ) (os' : List Order) → Runs i l n os ≡ Runs i' l' n' os' → runs_fit_lem i' l' n' os' ≡ true
    fits i' l' n' os' e = ap fitting (sym e) ∙ t

-- A REPORT says what it says
pub carried_report : (i l n : ℕ) (xs : List Seen) (ws : List Word) → call_fits (Report i l n xs) ≡ true → Memᴰ (Up i l n xs) ws → Carried (call_bytes (Report i l n xs)) ws
carried_report i l n xs ws t h =
    record {
      ups = up;
      backs = λ i' l' n' os e. none i' l' n' os e;
      fit = λ i' l' n' os e. none i' l' n' os e;
      no_forget = λ i' e. let q : meant (Report i l n xs) ≡ meant (Forget i') = sym (calls_back (Report i l n xs) t) ∙ e in never (cc);
    }
  where
    none : {C : Type 0} (i' l' n' : ℕ) (os : List Order) → read_answer_lem (call_bytes (Report i l n xs)) ≡ meant (Runs i' l' n' os) → C
    none i' l' n' os e = let q : ◌≡◌ {A = Read Answer} garbled (meant (Runs i' l' n' os)) = sym (no_report_runs i l n xs) ∙ e in never (cc)

    up : (i' l' n' : ℕ) (xs' : List Seen) → read_call (call_bytes (Report i l n xs)) ≡ meant (Report i' l' n' xs') → Memᴰ (Up i' l' n' xs') ws
    up i' l' n' xs' e = let q : meant (Report i l n xs) ≡ meant (Report i' l' n' xs') = sym (calls_back (Report i l n xs) t) ∙ e in let p : Up i l n xs ≡ Up i' l' n' xs' = cc in subst (λ (x : Word). Memᴰ x ws) p h
