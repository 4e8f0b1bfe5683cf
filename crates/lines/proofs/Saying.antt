-- What a line says is what its call means.
-- Assumes nothing.
use Rattle.std.proofs.Common.{◌≡◌, ℕ, Bool, true, false, cond, not, ◌&&◌, T, eqb, [], ◌∷◌, sym, refl, ap, ◌∙◌, subst, arith}
use Rattle.std.proofs.lemmas.Bool.{eqb-true, true≢false}
use Rattle.model.specs.State.{State}
use Rattle.model.specs.Calls.{Call, SetJob, EndJob, AddMachine, Close, Reopen, Forget, Report, Tick, Show, Reply, No, Out, no, is_tick, does}
use Rattle.model.specs.Promise.{Answers, says_so, not_yet}
use Rattle.model.specs.Wire.{Bytes, Read, garbled, meant, read_name, read_report_lem, read_tick, read_kind_lem, read_call, kind_of, answer_to}
use Rattle.model.proofs.Lists.Tests.{to_true, from_true}
use Rattle.model.specs.Lines.{kind_in, is_known, Said, refuses, call_says, LinesSaySo}

-- the first byte is the kind of the call that is read

got : (b : Bool) (x c : Call) → cond b (meant x) garbled ≡ meant c → kind_of c ≡ kind_of x
got true x c e = let p : x ≡ c = cc in ap kind_of (sym p)
got false x c e = absurd (let z : ◌≡◌ {A = ℕ} 0 1 = cc in omega arith)

step : (k j : ℕ) (x y : Read Call) (c : Call) → (x ≡ meant c → kind_of c ≡ j) → (y ≡ meant c → k ≡ kind_of c) → cond (eqb k j) x y ≡ meant c → k ≡ kind_of c
step k j x y c f g = pick (eqb k j) refl
  where
    pick : (b : Bool) → eqb k j ≡ b → cond b x y ≡ meant c → k ≡ kind_of c
    pick true e h = eqb-true k j e ∙ sym (f h)
    pick false e h = g h

pub kind_read : (bs : Bytes) (c : Call) → read_call bs ≡ meant c → kind_in bs ≡ kind_of c
kind_read [] c e = absurd (let z : ◌≡◌ {A = ℕ} 0 1 = cc in omega arith)
kind_read (k ∷ bs) c e = one e
  where
    other : garbled ≡ meant c → k ≡ kind_of c
    other h = absurd (let z : ◌≡◌ {A = ℕ} 0 1 = cc in omega arith)

    seven : cond (eqb k 7) (read_report_lem bs) (cond (eqb k 8) (read_tick bs) (cond (eqb k 9) (read_name Show bs) garbled)) ≡ meant c → k ≡ kind_of c
    seven = step k 7 _ _ c (got _ _ c) (step k 8 _ _ c (got _ _ c) (step k 9 _ _ c (got _ _ c) other))

    one : read_kind_lem k bs ≡ meant c → k ≡ kind_of c
    one = step k 1 _ _ c (got _ _ c) (step k 2 _ _ c (got _ _ c) (step k 3 _ _ c (got _ _ c) (step k 4 _ _ c (got _ _ c) (step k 5 _ _ c (got _ _ c) (step k 6 _ _ c (got _ _ c) seven)))))

-- each call has a known kind, and the one that tells the time is 8
pub known : (c : Call) → is_known (kind_of c) ≡ true
known (SetJob n a c l m) = refl
known (EndJob n) = refl
known (AddMachine k c m t) = refl
known (Close k) = refl
known (Reopen k) = refl
known (Forget k) = refl
known (Report k l n xs) = refl
known (Tick t) = refl
known (Show n) = refl

pub tick : (c : Call) → eqb (kind_of c) 8 ≡ is_tick c
tick (SetJob n a c l m) = refl
tick (EndJob n) = refl
tick (AddMachine k c m t) = refl
tick (Close k) = refl
tick (Reopen k) = refl
tick (Forget k) = refl
tick (Report k l n xs) = refl
tick (Tick t) = refl
tick (Show n) = refl

-- what is answered, by the tests that are made
abbrev Says : (ℕ → Bool) → Call → State → Said → Type 0
Says built c s x = (r : Reply) × Answers (λ y. built (kind_of y)) c s r x.state × (x.answer ≡ answer_to c r)

pub lines_say_so_lem : LinesSaySo
lines_say_so_lem built bs c s e = rw (k, known c) (pick (built (kind_of c)) refl)
  where
    k : kind_in bs ≡ kind_of c
    k = kind_read bs c e

    -- a call before its time is refused by 10 in either way of saying it
    early : (b : Bool) → (eqb s.now 0 && not (is_tick c)) ≡ b → T (built (kind_of c)) → Says built c s (cond b (refuses 10 s) (call_says (read_call bs) s))
    early true t y =
        let d : does c s ≡ no 10 s = rw t in
        subst (λ (o : Out). (r : Reply) × Answers (λ z. built (kind_of z)) c s r o.state × (answer_to c o.reply ≡ answer_to c r)) d ((does c s).reply, says_so c s y, refl)
    early false t y = rw e ((does c s).reply, says_so c s y, refl)

    pick : (b : Bool) → built (kind_of c) ≡ b → Says built c s (cond (not b) (refuses 12 s) (cond (eqb s.now 0 && not (eqb (kind_of c) 8)) (refuses 10 s) (call_says (read_call bs) s)))
    pick true t = rw (tick c) (early (eqb s.now 0 && not (is_tick c)) refl (from_true _ t))
    pick false t = (No 12, not_yet c s (λ y. let f = to_true _ y in let z : true ≡ false = sym f ∙ t in true≢false z), refl)
