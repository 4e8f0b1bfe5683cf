-- What a line is answered and what it leaves: a refusal and nothing, or what its call says.
-- Assumes nothing.
use Rattle.std.proofs.Common.{◌≡◌, ℕ, ◌≤◌, Bool, true, false, cond, not, ◌&&◌, ◌||◌, eqb, ltb, ◌⊎◌, List, length, sym, refl, ap, ◌∙◌, subst, inl, inr}
use Rattle.std.proofs.lemmas.Bool.{cond_both, or_parts, ltb-false, eqb-true}
use Rattle.model.specs.Lists.{keep}
use Rattle.model.specs.State.{Machine, State, is_machine, on_machine}
use Rattle.model.specs.Settle.{settle}
use Rattle.model.specs.Calls.{Seen, Call, SetJob, EndJob, AddMachine, Close, Reopen, Forget, Report, Tick, Show, Order, Reply, No, Yes, Run, Lines, Out, orders, heard, does}
use Rattle.model.specs.Promise.{Answers}
use Rattle.model.specs.Wire.{Bytes, Read, garbled, meant, read_call, kind_of, Answer, Refused, Runs, answer_to}
use Rattle.model.specs.Answers.{is_runs}
use Rattle.model.specs.Lines.{core_kind, kind_in, is_known, Said, refuses, call_says, bytes_say}
use Rattle.model.proofs.Lists.{never, In, find_in, to_true}
use Rattle.model.proofs.Acts.{Must, does_is, does_when}
use Rattle.lines.proofs.Saying.{lines_say_so_lem}
use Rattle.together.specs.Real.{from_person}

-- OF A CALL'S BYTES
pub data Outcome (bs : Bytes) (s : State) (o : Said) : Type 0 where
  quiet : (k : ℕ) → o.answer ≡ Refused k → o.state ≡ s → Outcome bs s o
  done : (c : Call) → read_call bs ≡ meant c → core_kind (kind_of c) ≡ true → o.answer ≡ answer_to c (does c s).reply → o.state ≡ (does c s).state → Outcome bs s o

answers_are : {can : Call → Bool} {c : Call} {s t : State} {r : Reply} → Answers can c s r t → ((can c ≡ true) × (r ≡ (does c s).reply) × (t ≡ (does c s).state)) ⊎ ((r ≡ No 12) × (t ≡ s))
answers_are (Answers.says_so c s h) = inl (to_true _ h, refl, refl)
answers_are (Answers.not_yet c s h) = inr (refl, refl)

pub outcome : (bs : Bytes) (s : State) → Outcome bs s (bytes_say core_kind bs s)
outcome bs s = pick (read_call bs) refl
  where
    pick : (a : Read Call) → read_call bs ≡ a → Outcome bs s (bytes_say core_kind bs s)
    pick garbled e =
        cond_both (is_known (kind_in bs) && not (core_kind (kind_in bs))) (refuses 12 s) (cond (eqb s.now 0 && not (eqb (kind_in bs) 8)) (refuses 10 s) (call_says (read_call bs) s)) (Outcome bs s) (λ _. quiet 12 refl refl)
        (λ _. cond_both (eqb s.now 0 && not (eqb (kind_in bs) 8)) (refuses 10 s) (call_says (read_call bs) s) (Outcome bs s) (λ _. quiet 10 refl refl) (λ _. subst (λ (a : Read Call). Outcome bs s (call_says a s)) (sym e) (quiet 1 refl refl)))
    pick (meant c) e = let p = lines_say_so_lem core_kind bs c s e in said (answers_are p.1) p.2
      where
        said : {r : Reply} → ((core_kind (kind_of c) ≡ true) × (r ≡ (does c s).reply) × ((bytes_say core_kind bs s).state ≡ (does c s).state)) ⊎ ((r ≡ No 12) × ((bytes_say core_kind bs s).state ≡ s)) → (bytes_say core_kind bs s).answer ≡ answer_to c r → Outcome bs s (bytes_say core_kind bs s)
        said (inl q) a = done c e q.0 (a ∙ ap (answer_to c) q.1) q.2
        said (inr q) a = quiet 12 (a ∙ ap (answer_to c) q.0 ∙ no_is c) q.1
          where
            no_is : (d : Call) → answer_to d (No 12) ≡ Refused 12
            no_is (SetJob n x k l m) = refl
            no_is (EndJob n) = refl
            no_is (AddMachine i x m t) = refl
            no_is (Close i) = refl
            no_is (Reopen i) = refl
            no_is (Forget i) = refl
            no_is (Report i l n xs) = refl
            no_is (Tick t) = refl
            no_is (Show n) = refl

-- ONLY A REPORT is answered by what is to run
pub not_runs : (c : Call) (a : Reply) → ((n : ℕ) (os : List Order) → a ≡ Run n os → ⊥) → is_runs (answer_to c a) ≡ false
not_runs c (Run n os) q = absurd (q n os refl)
not_runs (SetJob x b k l m) (No n) q = refl
not_runs (EndJob x) (No n) q = refl
not_runs (AddMachine i x m t) (No n) q = refl
not_runs (Close i) (No n) q = refl
not_runs (Reopen i) (No n) q = refl
not_runs (Forget i) (No n) q = refl
not_runs (Report i l k xs) (No n) q = refl
not_runs (Tick t) (No n) q = refl
not_runs (Show x) (No n) q = refl
not_runs (SetJob x b k l m) Yes q = refl
not_runs (EndJob x) Yes q = refl
not_runs (AddMachine i x m t) Yes q = refl
not_runs (Close i) Yes q = refl
not_runs (Reopen i) Yes q = refl
not_runs (Forget i) Yes q = refl
not_runs (Report i l k xs) Yes q = refl
not_runs (Tick t) Yes q = refl
not_runs (Show x) Yes q = refl
not_runs (SetJob x b k l m) (Lines ls) q = refl
not_runs (EndJob x) (Lines ls) q = refl
not_runs (AddMachine i x m t) (Lines ls) q = refl
not_runs (Close i) (Lines ls) q = refl
not_runs (Reopen i) (Lines ls) q = refl
not_runs (Forget i) (Lines ls) q = refl
not_runs (Report i l k xs) (Lines ls) q = refl
not_runs (Tick t) (Lines ls) q = refl
not_runs (Show x) (Lines ls) q = refl

abbrev NoRun : Out → Type 0
NoRun o = (n : ℕ) (os : List Order) → o.reply ≡ Run n os → ⊥

pub no_run : (c : Call) (s : State) → from_person c ≡ true → (n : ℕ) (os : List Order) → (does c s).reply ≡ Run n os → ⊥
no_run c s e = does_is NoRun c s (λ k n os q. never (cc)) (must c e)
  where
    must : (d : Call) → from_person d ≡ true → Must NoRun d s
    must (SetJob n a c' l m) q = (λ z n' os h. never (cc), λ j js z n' os h. never (cc))
    must (EndJob n) q = λ n' os h. never (cc)
    must (AddMachine k c' m t) q = λ z n' os h. never (cc)
    must (Close k) q = λ n' os h. never (cc)
    must (Reopen k) q = λ n' os h. never (cc)
    must (Forget k) q = λ n' os h. never (cc)
    must (Report k l n xs) q = never (let z : false ≡ true = q in cc)
    must (Tick t) q = λ n' os h. never (cc)
    must (Show n) q = λ n' os h. never (cc)

pub no_run_forget : (i : ℕ) (s : State) → (n : ℕ) (os : List Order) → (does (Forget i) s).reply ≡ Run n os → ⊥
no_run_forget i s = does_is NoRun (Forget i) s (λ k n os q. never (cc)) (λ n os q. never (cc))

-- A REPORT THAT IS ANSWERED: its numbers are in range, the herd has its machine, and what is ordered is on it
pub record Taken (i l n : ℕ) (s t : State) (q : ℕ) (os : List Order) : Type 0 where
  pub life : l ≤ 4611686018427387904
  pub number : n ≤ 4611686018427387904
  pub same : q ≡ n
  pub machine : Machine
  pub there : In machine s.machines
  pub num : machine.num ≡ i
  pub orders : os ≡ orders (keep (on_machine i) t.tasks)

pub taken : (i l n : ℕ) (xs : List Seen) (s : State) (q : ℕ) (os : List Order) → (does (Report i l n xs) s).reply ≡ Run q os → Taken i l n s (does (Report i l n xs) s).state q os
taken i l n xs s = does_when P (Report i l n xs) s (λ k q os e. never (cc)) must
  where
    P : Out → Type 0
    P o = (q : ℕ) (os : List Order) → o.reply ≡ Run q os → Taken i l n s o.state q os

    u : State
    u = settle (heard i l n xs s)

    must : (ltb 4611686018427387904 l || ltb 4611686018427387904 n || ltb 2048 (length xs)) ≡ false → Must P (Report i l n xs) s
    must t m ms e g q os r =
        let p = or_parts (ltb 4611686018427387904 l || ltb 4611686018427387904 n) (ltb 2048 (length xs)) t in let v = or_parts (ltb 4611686018427387904 l) (ltb 4611686018427387904 n) p.0 in
        let f = find_in (is_machine i) s.machines m ms e in
        let k : ◌≡◌ {A = Reply} (Run n (orders (keep (on_machine i) u.tasks))) (Run q os) = r in
        let a : n ≡ q = cc in let b : orders (keep (on_machine i) u.tasks) ≡ os = cc in
        record { life = ltb-false _ _ v.0; number = ltb-false _ _ v.1; same = sym a; machine = m; there = f.0; num = sym (eqb-true i m.num f.1); orders = sym b }

-- WHAT IS ANSWERED WITH WHAT IS TO RUN is a report, and the herd heard it
pub record Reported (i l n : ℕ) (os : List Order) (bs : Bytes) (s t : State) : Type 0 where
  pub seens : List Seen
  pub says : read_call bs ≡ meant (Report i l n seens)
  pub reply : (does (Report i l n seens) s).reply ≡ Run n os
  pub state : t ≡ (does (Report i l n seens) s).state

no_runs : {C : Type 0} {a b : Answer} → a ≡ b → is_runs a ≡ false → is_runs b ≡ true → C
no_runs e p q = let z : false ≡ true = sym p ∙ ap is_runs e ∙ q in never (cc)

pub reported_by : (bs : Bytes) (s : State) (i l n : ℕ) (os : List Order) → (bytes_say core_kind bs s).answer ≡ Runs i l n os → Reported i l n os bs s (bytes_say core_kind bs s).state
reported_by bs s i l n os h = pick (outcome bs s)
  where
    T' : State
    T' = (bytes_say core_kind bs s).state

    by_reply : (i' l' n' : ℕ) (xs : List Seen) → read_call bs ≡ meant (Report i' l' n' xs) → T' ≡ (does (Report i' l' n' xs) s).state → (r : Reply) → (does (Report i' l' n' xs) s).reply ≡ r → answer_to (Report i' l' n' xs) r ≡ Runs i l n os → Reported i l n os bs s T'
    by_reply i' l' n' xs e t (Run q ps) a g =
        let k = taken i' l' n' xs s q ps a in let z = k.same in
        let ei : i' ≡ i = cc in let el : l' ≡ l = cc in let en : n' ≡ n = cc in let eo : ps ≡ os = cc in
        let c : Report i' l' n' xs ≡ Report i l n xs = (λ j. Report (ei j) (el j) (en j) xs) in
        record { seens = xs; says = e ∙ ap meant c; reply = ap (λ (x : Call). (does x s).reply) (sym c) ∙ a ∙ (λ j. Run ((z ∙ en) j) (eo j)); state = t ∙ ap (λ (x : Call). (does x s).state) c }
    by_reply i' l' n' xs e t (No q) a g = no_runs g refl refl
    by_reply i' l' n' xs e t Yes a g = no_runs g refl refl
    by_reply i' l' n' xs e t (Lines ls) a g = no_runs g refl refl

    by_call : (c : Call) → read_call bs ≡ meant c → answer_to c (does c s).reply ≡ Runs i l n os → T' ≡ (does c s).state → Reported i l n os bs s T'
    by_call (Report i' l' n' xs) e g t = by_reply i' l' n' xs e t (does (Report i' l' n' xs) s).reply refl g
    by_call (Forget k) e g t = no_runs g (not_runs (Forget k) _ (no_run_forget k s)) refl
    by_call (SetJob x b k p m) e g t = no_runs g (not_runs (SetJob x b k p m) _ (no_run (SetJob x b k p m) s refl)) refl
    by_call (EndJob x) e g t = no_runs g (not_runs (EndJob x) _ (no_run (EndJob x) s refl)) refl
    by_call (AddMachine j x m p) e g t = no_runs g (not_runs (AddMachine j x m p) _ (no_run (AddMachine j x m p) s refl)) refl
    by_call (Close j) e g t = no_runs g (not_runs (Close j) _ (no_run (Close j) s refl)) refl
    by_call (Reopen j) e g t = no_runs g (not_runs (Reopen j) _ (no_run (Reopen j) s refl)) refl
    by_call (Tick p) e g t = no_runs g (not_runs (Tick p) _ (no_run (Tick p) s refl)) refl
    by_call (Show x) e g t = no_runs g (not_runs (Show x) _ (no_run (Show x) s refl)) refl

    pick : Outcome bs s (bytes_say core_kind bs s) → Reported i l n os bs s T'
    pick (Outcome.quiet k a t) = no_runs (sym a ∙ h) refl refl
    pick (Outcome.done c e k a t) = by_call c e (sym a ∙ h) t
