-- A line comes to the herd: in the other world its call is said, or nothing is; and what is answered bears what was said there.
-- Assumes nothing.
use Rattle.std.proofs.Common.{◌≡◌, ℕ, ◌<◌, true, false, ◌&&◌, ltb, ◌⊎◌, List, ◌∷◌, length, sym, refl, ap, ◌∙◌, subst, subst₂, inl, inr, arith}
use mathlib.Core.List.{Memᴰ}
use Rattle.std.proofs.lemmas.Bool.{and_from, lt-ltb}
use Rattle.model.specs.Lists.{every, keep}
use Rattle.model.specs.State.{Machine, State, on_machine}
use Rattle.model.specs.Calls.{Seen, Call, SetJob, EndJob, AddMachine, Close, Reopen, Forget, Report, Tick, Show, Order, Reply, No, Yes, Run, Lines, orders, does}
use Rattle.model.specs.World.{Agent, Word, Up, Back, World, Step, Reach}
use Rattle.model.specs.Wire.{Bytes, meant, read_call, Answer, Refused, Runs, answer_to, answer_bytes}
use Rattle.model.specs.Answers.{long, order_fits, runs_fit_lem}
use Rattle.model.specs.Lines.{core_kind, call_in, Said, bytes_say}
use Rattle.model.proofs.Lists.{never, In, in_from, in_to, to_true}
use Rattle.wire.specs.Fits.{brief}
use Rattle.together.specs.Real.{Body, Comes, from_person}
use Rattle.together.specs.Telling.{Carried, Rested, Bodied}
use Rattle.together.proofs.Says.{Outcome, outcome, not_runs, no_run, no_run_forget, Taken, taken}
use Rattle.together.proofs.Bearing.{carried_more, carried_answer, carried_runs}
use Rattle.together.proofs.Turning.{world, Same}

-- what a call is that no person says
person_not : (c : Call) → from_person c ≡ true → ((k l n : ℕ) (xs : List Seen) → c ≡ Report k l n xs → ⊥) × ((k : ℕ) → c ≡ Forget k → ⊥)
person_not c e = (λ k l n xs q. let z : false ≡ true = sym (ap from_person q) ∙ e in never (cc), λ k q. let z : false ≡ true = sym (ap from_person q) ∙ e in never (cc))

abbrev pub Lined : List Bytes → List Word → Type 0
Lined bs ws = (b : Bytes) → Memᴰ b bs → Carried (call_in b) ws

pub lined_more : (bs : List Bytes) (x : Word) (ws : List Word) → Lined bs ws → Lined bs (x ∷ ws)
lined_more bs x ws h b m = carried_more (call_in b) x ws (h b m)

pub lined_cons : (r : Bytes) (bs : List Bytes) (ws : List Word) → Carried (call_in r) ws → Lined bs ws → Lined (r ∷ bs) ws
lined_cons r bs ws c h b m = pick (in_from m)
  where
    pick : (b ≡ r) ⊎ In b bs → Carried (call_in b) ws
    pick (inl e) = subst (λ (x : Bytes). Carried (call_in x) ws) (sym e) c
    pick (inr j) = h b (in_to b bs j)

-- the tasks of the state can be listed in an answer
abbrev pub Listable : State → Type 0
Listable t = (k : ℕ) → (length (orders (keep (on_machine k) t.tasks)) < 65536) × (every order_fits (orders (keep (on_machine k) t.tasks)) ≡ true)

pub record Next (f : ℕ → Agent) (was : List Word) (bs : List Bytes) (a : Answer) (t : State) : Type 0 where
  pub words : List Word
  pub backs : (i l n : ℕ) (os : List Order) → Memᴰ (Back i l n os) words → Memᴰ (Back i l n os) was ⊎ (a ≡ Runs i l n os)
  pub reached : Reach (world t f words)
  pub lines : Lined bs words
  pub reply : Listable t → Carried (answer_bytes a) words

module _ (s : State) (g : ℕ → Body) (f : ℕ → Agent) (ws : List Word) (bs : List Bytes) (same : Same g f) (r : Reach (world s f ws)) (h : Lined bs ws) (low : (m : Machine) → In m s.machines → m.num < 65536) where
  turned_away : (k : ℕ) → Next f ws bs (Refused k) s
  turned_away k = record { words = ws; backs = λ i' l' n' os' p. inl p; reached = r; lines = h; reply = λ l. carried_answer (Refused k) ws refl }

  is_said : (c : Call) → from_person c ≡ true → Next f ws bs (answer_to c (does c s).reply) (does c s).state
  is_said c e =
      let p = person_not c e in
      record { words = ws; backs = λ i' l' n' os' p. inl p; reached = Reach.then r (Step.says (world s f ws) c p.0 p.1); lines = h; reply = λ l. carried_answer _ ws (not_runs c (does c s).reply (no_run c s e)) }

  is_forgotten : (i d : ℕ) → Rested (f i) d → Next f ws bs (answer_to (Forget i) (does (Forget i) s).reply) (does (Forget i) s).state
  is_forgotten i d q =
      record { words = ws; backs = λ i' l' n' os' p. inl p; reached = Reach.then r (Step.forgets_off (world s f ws) i q.number q.ordered q.runs); lines = h; reply = λ l. carried_answer _ ws (not_runs (Forget i) (does (Forget i) s).reply (no_run_forget i s)) }

  is_reported : (i l n : ℕ) (xs : List Seen) → Memᴰ (Up i l n xs) ws → Next f ws bs (answer_to (Report i l n xs) (does (Report i l n xs) s).reply) (does (Report i l n xs) s).state
  is_reported i l n xs u = pick (does (Report i l n xs) s).reply refl
    where
      w : World
      w = world s f ws

      t : State
      t = (does (Report i l n xs) s).state

      unheeded : (a : Reply) → (does (Report i l n xs) s).reply ≡ a → ((q : ℕ) (os : List Order) → a ≡ Run q os → ⊥) → Next f ws bs (answer_to (Report i l n xs) a) t
      unheeded a e z = record { words = ws; backs = λ i' l' n' os' p. inl p; reached = Reach.then r (Step.hears_not w i l n xs u (λ q os p. z q os (sym e ∙ p))); lines = h; reply = λ v. carried_answer _ ws (not_runs (Report i l n xs) a z) }

      fits : (q : ℕ) (os : List Order) → Taken i l n s t q os → Listable t → runs_fit_lem i l q os ≡ true
      fits q os k v =
          let b : i < 65536 = subst (λ (j : ℕ). j < 65536) k.num (low k.machine k.there) in let c = k.life in let d = k.number in let e = k.same in
          let y : (length os < 65536) × (every order_fits os ≡ true) = subst (λ (zs : List Order). (length zs < 65536) × (every order_fits zs ≡ true)) (sym k.orders) (v i) in
          and_from (brief i && long l && long q && ltb (length os) 65536) (every order_fits os)
          (and_from (brief i && long l && long q) (ltb (length os) 65536) (and_from (brief i && long l) (long q) (and_from (brief i) (long l) (lt-ltb i 65536 b) (lt-ltb l 18446744073709551616 (omega arith))) (lt-ltb q 18446744073709551616 (omega arith))) (lt-ltb (length os) 65536 y.0)) y.1

      pick : (a : Reply) → (does (Report i l n xs) s).reply ≡ a → Next f ws bs (answer_to (Report i l n xs) a) t
      pick (No q) e = unheeded (No q) e (λ q' os p. never (cc))
      pick Yes e = unheeded Yes e (λ q' os p. never (cc))
      pick (Lines ls) e = unheeded (Lines ls) e (λ q' os p. never (cc))
      pick (Run q os) e =
          record {
            words = Back i l q os ∷ ws;
            backs = λ i' l' n' os' p. new i' l' n' os' (in_from p);
            reached = Reach.then r (Step.hears w i l n xs q os u e);
            lines = lined_more bs (Back i l q os) ws h;
            reply = λ v. carried_runs i l q os _ (fits q os (taken i l n xs s q os e) v) (Memᴰ.head refl);
          }
        where
          new : (i' l' n' : ℕ) (os' : List Order) → (Back i' l' n' os' ≡ Back i l q os) ⊎ In (Back i' l' n' os') ws → Memᴰ (Back i' l' n' os') ws ⊎ (Runs i l q os ≡ Runs i' l' n' os')
          new i' l' n' os' (inl p) = inr (cc)
          new i' l' n' os' (inr p) = inl (in_to (Back i' l' n' os') ws p)

  -- off a line, a call is what was said there
  is_lined : (b : Bytes) → Carried b ws → (c : Call) → read_call b ≡ meant c → Next f ws bs (answer_to c (does c s).reply) (does c s).state
  is_lined b c (SetJob n a q l m) e = is_said (SetJob n a q l m) refl
  is_lined b c (EndJob n) e = is_said (EndJob n) refl
  is_lined b c (AddMachine i q m t) e = is_said (AddMachine i q m t) refl
  is_lined b c (Close i) e = is_said (Close i) refl
  is_lined b c (Reopen i) e = is_said (Reopen i) refl
  is_lined b c (Forget i) e = absurd (c.no_forget i e)
  is_lined b c (Report i l n xs) e = is_reported i l n xs (c.ups i l n xs e)
  is_lined b c (Tick t) e = is_said (Tick t) refl
  is_lined b c (Show n) e = is_said (Show n) refl

  is_done : (b : Bytes) → Comes g bs b → (c : Call) → read_call (call_in b) ≡ meant c → Next f ws bs (answer_to c (does c s).reply) (does c s).state
  is_done b (Comes.person b' p) c e = is_said c (to_true _ (p c e))
  is_done b (Comes.forgets b' i d p o) c e =
      let z : meant (Forget i) ≡ meant c = sym p ∙ e in let q : Forget i ≡ c = cc in
      subst (λ (x : Call). Next f ws bs (answer_to x (does x s).reply) (does x s).state) q (is_forgotten i d (subst (λ (y : Body). Bodied y (f i)) o (same i)))
  is_done b (Comes.line b' m) c e = is_lined (call_in b) (h b m) c e

  pub comes : (b : Bytes) → Comes g bs b → Next f ws bs (bytes_say core_kind (call_in b) s).answer (bytes_say core_kind (call_in b) s).state
  comes b c = pick (outcome (call_in b) s)
    where
      o : Said
      o = bytes_say core_kind (call_in b) s

      pick : Outcome (call_in b) s o → Next f ws bs o.answer o.state
      pick (Outcome.quiet k a t) = subst₂ (λ (x : Answer) (y : State). Next f ws bs x y) (sym a) (sym t) (turned_away k)
      pick (Outcome.done d e k a t) = subst₂ (λ (x : Answer) (y : State). Next f ws bs x y) (sym a) (sym t) (is_done b c d e)
