-- The answer in memory is what the meaning of lines says.
-- Assumes nothing.
use Rattle.std.proofs.Common.{◌≡◌, ℕ, Bool, true, false, not, ◌&&◌, eqb, sym, refl, ap, ◌∙◌, subst}
use Rattle.std.proofs.lemmas.Bool.{cond-false, true≢false}
use Rattle.model.specs.State.{State}
use Rattle.model.specs.Calls as m
use Rattle.model.specs.Wire.{Bytes, Read, garbled, meant, read_call, kind_of, answer_to}
use Rattle.model.specs.Lines.{Said, core_kind, kind_in, refuses, call_says, bytes_say}
use Rattle.calls.specs.declared.answer.Answer.{Answer}
use Rattle.calls.specs.declared.answer.Answer.TheVariants.{TurnedAway}
use Rattle.calls.specs.declared.answer.Refusal.{Refusal}
use Rattle.calls.specs.declared.answer.Refusal.TheVariants.{Malformed}
use Rattle.calls.specs.Answers.{number_of}
use Rattle.calls.specs.Handled.{Performed, PerformedIf, Handled}
use Rattle.lines.specs.Overlong.{Undoable}
use Rattle.lines.proofs.Saying.{kind_read, known, tick}
use Rattle.serving.specs.Bars.{unbuilt, untimed}
use Rattle.serving.specs.Herd.{Held, state_in}
use Rattle.serving.specs.Responds.{Responds}
use Rattle.serving.proofs.Barring.{says_call}

-- turned away: nothing has changed
pub refused : (bs : Bytes) (x : Held) (e : Refusal) → bytes_say core_kind bs (state_in x) ≡ refuses (number_of e) (state_in x) → Responds bs x (TurnedAway e) x
refused bs x e h = record { state = sym (ap (λ (o : Said). o.state) h); answer = sym (ap (λ (o : Said). o.answer) h); quiet = λ t. refl }

-- a call in its time is done as it means
does_acts : (c : m.Call) (s : State) → untimed (kind_of c) s.now ≡ false → m.does c s ≡ m.acts c s
does_acts c s f = cond-false (eqb s.now 0 && not (m.is_tick c)) _ _ (ap (λ (b : Bool). eqb s.now 0 && not b) (sym (tick c)) ∙ f)

core_kind_lem : (c : m.Call) → core_kind (kind_of c) ≡ m.core c
core_kind_lem (m.SetJob n a c l k) = refl
core_kind_lem (m.EndJob n) = refl
core_kind_lem (m.AddMachine k c l t) = refl
core_kind_lem (m.Close k) = refl
core_kind_lem (m.Reopen k) = refl
core_kind_lem (m.Forget k) = refl
core_kind_lem (m.Report k l n xs) = refl
core_kind_lem (m.Tick t) = refl
core_kind_lem (m.Show n) = refl

-- a kind that isn't turned away unread is built, if it is known
is_built : (c : m.Call) → unbuilt (kind_of c) ≡ false → m.core c ≡ true
is_built c e = sym (core_kind_lem c) ∙ pick (core_kind (kind_of c)) (ap (λ (b : Bool). b && not (core_kind (kind_of c))) (sym (known c)) ∙ e)
  where
    pick : (b : Bool) → (true && not b) ≡ false → b ≡ true
    pick true h = refl
    pick false h = absurd (true≢false h)

module _ (bs : Bytes) (x : Held) (kind : ℕ) (k : kind ≡ kind_in bs) (built : unbuilt kind ≡ false) (timely : untimed kind x.time ≡ false) where
  says : bytes_say core_kind bs (state_in x) ≡ call_says (read_call bs) (state_in x)
  says = says_call bs (state_in x) kind x.time k refl built timely

  pub unread : read_call bs ≡ garbled → Responds bs x (TurnedAway Malformed) x
  unread e = refused bs x Malformed (says ∙ ap (λ (r : Read m.Call). call_says r (state_in x)) e)

  module _ (c : m.Call) (e : read_call bs ≡ meant c) where
    kind_is : kind ≡ kind_of c
    kind_is = k ∙ kind_read bs c e

    call_says_lem : bytes_say core_kind bs (state_in x) ≡ record { answer = answer_to c (m.acts c (state_in x)).reply; state = (m.acts c (state_in x)).state }
    call_says_lem =
        let d = does_acts c (state_in x) (ap (λ (n : ℕ). untimed n x.time) (sym kind_is) ∙ timely) in
        says ∙ ap (λ (r : Read m.Call). call_says r (state_in x)) e ∙ ap (λ (o : m.Out). record { answer = answer_to c o.reply; state = o.state }) d

    pub responded : (y : Held) (a : Answer) → Handled c x.home x.live x.time a y.home y.live y.time → Responds bs x a y
    responded y a h =
        let b : m.core c ≡ true = is_built c (ap unbuilt (sym kind_is) ∙ built) in
        let d : Performed c x.home x.live x.time a y.home y.live y.time = subst (λ (z : Bool). PerformedIf z c x.home x.live x.time a y.home y.live y.time) b h in
        record {
          state = d.acted.state ∙ sym (ap (λ (o : Said). o.state) call_says_lem);
          answer = d.acted.answer ∙ sym (ap (λ (o : Said). o.answer) call_says_lem);
          quiet = λ t. let q = d.quiet t in λ i. record { home = q.0 i; live = q.1 i; time = q.2 i };
        }

  -- whatever a line is that is longer than is held, it can't be done
  pub overlong : Undoable bs → Responds bs x (TurnedAway Malformed) x
  overlong u = pick (read_call bs) refl
    where
      pick : (r : Read m.Call) → read_call bs ≡ r → Responds bs x (TurnedAway Malformed) x
      pick garbled e = unread e
      pick (meant c) e = refused bs x Malformed (call_says_lem c e ∙ ap (λ (o : m.Out). record { answer = answer_to c o.reply; state = o.state }) (u c e (state_in x)))
