-- What a call leaves and answers, over the words.
-- Assumes nothing.
use Rattle.std.proofs.Common.{◌≡◌, ℕ, true, is_ok, List, Ok, Err, Result, None, Option, sym, refl, ap, ◌∙◌, subst}
use Rattle.std.specs.Option.{ok_or}
use Rattle.std.proofs.lemmas.Bool.{true≢false}
use Rattle.model.specs.Lists.{keep}
use Rattle.model.specs.State.{State, on_machine}
use Rattle.model.specs.Calls as m
use Rattle.model.specs.Wire as w
use Rattle.jobs.specs.Tables.{state_of}
use Rattle.calls.specs.declared.answer.Refusal.{Refusal}
use Rattle.calls.specs.declared.answer.Answer.TheVariants.{TurnedAway, Yes, Run}
use Rattle.calls.specs.declared.call.Call.TheVariants.{Report}
use Rattle.calls.specs.declared.call.Reported.{Reported}
use Rattle.calls.specs.Acted.{Acted}
use Rattle.calls.specs.Answers.{answer_to_done, number_of}
use Rattle.calls.specs.Meaning.{call_of}

-- `ok_or` and `?` refuse for the reason that was given
pub refused_by : {T : Type 0} (o : Option T) (why d e : Refusal) → o ≡ None → ◌≡◌ {A = Result T Refusal} (Err d) (ok_or o why) → e ≡ d → e ≡ why
refused_by {T} o why d e n v s = let w : ◌≡◌ {A = Result T Refusal} (Err d) (Err why) = v ∙ ap (λ (x : Option T). ok_or x why) n in cc

-- it was refused, and nothing has changed
pub acted_no : (c : m.Call) (home live : List ℕ) (time : ℕ) (e : Refusal) → m.acts c (state_of home live time) ≡ m.no (number_of e) (state_of home live time) → Acted c home live time (TurnedAway e) home live time
acted_no c home live time e h = record { state = sym (ap (λ (o : m.Out). o.state) h); answer = sym (ap (λ (o : m.Out). w.answer_to c o.reply) h); refused = λ t. (refl, refl, refl) }

pub acted_kept : (c : m.Call) (home live home' live' : List ℕ) (time : ℕ) (e : Refusal) → home' ≡ home → live' ≡ live → m.acts c (state_of home live time) ≡ m.no (number_of e) (state_of home live time) → Acted c home live time (TurnedAway e) home' live' time
acted_kept c home live home' live' time e p q h =
    subst (λ (x : List ℕ). Acted c home live time (TurnedAway e) x live' time) (sym p) (subst (λ (x : List ℕ). Acted c home live time (TurnedAway e) home x time) (sym q) (acted_no c home live time e h))

-- it was done, and answered by yes
pub acted_yes : (c : m.Call) (home live home' live' : List ℕ) (time time' : ℕ) (u : State) → m.acts c (state_of home live time) ≡ record { reply = m.Yes; state = u } → state_of home' live' time' ≡ u → Acted c home live time Yes home' live' time'
acted_yes c home live home' live' time time' u h e = record { state = e ∙ sym (ap (λ (o : m.Out). o.state) h); answer = sym (ap (λ (o : m.Out). w.answer_to c o.reply) h); refused = λ t. absurd (true≢false (sym t)) }

pub acted_done : (c : m.Call) (home live home' live' : List ℕ) (time time' : ℕ) (r : Result (Unit {0}) Refusal) (u : State) → is_ok r ≡ true → m.acts c (state_of home live time) ≡ record { reply = m.Yes; state = u } → state_of home' live' time' ≡ u → Acted c home live time (answer_to_done r) home' live' time'
acted_done c home live home' live' time time' (Ok x) u t h e = acted_yes c home live home' live' time time' u h e
acted_done c home live home' live' time time' (Err x) u t h e = absurd (true≢false (sym t))

-- a report was answered
pub acted_run : (r : Reported) (home live home' live' : List ℕ) (time : ℕ) (u : State) → m.acts (call_of (Report r)) (state_of home live time) ≡ m.answers_report r.machine.0 r.number.0 u → state_of home' live' time ≡ u →
    Acted (call_of (Report r)) home live time (Run (record { machine = r.machine; life = r.life; number = r.number })) home' live' time
acted_run r home live home' live' time u h e =
    record {
      state = e ∙ sym (ap (λ (o : m.Out). o.state) h);
      answer = ap (λ (x : State). w.Runs r.machine.0 r.life.0 r.number.0 (m.orders (keep (on_machine r.machine.0) x.tasks))) e ∙ sym (ap (λ (o : m.Out). w.answer_to (call_of (Report r)) o.reply) h);
      refused = λ t. absurd (true≢false (sym t));
    }
