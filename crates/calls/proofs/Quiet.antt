-- What isn't a showing isn't answered by one: where its answer says that nothing has changed, it was refused.
-- Assumes nothing.
use Rattle.std.proofs.Common.{◌≡◌, ℕ, List, refl}
use Rattle.model.specs.State.{Spec, State}
use Rattle.model.specs.Calls as m
use Rattle.model.specs.Wire as w
use Rattle.model.proofs.Acts.Outcomes.{Must, acts_is}
use Rattle.calls.specs.declared.answer.Answer.{Answer}
use Rattle.calls.specs.declared.answer.Answer.TheVariants.{TurnedAway, Yes, Run, Lines}
use Rattle.calls.specs.Acted.{Acted}
use Rattle.calls.specs.Handled.{Performed}
use Rattle.jobs.specs.Tables.{state_of}

-- it is not what a showing is answered with
abbrev NotShown : m.Call → m.Out → Type 0
NotShown c o = (ls : List m.Line) → w.Shown ls ≡ w.answer_to c o.reply → ⊥

never_shown : (c : m.Call) (s : State) → Must (NotShown c) c s → NotShown c (m.acts c s)
never_shown c s h = acts_is (NotShown c) c s (λ k ls e. cc) h

performed : (c : m.Call) (home live : List ℕ) (time : ℕ) (a : Answer) (home' live' : List ℕ) (time' : ℕ) → Must (NotShown c) c (state_of home live time) → Acted c home live time a home' live' time' → Performed c home live time a home' live' time'
performed c home live time (TurnedAway r) home' live' time' f h = record { acted = h; quiet = λ e. h.refused refl }
performed c home live time Yes home' live' time' f h = record { acted = h; quiet = λ e. cc }
performed c home live time (Run a) home' live' time' f h = record { acted = h; quiet = λ e. cc }
performed c home live time (Lines n) home' live' time' f h = record { acted = h; quiet = λ e. absurd (never_shown c (state_of home live time) f _ h.answer) }

-- the calls that are built
module _ (home live : List ℕ) (time : ℕ) (answer : Answer) (home' live' : List ℕ) (time' : ℕ) where
  pub set_performed : (n : List ℕ) (a : Spec) (k l g : ℕ) → Acted (m.SetJob n a k l g) home live time answer home' live' time' → Performed (m.SetJob n a k l g) home live time answer home' live' time'
  set_performed n a k l g h = performed (m.SetJob n a k l g) home live time answer home' live' time' (λ e ls z. cc, λ j js e ls z. cc) h

  pub add_performed : (k c g : ℕ) (tags : List ℕ) → Acted (m.AddMachine k c g tags) home live time answer home' live' time' → Performed (m.AddMachine k c g tags) home live time answer home' live' time'
  add_performed k c g tags h = performed (m.AddMachine k c g tags) home live time answer home' live' time' (λ e ls z. cc) h

  pub report_performed : (k l n : ℕ) (xs : List m.Seen) → Acted (m.Report k l n xs) home live time answer home' live' time' → Performed (m.Report k l n xs) home live time answer home' live' time'
  report_performed k l n xs h = performed (m.Report k l n xs) home live time answer home' live' time' (λ j js e g ls z. cc) h

  pub tick_performed : (t : ℕ) → Acted (m.Tick t) home live time answer home' live' time' → Performed (m.Tick t) home live time answer home' live' time'
  tick_performed t h = performed (m.Tick t) home live time answer home' live' time' (λ ls z. cc) h
