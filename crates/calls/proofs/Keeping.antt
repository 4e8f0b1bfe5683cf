-- What a call leaves is sound again.
-- Assumes nothing.
use Rattle.std.proofs.Common.{◌≡◌, ℕ, true, List, sym, refl, subst, Bor}
use Rattle.model.specs.State.{State}
use Rattle.model.specs.Calls as m
use Rattle.model.proofs.Settles.{Fine}
use Rattle.model.proofs.Acts.Outcomes.{acts_is, must_settle}
use Rattle.model.proofs.Acts.Good.{fine_pre, fine_settle}
use Rattle.calls.specs.declared.answer.Answer.{Answer}
use Rattle.calls.specs.declared.answer.Answer.TheVariants.{Lines}
use Rattle.calls.specs.Acted.{Acted}
use Rattle.calls.specs.Sound.{sound_words}
use Rattle.jobs.specs.Tables.{state_of}
use Rattle.calls.proofs.Soundness.{sound_fine, fine_sound}

pub fine_acts : (c : m.Call) (s : State) → Fine s → Fine (m.acts c s).state
fine_acts c s f = acts_is (λ (o : m.Out). Fine o.state) c s (λ k. f) (must_settle Fine fine_settle c s f (fine_pre c s f))

pub acted_sound : (c : m.Call) (home live : List ℕ) (time : ℕ) (a : Answer) (home' live' : List ℕ) (time' : ℕ) → Acted c home live time a home' live' time' → sound_words home ≡ true → sound_words home' ≡ true
acted_sound c home live time a home' live' time' h e = fine_sound home' live' time' (subst Fine (sym h.state) (fine_acts c (state_of home live time) (sound_fine home live time e)))

pub shown : (n : Bor (List ℕ)) (home live : List ℕ) (time : ℕ) → Acted (m.Show n.now) home live time (Lines n) home live time
unfolding m.acts
shown n home live time = record { state = refl; answer = refl; refused = λ e. (refl, refl, refl) }
