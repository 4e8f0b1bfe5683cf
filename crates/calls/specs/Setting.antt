-- What setting a job does to the rows, up to the pass.
-- Assumes nothing.
use Rattle.std.specs.Prelude.{◌≡◌, ℕ, List, length, Ok, Err, Result}
use Rattle.model.specs.State as s
use Rattle.model.specs.State.{with_jobs}
use Rattle.model.specs.Calls.{Call, Out, SetJob, no, sets_job, yes'}
use Rattle.jobs.specs.Tables.{state_of}
use Rattle.calls.specs.declared.answer.Refusal.{Refusal}
use Rattle.calls.specs.declared.call.Wanted.{Wanted}
use Rattle.calls.specs.Answers.{number_of}
use Rattle.calls.specs.Meaning.{like_of}

-- the state in home' is the one in which the pass begins that ends what f does
pub record Begins (f : s.State → Out) (home home' : List ℕ) : Type 0 where
  pub acts : (live : List ℕ) (time : ℕ) → f (state_of home live time) ≡ yes' (state_of home' live time)
  pub only : (js : List s.Job) × ((live : List ℕ) (time : ℕ) → state_of home' live time ≡ with_jobs js (state_of home live time))
  pub long : length home' ≡ length home

-- what f refuses is refused by its number, and no word has changed
pub record Refuses (f : s.State → Out) (k : ℕ) (home home' : List ℕ) : Type 0 where
  pub acts : (live : List ℕ) (time : ℕ) → f (state_of home live time) ≡ no k (state_of home live time)
  pub same : home' ≡ home

abbrev pub DoneAs : (s.State → Out) → (home home' : List ℕ) → Result (Unit {0}) Refusal → Type 0
DoneAs f home home' (Ok u) = Begins f home home'
DoneAs f home home' (Err e) = Refuses f (number_of e) home home'

-- setting a job, beside those of its name that are there
abbrev pub sets_as : s.Job → List s.Job → s.State → Out
sets_as j js = sets_job j.name j.spec j.count j.least j.most js

abbrev pub set_call : Wanted → Call
set_call w = SetJob w.name.now (like_of w.like) w.count w.least w.most
