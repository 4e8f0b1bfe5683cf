-- WHAT TELLS OF WHAT: a world as it runs is told of by one that the model reaches.
-- Assumes nothing.
use Rattle.std.specs.Prelude.{◌≡◌, ℕ, ◌+◌, true, ◌⊎◌, List, [], Some, None, ◌≢◌}
use mathlib.Core.List.{Memᴰ}
use Rattle.model.specs.State.{State}
use Rattle.model.specs.Calls.{Seen, Forget, Report, Order}
use Rattle.model.specs.World.{Agent, Word, Up, Back, Reach}
use Rattle.model.specs.Memory.{Stand, asleep, awake}
use Rattle.model.specs.Wire.{Bytes, meant, read_call, Runs, answer_bytes}
use Rattle.model.specs.Lines.{framed, tag_in, call_in}
use Rattle.model.specs.Answers.{read_answer_lem, runs_fit_lem}
use Rattle.serving.specs.Herd.{Held, Tells, Awake}
use Rattle.together.specs.Real.{Body, up, lost, off, Heard, Real, Came}

-- what bytes say, if they are a report or the answer to one, was said in the other world; they don't say that a machine is gone
pub record Carried (bs : Bytes) (ws : List Word) : Type 0 where
  pub ups : (i l n : ℕ) (xs : List Seen) → read_call bs ≡ meant (Report i l n xs) → Memᴰ (Up i l n xs) ws
  pub backs : (i l n : ℕ) (os : List Order) → read_answer_lem bs ≡ meant (Runs i l n os) → Memᴰ (Back i l n os) ws
  pub fit : (i l n : ℕ) (os : List Order) → read_answer_lem bs ≡ meant (Runs i l n os) → runs_fit_lem i l n os ≡ true
  pub no_forget : (i : ℕ) → read_call bs ≢ meant (Forget i)

-- the kept words tell of the state, in the dark and awake
abbrev pub StandsFor : Stand Held → State → Type 0
StandsFor (asleep m) s = Tells m s
StandsFor (awake x m) s = Awake x m s

-- the agent of the other world is the one that is up or was; and while nothing runs one that has nothing, in the life of the file or the next
pub record Rested (a : Agent) (d : ℕ) : Type 0 where
  pub number : a.number ≡ 0
  pub ordered : a.ordered ≡ []
  pub runs : a.runs ≡ []
  pub life : (a.life ≡ d) ⊎ (a.life ≡ d + 1)

abbrev pub Bodied : Body → Agent → Type 0
Bodied (up x) a = a ≡ x
Bodied (lost x) a = a ≡ x
Bodied (off d) a = Rested a d

-- a report that was answered there, came here too: it was answered with the same, or the power failed in it
pub record Answered (cs : List Heard) (i l n : ℕ) (os : List Order) : Type 0 where
  pub heard : Heard
  pub there : Memᴰ heard cs
  pub seens : List Seen
  pub says : read_call (call_in heard.line) ≡ meant (Report i l n seens)
  pub reply : (heard.reply ≡ None) ⊎ (heard.reply ≡ Some (framed (tag_in heard.line) (answer_bytes (Runs i l n os))))

pub record Told (w : Real) : Type 0 where
  pub state : State
  pub agents : ℕ → Agent
  pub words : List Word
  pub reached : Reach (record { herd = state; agent = agents; sent = words })
  pub bodies : (i : ℕ) → Bodied (w.body i) (agents i)
  pub stands : StandsFor w.herd state
  pub lines : (b : Bytes) → Memᴰ b w.sent → Carried (call_in b) words
  pub answered : (i l n : ℕ) (os : List Order) → Memᴰ (Back i l n os) words → Answered w.came i l n os

-- THE REFINEMENT
abbrev pub AllTold : Type 0
AllTold = (w : Real) → Came w → Told w
