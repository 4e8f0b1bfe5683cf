-- THE HERD'S CODE: what it has in mind, what it may say to a line, and which kept words then tell of it.
-- Assumes nothing.
use Rattle.std.specs.Prelude.{◌≡◌, ℕ, ◌<◌, Bool, true, false, cond, List, length, slice_index}
use Rattle.model.specs.State.{State}
use Rattle.model.specs.Memory.{Memory}
use Rattle.model.specs.Ways.{Ways}
use Rattle.model.specs.Wire.{Bytes, Answer, Refused, Done, Runs, Shown}
use Rattle.model.specs.Lines.{core_kind, answer_line, line_leaves, bytes_say, call_in, herd_on_lines}
use Rattle.device.specs.Service.{Said, Service, zeros}
use Rattle.device.specs.Server.{Server, ways_of, TellsOf, AwakeOf}
use Rattle.jobs.specs.Layout.{home_words_lem, live_words}
use Rattle.jobs.specs.Tables.{state_of}
use Rattle.calls.specs.declared.mind.Mind.{Mind}
use Rattle.calls.specs.Sound.{sound_words}

-- IN MIND: the words in memory, and the time
pub record Held : Type 0 where
  pub home : List ℕ
  pub live : List ℕ
  pub time : ℕ

abbrev pub held_by : Mind → Held
held_by x = record { home = x.home; live = x.live; time = x.time }

abbrev pub state_in : Held → State
state_in x = state_of x.home x.live x.time

-- words as a mind has them: so many, of 64 bits, and sound
pub record Whole (x : Held) : Type 0 where
  pub long : length x.home ≡ home_words_lem
  pub small : (i : ℕ) → slice_index x.home i < 18446744073709551616
  pub sound : sound_words x.home ≡ true

-- WAKING: nothing was heard, nobody is ready, no time was told. Words that are not sound were never stored by the herd: it wakes from them with nothing.
abbrev pub wakes_as : List ℕ → Held
wakes_as h = record { home = cond (sound_words h) h (zeros home_words_lem); live = zeros live_words; time = 0 }

-- an answer that says that nothing has changed: a refusal, and a showing
abbrev pub is_quiet : Answer → Bool
is_quiet (Refused k) = true
is_quiet Done = false
is_quiet (Runs k l n os) = false
is_quiet (Shown ls) = true

-- ANSWERING: what the meaning of lines says, whichever rows the state then stands in; and whether home words may have changed
pub record SaysTo (line : Bytes) (x : Held) (y : Said Bytes Held) (changed : Bool) : Type 0 where
  pub reply : y.reply ≡ answer_line core_kind line (state_in x)
  pub state : state_in y.mind ≡ line_leaves core_kind line (state_in x)
  pub whole : Whole x → Whole y.mind
  pub still : changed ≡ false → y.mind.home ≡ x.home
  -- what is refused, and what only shows, has changed nothing
  pub quiet : is_quiet (bytes_say core_kind (call_in line) (state_in x)).answer ≡ true → changed ≡ false

-- what is said to one line, as the only thing that a service says: its stores are those of a call
abbrev pub saying : Bool → Said Bytes Held → Service (Unit {0}) Bytes Held
saying changed y = record { size = home_words_lem; home_of = λ x. x.home; wake_of = wakes_as; says = λ c x. y; keeps = λ c x. changed }

abbrev pub herd_server : Server Bytes Bytes Held
herd_server = record { size = home_words_lem; home_of = λ x. x.home; wake_of = wakes_as; Says = SaysTo }

-- THE CODE: any way of saying that, with the home words then kept in two halves
abbrev pub herd_code : Ways Bytes Bytes
herd_code = ways_of herd_server

-- of which state a mind tells; and by that, which kept words tell of it in the dark, and awake
abbrev pub Stands : Held → State → Type 0
Stands x s = Whole x × (s ≡ state_in x)

abbrev pub Tells : Memory → State → Type 0
Tells = TellsOf (herd_on_lines core_kind) herd_server Stands

abbrev pub Awake : Held → Memory → State → Type 0
Awake = AwakeOf (herd_on_lines core_kind) herd_server Stands
