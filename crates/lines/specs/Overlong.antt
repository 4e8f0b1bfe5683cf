-- A line that is longer than is held can't be done, whatever it is.
-- Assumes nothing.
use Rattle.std.specs.Prelude.{◌≡◌, ℕ, ◌<◌, Bool, true, false, take, slice_index}
use Rattle.model.specs.State.{State}
use Rattle.model.specs.Calls.{Call, acts, no}
use Rattle.model.specs.Wire.{Bytes, meant, read_call}
use Rattle.model.specs.Lines.{call_in}
use Rattle.lines.specs.Held.{call_room}

-- each is a byte
abbrev pub AreBytes : Bytes → Type 0
AreBytes line = (i : ℕ) → slice_index line i < 256

-- whatever call the bytes may be, no state lets it be done: it is out of range
abbrev pub Undoable : Bytes → Type 0
Undoable bs = (c : Call) → read_call bs ≡ meant c → (s : State) → acts c s ≡ no 1 s

-- a line that is longer than is held can't be done; of any other the whole call is held
abbrev pub LongerAs : Bytes → Bool → Type 0
LongerAs line true = Undoable (call_in line)
LongerAs line false = take call_room (call_in line) ≡ call_in line
