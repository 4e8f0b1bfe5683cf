-- A line of any length of which only the first bytes are held. No line that is longer is a call that could be done, so those say all that its answer depends on.
-- Assumes nothing.
use Rattle.std.specs.Prelude.{◌≡◌, ℕ, min, length, take}
use Rattle.model.specs.Wire.{Bytes}

-- the longest line that may be done: a frame with a report of 2,048 tasks
abbrev pub room : ℕ
room = 18461

-- and of it what is behind the frame
abbrev pub call_room : ℕ
call_room = 18453

-- a counter of 64 bits stops at its end
abbrev pub counted : ℕ → ℕ
counted n = min n 18446744073709551615

-- of the line, the first bytes are held, and the count says how many it has
pub record Holds (bytes : Bytes) (count : ℕ) (line : Bytes) : Type 0 where
  pub long : count ≡ counted (length line)
  pub front : take (min count room) bytes ≡ take room line
