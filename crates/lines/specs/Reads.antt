-- What a reader answers, by what the bytes say.
-- Assumes nothing.
use Rattle.std.specs.Prelude.{◌≡◌, ℕ, ◌+◌, true, false, List, length, drop, Some, None, Option, ◌==◌}
use Rattle.std.specs.Borrow.{Bor}
use Rattle.model.specs.Calls as m
use Rattle.model.specs.Wire.{Bytes, Read, garbled, meant, byte_at, field}
use Rattle.jobs.specs.declared.ids.MachineId.{MachineId}
use Rattle.calls.specs.declared.call.Call.{Call}
use Rattle.calls.specs.Meaning.{call_of}

-- a call, if the bytes are one
abbrev pub ReadAs : Read m.Call → Option Call → Type 0
ReadAs x None = x ≡ garbled
ReadAs x (Some c) = x ≡ meant (call_of c)

-- a name behind its length, and nothing more
abbrev pub Named : Bytes → Option (Bor (List ℕ)) → Type 0
Named bs None = (length bs == 1 + byte_at 0 bs) ≡ false
Named bs (Some n) = ((length bs == 1 + byte_at 0 bs) ≡ true) × (n.now ≡ drop 1 bs)

-- a number of so many bytes, and nothing more
abbrev pub Alone : {A : Type 0} → ℕ → (A → ℕ) → Bytes → Option A → Type 0
Alone w num bs None = (length bs == w) ≡ false
Alone w num bs (Some n) = ((length bs == w) ≡ true) × (num n ≡ field w 0 bs)

-- a machine, and nothing more
abbrev pub Numbered : Bytes → Option MachineId → Type 0
Numbered bs None = (length bs == 2) ≡ false
Numbered bs (Some k) = ((length bs == 2) ≡ true) × (k.0 ≡ field 2 0 bs)
