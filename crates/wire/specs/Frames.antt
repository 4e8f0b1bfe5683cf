-- Bytes in their frame.
-- Assumes nothing.
use Rattle.std.specs.Prelude.{◌≡◌, ℕ, ◌≤◌, length, vec_items, Ok, Err, Result, Vec}
use Rattle.std.specs.declared.alloc.Global.{Global}
use Rattle.model.specs.Wire.{Bytes}
use Rattle.model.specs.Lines.{framed}
use Rattle.wire.specs.declared.unwritten.Unwritten.{Unwritten}
use Rattle.wire.specs.declared.unwritten.Unwritten.TheVariants.{TooLong, NoMemory}

-- in the frame, or too long for its length to stand there
abbrev pub FramedAs : ℕ → Bytes → Result (Vec ℕ Global) Unwritten → Type 0
FramedAs tag body (Ok v) = vec_items v ≡ framed tag body
FramedAs tag body (Err TooLong) = 4294967292 ≤ length body
FramedAs tag body (Err NoMemory) = Unit {0}
