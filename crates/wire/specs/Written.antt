-- A call that is written.
-- Assumes nothing.
use Rattle.std.specs.Prelude.{◌≡◌, ℕ, true, false, vec_items, Ok, Err, Result, Vec}
use Rattle.std.specs.declared.alloc.Global.{Global}
use Rattle.model.specs.Calls.{Call}
use Rattle.model.specs.Wire.{Bytes, meant, call_bytes, read_call}
use Rattle.model.specs.Lines.{framed, tag_in, call_in}
use Rattle.wire.specs.Fits.{call_fits}
use Rattle.wire.specs.Short.{is_short_lem}
use Rattle.wire.specs.declared.unwritten.Unwritten.{Unwritten}
use Rattle.wire.specs.declared.unwritten.Unwritten.TheVariants.{TooLong, NoMemory}

-- the bytes of the call in their frame; what reads them finds that call and that tag
pub record Written (tag : ℕ) (c : Call) (bs : Bytes) : Type 0 where
  pub fits : call_fits c ≡ true
  pub bytes : bs ≡ framed tag (call_bytes c)
  pub back : read_call (call_in bs) ≡ meant c
  pub tagged : tag_in bs ≡ tag

-- or none where it is too long
abbrev pub WrittenAs : ℕ → Call → Result (Vec ℕ Global) Unwritten → Type 0
WrittenAs tag c (Ok v) = Written tag c (vec_items v)
WrittenAs tag c (Err TooLong) = is_short_lem c ≡ false
WrittenAs tag c (Err NoMemory) = Unit {0}
