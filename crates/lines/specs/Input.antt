-- Input that is handed on piece by piece.
-- Assumes nothing.
use Rattle.std.specs.Prelude.{List, Option}
use Rattle.std.specs.List.{FoldsTo, concat}
use Rattle.std.specs.Io.KnownBytes.{Consumes}
use Rattle.model.specs.Wire.{Bytes}

-- what a reader gave, as pieces, and a call at each of them, in order
pub record HandedOn {F : Type 0} (calls : F → Bytes → F → Type 0) (f last : F) (old new : Option Bytes) : Type 0 where
  pub pieces : List Bytes
  pub called : FoldsTo calls f pieces last
  pub given : Consumes old new (concat pieces)
