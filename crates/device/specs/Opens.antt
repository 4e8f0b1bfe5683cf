-- Why a file is not taken as kept memory.
-- Assumes nothing.
use Rattle.std.specs.Prelude.{◌≡◌, ⊤}
use Rattle.device.specs.declared.open.OpenError.{OpenError}
use Rattle.device.specs.declared.open.OpenError.TheVariants.{Length, Make, Open, Read}

-- not for its length, where that is the right one
abbrev pub IsFair : OpenError → Type 0
IsFair (Length n) = n ≡ 2097152 → ⊥
IsFair (Make e) = ⊤
IsFair (Open e) = ⊤
IsFair (Read e) = ⊤
