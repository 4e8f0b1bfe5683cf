-- The file in which an agent's life is kept: eight bytes, high byte first, and the same eight again.
-- Assumes nothing.
use Rattle.std.specs.Prelude.{◌≡◌, ℕ, ◌+◌, ◌<◌, ◌≤◌, cond, ◌&&◌, ◌⊎◌, ◌++◌, length, take, drop, Some, None, Ok, Err, Option, Result, ◌==◌, nat_le, nat_lt}
use Rattle.model.specs.Wire.{Bytes, Read, garbled, meant, bytes_of, field}
use Rattle.jobs.specs.declared.ids.Life.{Life}
use Rattle.agents.specs.declared.life.Unfit.{Unfit}
use Rattle.agents.specs.declared.life.Unfit.TheVariants.{Damaged, Last}

abbrev pub last_life : ℕ
last_life = 4611686018427387904

abbrev pub life_bytes_lem : ℕ → Bytes
life_bytes_lem n = bytes_of 8 n ++ bytes_of 8 n

abbrev pub read_life_lem : Bytes → Read ℕ
read_life_lem bs = cond (length bs == 16 && field 8 0 bs == field 8 8 bs && nat_lt 0 (field 8 0 bs) && nat_le (field 8 0 bs) last_life) (meant (field 8 0 bs)) garbled

abbrev pub Reads : Read ℕ → Option Life → Type 0
Reads x None = x ≡ garbled
Reads x (Some l) = x ≡ meant l.0

-- the life to come up with is one more than the file's, or than 0 where there is none, and never above the last
abbrev pub Rises : Read ℕ → Result Life Unfit → Type 0
Rises x (Ok l) = (n : ℕ) × (x ≡ meant n) × (l.0 ≡ n + 1) × (n < last_life)
Rises x (Err Damaged) = x ≡ garbled
Rises x (Err Last) = (n : ℕ) × (x ≡ meant n) × (last_life ≤ n)

-- LAWS

abbrev pub Fits : ℕ → Type 0
Fits n = (0 < n) × (n ≤ last_life)

-- what was written is read back
abbrev pub LifeBack : Type 0
LifeBack = (n : ℕ) → Fits n → read_life_lem (life_bytes_lem n) ≡ meant n

-- a part of the file says nothing
abbrev pub TornIsNone : Type 0
TornIsNone = (n k : ℕ) → k < 16 → read_life_lem (take k (life_bytes_lem n)) ≡ garbled

-- of two writings, the front of one and the rest of the other say one of the two, or nothing
abbrev pub MixedIsEither : Type 0
MixedIsEither = (m n k v : ℕ) → Fits m → Fits n → k ≤ 16 → read_life_lem (take k (life_bytes_lem m) ++ drop k (life_bytes_lem n)) ≡ meant v → (v ≡ m) ⊎ (v ≡ n)
