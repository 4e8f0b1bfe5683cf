-- Tasks in an answer: which are listed, and the bytes of each.
-- Assumes nothing.
use Rattle.std.specs.Prelude.{◌≡◌, ℕ, ◌+◌, Bool, not, ◌&&◌, List, [], ◌∷◌, ◌++◌, length}
use Rattle.model.specs.Lists.{keep}
use Rattle.model.specs.State.{Task, is_ending, on_machine}
use Rattle.model.specs.Wire.{Bytes, bytes_of, phase_of, spec_bytes}
use Rattle.lines.specs.Puts.{Puts}

unfoldable pub each_bytes : (Task → Bytes) → List Task → Bytes
each_bytes f [] = []
each_bytes f (t ∷ ts) = f t ++ each_bytes f ts

-- those of ts that pass are written behind c others: now they are d
pub record Lists (which : Task → Bool) (each : Task → Bytes) (ts : List Task) (before after : Bytes) (n c m d : ℕ) : Type 0 where
  pub bytes : Puts (each_bytes each (keep which ts)) before after n m
  pub count : d ≡ c + length (keep which ts)

-- to run on a machine: on it, and not ending; by number and spec
abbrev pub runs_on_lem : ℕ → Task → Bool
runs_on_lem k t = on_machine k t && not (is_ending t.phase)

abbrev pub order_of : Task → Bytes
order_of t = bytes_of 8 t.id ++ spec_bytes t.spec

-- shown: number, version, phase and machine
abbrev pub line_of : Task → Bytes
line_of t = bytes_of 8 t.id ++ (bytes_of 4 t.version ++ (phase_of t.phase ∷ bytes_of 2 t.machine))
