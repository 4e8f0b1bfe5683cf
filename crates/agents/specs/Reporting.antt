-- A report's bytes in two parts: what stands in front of its tasks, and each task.
-- Assumes nothing.
use Rattle.std.specs.Prelude.{ℕ, ◌+◌, ◌*◌, List, [], ◌∷◌, ◌++◌}
use Rattle.std.specs.List.{flat_map}
use Rattle.model.specs.Calls.{Seen, Order}
use Rattle.model.specs.Wire.{Bytes, bytes_of, flag_of}
use Rattle.model.specs.World.{is_ready_in}

abbrev pub front_of : (tag num life number count : ℕ) → Bytes
front_of tag k l n c = bytes_of 4 (25 + 9 * c) ++ (bytes_of 4 tag ++ (7 ∷ (bytes_of 2 k ++ (bytes_of 8 l ++ (bytes_of 8 n ++ bytes_of 2 c)))))

abbrev pub task_bytes_lem : List Seen → ℕ → Bytes
task_bytes_lem xs i = bytes_of 8 i ++ (flag_of (is_ready_in i xs) ∷ [])

abbrev pub tasks_bytes : List Seen → List Order → Bytes
tasks_bytes xs os = flat_map (λ (o : Order). task_bytes_lem xs o.id) os
