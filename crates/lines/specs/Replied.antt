-- How long answers are.
-- Assumes nothing.
use Rattle.std.specs.Prelude.{ℕ, ◌+◌, ◌*◌}

-- the longest: a frame (8), what a run begins with (21), and 2,048 orders with eight tags each (54)
abbrev pub reply_room : ℕ
reply_room = 8 + 21 + 2048 * 54
