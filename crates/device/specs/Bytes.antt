-- A word as eight bytes, the high one first.
-- Assumes nothing.
use Rattle.std.specs.Prelude.{ℕ, ◌+◌, ◌*◌, List, slice_index}

-- the word with the number i in these bytes
abbrev pub word_at : List ℕ → ℕ → ℕ
word_at bs i =
    slice_index bs (8 * i) * 72057594037927936 + slice_index bs (8 * i + 1) * 281474976710656 + slice_index bs (8 * i + 2) * 1099511627776 + slice_index bs (8 * i + 3) * 4294967296 + slice_index bs (8 * i + 4) * 16777216 + slice_index bs (8 * i + 5) * 65536 + slice_index bs (8 * i + 6) * 256 + slice_index bs (8 * i + 7)
