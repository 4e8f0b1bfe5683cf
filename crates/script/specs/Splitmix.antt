-- The generator splitmix64: a state that a constant is added to, and what of it is drawn, modulo 2 ^ 64.
-- Assumes nothing.
use Rattle.std.specs.Prelude.{ℕ, ◌+◌, ◌*◌, ◌/◌, ◌%◌, ◌^◌, bit_xor}

abbrev pub advanced : ℕ → ℕ
advanced s = (s + 0x9e37_79b9_7f4a_7c15) % 2 ^ 64

-- the number with its high part, moved down, over it
abbrev pub folded : ℕ → ℕ → ℕ
folded k z = bit_xor z (z / 2 ^ k)

abbrev pub mixed : ℕ → ℕ
mixed s = folded 31 ((folded 27 ((folded 30 s * 0xbf58_476d_1ce4_e5b9) % 2 ^ 64) * 0x94d0_49bb_1331_11eb) % 2 ^ 64)
