-- What a line of text says: `in HEX` the bytes of a line, `time T` the line that tells that time, and anything else no byte of a line.
-- Assumes nothing.
use Rattle.std.specs.Prelude.{◌≡◌, ℕ, ◌+◌, ◌*◌, ◌/◌, ◌%◌, cond, ◌&&◌, List, [], ◌∷◌, ◌++◌, ◌==◌, nat_lt}
use Rattle.std.specs.Char.{digit_value, digit_char}
use Rattle.std.specs.Int.Digits.{AllBelowBase}
use Rattle.model.specs.Calls.{Tick}
use Rattle.model.specs.Wire.{Bytes, Read, garbled, meant, call_bytes}
use Rattle.model.specs.Lines.{framed}

abbrev pub Text : Type 0
Text = List ℕ

-- what stands behind a word, where the text begins with it
abbrev pub behind : Text → Text → Read Text
behind [] ts = meant ts
behind (w ∷ ws) [] = garbled
behind (w ∷ ws) (t ∷ ts) = cond (w == t) (behind ws ts) garbled

-- HEXADECIMAL, in letters of either case

-- the first digit of a byte is due, or the second
pub data Due : Type 0 where
  first : Due
  second : (high : ℕ) → Due

-- the bytes that a text goes on with, behind those so far; nothing where it has another character or half a byte
unfoldable pub hex_on : Bytes → Due → Text → Read Bytes
hex_on bs first [] = meant bs
hex_on bs (second h) [] = garbled
hex_on bs first (c ∷ cs) = cond (nat_lt (digit_value c) 16) (hex_on bs (second (digit_value c)) cs) garbled
hex_on bs (second h) (c ∷ cs) = cond (nat_lt (digit_value c) 16) (hex_on (bs ++ ((h * 16 + digit_value c) ∷ [])) first cs) garbled

-- bytes as text, in lower case
unfoldable pub hex_text : Bytes → Text
hex_text [] = []
hex_text (b ∷ bs) = digit_char (b / 16) ∷ digit_char (b % 16) ∷ hex_text bs

-- DECIMAL, of 64 bits: digits and nothing else, one at least

abbrev pub so_far : Read ℕ → ℕ
so_far garbled = 0
so_far (meant n) = n

abbrev pub longer : Read ℕ → ℕ → ℕ
longer r c = so_far r * 10 + digit_value c

unfoldable pub decimal_on : Read ℕ → Text → Read ℕ
decimal_on r [] = r
decimal_on r (c ∷ cs) = cond (nat_lt (digit_value c) 10 && nat_lt (longer r c) 18446744073709551616) (decimal_on (meant (longer r c)) cs) garbled

-- A LINE

abbrev pub bytes_or : Read Bytes → Bytes
bytes_or garbled = []
bytes_or (meant bs) = bs

-- the call that tells the time, with tag 0
abbrev pub time_line_lem : Read ℕ → Bytes
time_line_lem garbled = []
time_line_lem (meant t) = framed 0 (call_bytes (Tick t))

abbrev pub line_by : Bytes → Read Text → Read Text → Bytes
line_by bs (meant hex) time = bytes_or (hex_on bs first hex)
line_by bs garbled (meant ds) = time_line_lem (decimal_on garbled ds)
line_by bs garbled garbled = []

-- the words are "in " and "time "; bytes in hexadecimal come behind those that were there
abbrev pub line_on : Bytes → Text → Bytes
line_on bs ts = line_by bs (behind (105 ∷ 110 ∷ 32 ∷ []) ts) (behind (116 ∷ 105 ∷ 109 ∷ 101 ∷ 32 ∷ []) ts)

abbrev pub line_of : Text → Bytes
line_of ts = line_on [] ts

-- an answer's line: "out ", its bytes, and the line's end
abbrev pub out_text : Bytes → Text
out_text bs = (111 ∷ 117 ∷ 116 ∷ 32 ∷ hex_text bs) ++ (10 ∷ [])

-- THE LAW ABOVE IT: reading what was written gives it back
abbrev pub HexBack : Type 0
HexBack = (bs : Bytes) → AllBelowBase 256 bs → hex_on [] first (hex_text bs) ≡ meant bs
