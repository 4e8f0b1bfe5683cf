-- Where the reading of a text stands, by what it comes to with the rest of the text.
-- Assumes nothing.
use Rattle.std.specs.Prelude.{◌≡◌, ℕ, List, [], ◌∷◌, Some, None, Option}
use Rattle.model.specs.Wire.{Bytes, Read, garbled, meant}
use Rattle.lines.specs.declared.stage.Stage.{Stage}
use Rattle.lines.specs.declared.stage.Stage.TheVariants.{Start, I, In, T, Ti, Tim, Time, High, Low, Clock, Bad}
use Rattle.lines.specs.Held.{Holds}
use Rattle.lines.specs.Text.{Text, first, second, hex_on, decimal_on, bytes_or, time_line_lem, line_on}

abbrev pub number_in : Option ℕ → Read ℕ
number_in None = garbled
number_in (Some n) = meant n

abbrev pub list_in : Option ℕ → Bytes
list_in None = []
list_in (Some b) = b ∷ []

-- the line that the rest of the text makes, where these bytes of it were read
abbrev pub resume : Stage → Bytes → Text → Bytes
resume Start bs ts = line_on bs ts
resume I bs ts = line_on bs (105 ∷ ts)
resume In bs ts = line_on bs (105 ∷ 110 ∷ ts)
resume T bs ts = line_on bs (116 ∷ ts)
resume Ti bs ts = line_on bs (116 ∷ 105 ∷ ts)
resume Tim bs ts = line_on bs (116 ∷ 105 ∷ 109 ∷ ts)
resume Time bs ts = line_on bs (116 ∷ 105 ∷ 109 ∷ 101 ∷ ts)
resume High bs ts = bytes_or (hex_on bs first ts)
resume (Low h) bs ts = bytes_or (hex_on bs (second h.value) ts)
resume (Clock n) bs ts = time_line_lem (decimal_on (number_in n) ts)
resume Bad bs ts = []

-- a reader stands where a text makes what f says
pub record Reads (stage : Stage) (bytes : List ℕ) (count : ℕ) (f : Text → Bytes) : Type 0 where
  pub read : Bytes
  pub held : Holds bytes count read
  pub goes : (ts : Text) → f ts ≡ resume stage read ts
