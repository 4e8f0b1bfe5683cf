-- What a text that ends has said.
-- Assumes nothing.
use Rattle.std.specs.Prelude.{◌≡◌, [], Some, None, Option}
use Rattle.model.specs.Wire.{Bytes, meant}
use Rattle.lines.specs.declared.stage.Stage.{Stage}
use Rattle.lines.specs.declared.reader.End.{End}
use Rattle.lines.specs.declared.reader.End.TheVariants as end
use Rattle.lines.specs.Resume.{resume}
use Rattle.lines.specs.Text.{time_line_lem}

-- by what the rest of the text, which is empty, makes of the bytes so far
abbrev pub Ends : Stage → Option End → Type 0
Ends s (Some end.Bytes) = (bs : Bytes) → resume s bs [] ≡ bs
Ends s (Some (end.Time t)) = (bs : Bytes) → resume s bs [] ≡ time_line_lem (meant t)
Ends s None = (bs : Bytes) → resume s bs [] ≡ []
