-- The kinds of call, by their first byte.
-- Assumes nothing.
use Rattle.std.specs.Prelude.{◌≡◌, ℕ, false, Some, None, Option}
use Rattle.model.specs.Lines.{is_known}
use Rattle.lines.specs.declared.kind.Kind.{Kind}
use Rattle.lines.specs.declared.kind.Kind.TheVariants as kind

abbrev pub byte_of : Kind → ℕ
byte_of kind.Set = 1
byte_of kind.End = 2
byte_of kind.Add = 3
byte_of kind.Close = 4
byte_of kind.Reopen = 5
byte_of kind.Forget = 6
byte_of kind.Report = 7
byte_of kind.Time = 8
byte_of kind.Show = 9

abbrev pub KindAs : ℕ → Option Kind → Type 0
KindAs b None = is_known b ≡ false
KindAs b (Some k) = b ≡ byte_of k
