-- What is turned away before a call is read: a kind that is not built, and whatever comes before a time was told.
-- Assumes nothing.
use Rattle.std.specs.Prelude.{◌≡◌, ℕ, Bool, true, false, not, ◌&&◌, Some, None, Option, ◌==◌}
use Rattle.model.specs.Lines.{core_kind, is_known}
use Rattle.calls.specs.declared.answer.Refusal.{Refusal}
use Rattle.calls.specs.declared.answer.Refusal.TheVariants.{Malformed, Unknown, Present, Stale, Full, NoTime, NotBuilt}

abbrev pub unbuilt : ℕ → Bool
unbuilt kind = is_known kind && not (core_kind kind)

abbrev pub untimed : ℕ → ℕ → Bool
untimed kind time = time == 0 && not (kind == 8)

abbrev pub Bars : ℕ → ℕ → Refusal → Type 0
Bars kind time NotBuilt = unbuilt kind ≡ true
Bars kind time NoTime = (unbuilt kind ≡ false) × (untimed kind time ≡ true)
Bars kind time Malformed = ⊥
Bars kind time Unknown = ⊥
Bars kind time Present = ⊥
Bars kind time Stale = ⊥
Bars kind time Full = ⊥

abbrev pub BarredAs : ℕ → ℕ → Option Refusal → Type 0
BarredAs kind time None = (unbuilt kind ≡ false) × (untimed kind time ≡ false)
BarredAs kind time (Some r) = Bars kind time r
