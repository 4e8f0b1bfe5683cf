-- The version of a job that is set anew.
-- Assumes nothing.
use Rattle.std.specs.Prelude.{◌≡◌, ℕ, ◌+◌, Bool, true, false, cond, not, ◌&&◌, Some, None, Option, nat_le}
use Rattle.jobs.specs.declared.ids.Version.{Version}

-- is there none after v for another spec
abbrev pub none_left_lem : Bool → ℕ → Bool
none_left_lem like v = not like && nat_le 4294967295 v

abbrev pub NextAs : Bool → ℕ → Option Version → Type 0
NextAs like v None = none_left_lem like v ≡ true
NextAs like v (Some w) = (none_left_lem like v ≡ false) × (w.0 ≡ cond like v (v + 1))
