-- A statement too large for a contract, named there by its proof: this type can only be written where the proof has the type.
-- Assumes nothing.
abbrev pub Shown : (A : Type 1) → A → Type 0
Shown A a = Unit {0}
