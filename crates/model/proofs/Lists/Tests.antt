-- Tests: between T, which promises use, and equations with true and false, which proofs use.
-- Assumes nothing.
use Rattle.std.proofs.Common.{◌≡◌, ℕ, Bool, true, false, not, T, ◌⊎◌, sym, refl, ◌∙◌, inl, inr, arith}
use Rattle.std.proofs.lemmas.Bool.{true≢false, false≢true}

pub to_true : (b : Bool) → T b → b ≡ true
to_true true t = refl
to_true false t = absurd t

pub from_true : (b : Bool) → b ≡ true → T b
from_true true e = tt
from_true false e = absurd (false≢true e)

pub not_to_false : (b : Bool) → T (not b) → b ≡ false
not_to_false true t = absurd t
not_to_false false t = refl

pub clash : {C : Type 0} (b : Bool) → b ≡ true → b ≡ false → C
clash b p q = absurd (true≢false (sym p ∙ q))

pub bool : (b : Bool) → (b ≡ true) ⊎ (b ≡ false)
bool true = inl refl
bool false = inr refl

-- two constructors that were said to be equal: cc gives the equation
pub never : {C : Type 0} → ◌≡◌ {A = ℕ} 0 1 → C
never z = absurd (omega arith)
