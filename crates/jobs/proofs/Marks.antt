-- What a row's mark says of its word.
-- Assumes nothing.
use Rattle.std.proofs.Common.{◌≡◌, ℕ, Bool, true, false, ◌==◌, refl, sym, ◌∙◌, ◌⊎◌, inl, inr}
use Rattle.std.proofs.lemmas.Bool.{cases_Bool}
use Rattle.jobs.specs.declared.phase.Mark.{Mark}
use Rattle.jobs.specs.declared.phase.Mark.TheVariants.{Waiting, Placed, Ending}
use Rattle.jobs.specs.Values.{mark_of}

abbrev is_wait : Mark → Bool
is_wait Waiting = true
is_wait Placed = false
is_wait Ending = false

wait_word : (w : ℕ) → is_wait (mark_of w) ≡ (w == 0)
wait_word w = elim (cases_Bool (w == 0)) [ inl t ↦ rw t refl | inr f ↦ rw f (elim (cases_Bool (w == 1)) [ inl t ↦ rw t refl | inr g ↦ rw g refl ]) ]

pub waits : (w : ℕ) → mark_of w ≡ Waiting → (w == 0) ≡ true
waits w e = sym (wait_word w) ∙ rw e refl

pub waits_not : (w : ℕ) → (mark_of w ≡ Placed) ⊎ (mark_of w ≡ Ending) → (w == 0) ≡ false
waits_not w (inl e) = sym (wait_word w) ∙ rw e refl
waits_not w (inr e) = sym (wait_word w) ∙ rw e refl
