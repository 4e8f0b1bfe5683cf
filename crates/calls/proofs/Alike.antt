-- Comparing what a job is to be like with what it is like.
-- Assumes nothing.
use Rattle.std.proofs.Common.{◌≡◌, ℕ, Bool, true, false, ◌&&◌, eqb, List, sym, refl, ◌∙◌}
use mathlib.Core.Bool.{beq}
use Rattle.std.specs.Cmp.Lexicographic.{pointwise, same_text, other_text}
use Rattle.model.specs.Lists.{same}
use Rattle.model.specs.Calls.{alike, same_spec_lem}
use Rattle.model.proofs.Tasks.Names.{eq_same}
use Rattle.jobs.specs.declared.spec.Spec.{Spec}
use Rattle.jobs.specs.Values.{spec_of}
use Rattle.jobs.proofs.Names.{not_same}

beq_alike : (a b : Bool) → beq a b ≡ alike a b
unfolding alike
beq_alike true true = refl
beq_alike true false = refl
beq_alike false true = refl
beq_alike false false = refl

pointwise_same : (us ws : List ℕ) → pointwise eqb us ws ≡ same us ws
pointwise_same us ws = told (pointwise eqb us ws) refl
  where
    told : (b : Bool) → b ≡ pointwise eqb us ws → pointwise eqb us ws ≡ same us ws
    told true e = sym e ∙ sym (eq_same us ws (same_text us ws e))
    told false e = sym e ∙ sym (not_same us ws (other_text us ws e))

-- part by part, as tuples are compared
pub specs_alike : (a b : Spec) (us ws : List ℕ) → us ≡ (spec_of a).tags → ws ≡ (spec_of b).tags → (eqb a.image b.image && eqb a.cpu b.cpu && eqb a.mem b.mem && pointwise eqb us ws && beq a.apart b.apart) ≡ same_spec_lem (spec_of a) (spec_of b)
specs_alike a b us ws p q = rw (p, q, pointwise_same, beq_alike)
