-- Names are the same where the test says so.
-- Assumes nothing.
use Rattle.std.proofs.Common.{◌≡◌, true, false, eqb, [], ◌∷◌, sym, refl, subst, inl, inr}
use Rattle.std.proofs.lemmas.Bool.{false≢true, and_parts, and_from, eqb-true, eq-eqb}
use Rattle.model.specs.State.{Name}
use Rattle.model.specs.Lists.{same}
use Rattle.model.proofs.Lists.{clash, bool}

pub same_refl : (n : Name) → same n n ≡ true
unfolding same
same_refl [] = refl
same_refl (x ∷ xs) = and_from (eqb x x) (same xs xs) (eq-eqb x x refl) (same_refl xs)

pub same_eq : (a b : Name) → same a b ≡ true → a ≡ b
unfolding same
same_eq [] [] e = refl
same_eq [] (y ∷ ys) e = absurd (false≢true e)
same_eq (x ∷ xs) [] e = absurd (false≢true e)
same_eq (x ∷ xs) (y ∷ ys) e =
    let p = and_parts (eqb x y) (same xs ys) e in let h : x ≡ y = eqb-true x y p.0 in let t : xs ≡ ys = same_eq xs ys p.1 in cc

pub eq_same : (a b : Name) → a ≡ b → same a b ≡ true
eq_same a b e = subst (λ (x : Name). same a x ≡ true) e (same_refl a)

pub same_sym : (a b : Name) → same a b ≡ true → same b a ≡ true
same_sym a b e = eq_same b a (sym (same_eq a b e))

pub unsame_sym : (a b : Name) → same a b ≡ false → same b a ≡ false
unsame_sym a b e = elim (bool (same b a)) [ inl p ↦ clash (same a b) (same_sym b a p) e | inr p ↦ p ]
