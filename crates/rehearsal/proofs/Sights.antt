-- What is seen in lists of what runs.
-- Assumes nothing.
use Rattle.std.proofs.Common.{◌≡◌, refl, sym, ap, ◌∙◌, subst, ℕ, zero, suc, ◌<◌, ◌+◌, ◌==◌, ◌||◌, eqb, Bool, true, false, List, [], ◌∷◌, ◌++◌, append_assoc, length, get_or, arith}
use Rattle.std.specs.List.{All}
use Rattle.std.proofs.lemmas.List.Elements.{All-head, All-tail}
use Rattle.std.proofs.lemmas.Bool.{eqb-true, eq-eqb}
use Rattle.model.specs.Lists.{some}
use Rattle.model.specs.World.{is_seen}
use Rattle.agents.specs.Memory.{seens_of}
use Rattle.agents.specs.declared.order.Seen.{Seen}
use Rattle.rehearsal.specs.Checks.{Seeing}

-- what holds of each task that is seen
pub of_all : (Q : ℕ → Type 0) (xs : List Seen) → All (λ (x : Seen). Q x.task.0) xs → (t : ℕ) → Seeing xs t → Q t
unfolding some
of_all Q [] h t s = absurd (cc s)
of_all Q (x ∷ xs) h t s = pick (eqb t x.task.0) refl (of_all Q xs (All-tail (λ (y : Seen). Q y.task.0) x xs h) t)
  where
    pick : (b : Bool) → eqb t x.task.0 ≡ b → (Seeing xs t → Q t) → Q t
    pick true e rec = subst Q (sym (eqb-true t x.task.0 e)) (All-head (λ (y : Seen). Q y.task.0) x xs h)
    pick false e rec = rec (ap (λ b. b || some (is_seen t) (seens_of xs)) (sym e) ∙ s)

either : (a b : Bool) → b ≡ true → (a || b) ≡ true
either true b e = refl
either false b e = e

-- each that is there is seen
pub seen_at : (xs : List Seen) (i : ℕ) (d : Seen) → i < length xs → Seeing xs (get_or xs i d).task.0
unfolding some
seen_at [] i d h = absurd (omega (arith, h))
seen_at (x ∷ xs) zero d h = ap (λ b. b || some (is_seen x.task.0) (seens_of xs)) (eq-eqb x.task.0 x.task.0 refl)
seen_at (x ∷ xs) (suc i) d h = either _ _ (seen_at xs i d (omega (arith, h)))
