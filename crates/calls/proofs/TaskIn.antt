-- The task in a row, by what was read of the row.
-- Assumes nothing.
use Rattle.std.proofs.Common.{◌≡◌, ℕ, ◌+◌, ◌%◌, cond, eqb, List, [], ◌∷◌, sym, refl, ap, ◌∙◌, subst}
use Rattle.model.specs.State as s
use Rattle.jobs.specs.declared.phase.Phase.{Phase}
use Rattle.jobs.specs.Rows.{at}
use Rattle.jobs.specs.Tables.{TaskPut, task_at, task_from, task_row_lem, phase_from_lem}
use Rattle.jobs.specs.Values.{life_of, machine_of, phase_of}
use Rattle.settling.proofs.Tallies.{row_full}

module _ (home live row : List ℕ) (i : ℕ) (r : row ≡ task_row_lem home i) (phase : Phase)
    (p : phase_of phase ≡ phase_from_lem (at row 1) (at live (256 + i))) (m : machine_of phase ≡ cond (eqb (at row 1) 0) 0 (at row 2 % 65536)) (l : life_of phase ≡ cond (eqb (at row 1) 0) 0 (at row 3)) where
  abbrev there : s.Task
  there = task_from (task_row_lem home i) (at live (256 + i))

  -- what holds of every task of which that is so, holds of the one in the row
  pub described : (P : s.Task → Type 0) → ((t : s.Task) → t.phase ≡ phase_of phase → t.id ≡ at row 0 → t.machine ≡ machine_of phase → t.life ≡ life_of phase → P t) → P there
  described P f =
      subst (λ (x : List ℕ). P (task_from x (at live (256 + i)))) r (f (task_from row (at live (256 + i))) (sym p) refl (sym m) (sym l))

  -- a change of lists that makes ys of it makes ys of the row
  pub changed : (full : at row 0 ≡ 0 → ⊥) (g : List s.Task → List s.Task) (h : List s.Task → List s.Task) →
      ((t : s.Task) → t.phase ≡ phase_of phase → t.id ≡ at row 0 → t.machine ≡ machine_of phase → t.life ≡ life_of phase → g (t ∷ []) ≡ h (t ∷ [])) → h (task_at home live i) ≡ g (task_at home live i)
  changed full g h f =
      let e = row_full home live row i r full in
      ap h e ∙ sym (ap g e ∙ described (λ (t : s.Task). g (t ∷ []) ≡ h (t ∷ [])) f)

pub put_as : (home live home' live' : List ℕ) (i : ℕ) (xs ys : List s.Task) → xs ≡ ys → TaskPut i xs home live home' live' → TaskPut i ys home live home' live'
put_as home live home' live' i xs ys e p = subst (λ (zs : List s.Task). TaskPut i zs home live home' live') e p
