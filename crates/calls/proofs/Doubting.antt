-- What the time makes of tasks.
-- Assumes nothing.
use Rattle.std.proofs.Common.{◌≡◌, ℕ, true, false, not, ◌&&◌, List, [], ◌∷◌, ◌++◌, map, sym, refl, ap}
use Rattle.std.proofs.lemmas.Bool.{and_parts, true≢false}
use Rattle.model.specs.Lists.{some}
use Rattle.model.specs.State.{Machine, Task, Phase, Waiting, Told, Ready, Ending, is_ready_lem}
use Rattle.model.specs.Calls.{unsure}
use Rattle.jobs.specs.Changes.{mark_each, marked_phase}
use Rattle.settling.specs.Scan.{is_present}
use Rattle.calls.proofs.Sweep.{Each}

map_both : {A B : Type 0} (f : A → B) (xs ys : List A) → map f (xs ++ ys) ≡ map f xs ++ map f ys
map_both f [] ys = refl
map_both f (x ∷ xs) ys = ap (λ zs. f x ∷ zs) (map_both f xs ys)

pub doubt_each : (time : ℕ) (ms : List Machine) → Each (map (unsure time ms))
doubt_each time ms = record { none = refl; both = map_both (unsure time ms) }

-- what is ready is told
untold : (p : Phase) → is_ready_lem p ≡ true → Told ≡ marked_phase false p
untold Waiting e = absurd (true≢false (sym e))
untold Told e = refl
untold Ready e = refl
untold Ending e = absurd (true≢false (sym e))

module _ (time : ℕ) (ms : List Machine) (t : Task) where
  pub doubt_it : (is_ready_lem t.phase && not (some (is_present time t.machine) ms)) ≡ true → map (unsure time ms) (t ∷ []) ≡ mark_each false (t ∷ [])
  unfolding unsure
  doubt_it e = rw (e, ← untold t.phase (and_parts (is_ready_lem t.phase) _ e).0)

  pub doubt_not : (is_ready_lem t.phase && not (some (is_present time t.machine) ms)) ≡ false → map (unsure time ms) (t ∷ []) ≡ t ∷ []
  unfolding unsure
  doubt_not e = rw e

-- the test, by what was read of the row
pub same_test : (time : ℕ) (ms : List Machine) (t : Task) (p : Phase) (k : ℕ) → t.phase ≡ p → t.machine ≡ k → (is_ready_lem t.phase && not (some (is_present time t.machine) ms)) ≡ (is_ready_lem p && not (some (is_present time k) ms))
same_test time ms t p k e f = rw (e, f)
