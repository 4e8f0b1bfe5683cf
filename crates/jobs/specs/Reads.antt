-- A task as it was read.
-- Assumes nothing.
use Rattle.std.specs.Prelude.{◌≡◌, List, [], ◌∷◌}
use Rattle.model.specs.State as s
use Rattle.jobs.specs.declared.task.Task.{Task}
use Rattle.jobs.specs.Values.{spec_of, phase_of, machine_of, life_of}

-- xs is one task, and t what it is, its job's name aside
pub record TaskRead (t : Task) (xs : List s.Task) : Type 0 where
  pub it : s.Task
  pub only : xs ≡ it ∷ []
  pub id : it.id ≡ t.id.0
  pub version : it.version ≡ t.version.0
  pub spec : it.spec ≡ spec_of t.spec
  pub phase : it.phase ≡ phase_of t.phase
  pub machine : it.machine ≡ machine_of t.phase
  pub life : it.life ≡ life_of t.phase
