-- What a pass spares because nobody knows: a herd that has just woken has heard no machine, and its tasks, which may all be ready, are only told.
-- Assumes nothing.
use Rattle.std.specs.Prelude.{◌≡◌, not, ◌&&◌, T}
use mathlib.Core.List.{Memᴰ}
use Rattle.model.specs.Lists.{some}
use Rattle.model.specs.State.{Machine, Job, Told, Task, State, is_machine}
use Rattle.model.specs.Settle.{present, settle}
use Rattle.model.specs.Promise.{Good}

-- it is told, and its machine isn't present: nobody knows whether it is ready
abbrev pub Unknown : State → Task → Type 0
Unknown s t = (t.phase ≡ Told) × T (not (some (λ (m : Machine). is_machine t.machine m && present s.now m) s.machines))

-- a pass leaves such a task of a wanted job as it is, of whatever version, and however many there are
abbrev pub SparesUnknown : Type 0
SparesUnknown = (s : State) → Good s → (j : Job) (t : Task) → Memᴰ j s.jobs → Memᴰ t s.tasks → t.job ≡ j.name → Unknown s t → Memᴰ t (settle s).tasks
