-- What runs where all is at rest: exactly what the herd lists, and all of it ready.
-- Assumes nothing.
use Rattle.std.specs.Prelude.{◌≡◌, ℕ, true, T, List}
use mathlib.Core.List.{Memᴰ}
use Rattle.model.specs.Lists.{keep}
use Rattle.model.specs.State.{Machine, Task, on_machine}
use Rattle.model.specs.Calls.{Seen, orders}
use Rattle.model.specs.World.{World, Reach}
use Rattle.rest.specs.Rounds.{Obeyed, Course, Anyhow, Round}
use Rattle.rest.specs.Rest.{AtRest, said_by}

-- on that machine exactly the tasks that the herd has there are ordered and run, each of them ready
pub record AsListed (w : World) (i : ℕ) : Type 0 where
  pub ordered : (w.agent i).ordered ≡ orders (keep (on_machine i) w.herd.tasks)
  pub all : (t : Task) → Memᴰ t w.herd.tasks → T (on_machine i t) → Memᴰ (record { id = t.id; ready = true }) (w.agent i).runs
  pub only : (x : Seen) → Memᴰ x (w.agent i).runs → (t : Task) × Memᴰ t w.herd.tasks × T (on_machine i t) × (t.id ≡ x.id) × (x.ready ≡ true)

-- Where it is at rest (v) after a round from any world that can come to be (w), and one more round is made (to x) and any calm steps follow (to y):
-- whenever an agent of a machine of the herd has obeyed what it was answered, and would report all that is ordered as ready, there runs exactly what the herd lists.
-- (Each task of the herd is on such a machine: at rest it is ready, and a ready task always is.)
abbrev pub RunsAsListed : Type 0
RunsAsListed =
    (w v x y : World) (ks : List ℕ) → Reach w → Round Anyhow w v → AtRest v.herd → Round Anyhow v x → Course Anyhow ks x y →
    (m : Machine) → Memᴰ m y.herd.machines → Obeyed y m.num → ((s : Seen) → Memᴰ s (said_by (y.agent m.num)) → s.ready ≡ true) → AsListed y m.num
