-- Fewer rounds: by the largest job, and not by all jobs together, where the limit of 2,048 tasks cannot bind.
-- Assumes nothing.
use Rattle.std.specs.Prelude.{◌≡◌, ℕ, ◌+◌, ◌*◌, ◌≤◌, max, not, List, [], ◌∷◌, length}
use Rattle.model.specs.Lists.{some, keep, same}
use Rattle.model.specs.State.{Job, Task, State}
use Rattle.model.specs.Settle.{mine}
use mathlib.Core.List.{Memᴰ}
use Rattle.model.specs.World.{World, Reach}
use Rattle.model.specs.Always.{Unlowered}
use Rattle.rest.specs.Rounds.{Anyhow, Roomy, Round, Rounds}
use Rattle.rest.specs.Rest.{AtRest, is_alive, SomeMachine, StaysAtRest}

-- the largest, over jobs, of its tasks that aren't ending and its count together
unfoldable pub largest : List Job → List Task → ℕ
largest [] ts = 0
largest (j ∷ js) ts = max (length (keep is_alive (mine j ts)) + j.count) (largest js ts)

-- what all jobs can ever have: of each what there is of it, or its most, if that is more
unfoldable pub widest : List Job → List Task → ℕ
widest [] ts = 0
widest (j ∷ js) ts = max (length (mine j ts)) j.most + widest js ts

-- how many tasks are of no job
abbrev pub strays : List Job → List Task → ℕ
strays js ts = length (keep (λ (t : Task). not (some (λ (j : Job). same j.name t.job) js)) ts)

-- then there are never more than 2,048 tasks, so that no job waits for another
abbrev pub Apart : State → Type 0
Apart s = widest s.jobs s.tasks + strays s.jobs s.tasks ≤ 2048

abbrev pub enough_apart : State → ℕ
enough_apart s = 3 + 2 * largest s.jobs s.tasks

-- As ComesToRest, with fewer rounds.
abbrev pub ComesSooner : Type 0
ComesSooner =
    (w u v : World) (n : ℕ) → Reach w → SomeMachine w.herd → Apart w.herd → Round Anyhow w u → Rounds Roomy n u v → enough_apart w.herd ≤ n + 1 → AtRest v.herd × StaysAtRest v

-- The limit cannot bind where no job has more than its most, and each task is of a job that is wanted: what setting jobs grants to all of them together is at most 2,048.
-- (A job has more only if its most was lowered, or it was set anew over tasks of an ended job of its name: NeverOver.)
abbrev pub ApartWhereKept : Type 0
ApartWhereKept =
    (w : World) → Reach w → ((j : Job) → Memᴰ j w.herd.jobs → length (mine j w.herd.tasks) ≤ j.most) → ((t : Task) → Memᴰ t w.herd.tasks → (j : Job) × Memᴰ j w.herd.jobs × (j.name ≡ t.job)) → Apart w.herd

-- and so after every run in which no call did that to a job that is there
abbrev pub ApartUnlowered : Type 0
ApartUnlowered =
    (w : World) (r : Reach w) → ((j : Job) → Memᴰ j w.herd.jobs → Unlowered j.name r) → ((t : Task) → Memᴰ t w.herd.tasks → (j : Job) × Memᴰ j w.herd.jobs × (j.name ≡ t.job)) → Apart w.herd
