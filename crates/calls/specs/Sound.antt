-- What all home words have that came to be by calls. Words without it are damaged; words with it may still be others than were kept.
-- Assumes nothing.
use Rattle.std.specs.Prelude.{ℕ, ◌+◌, Bool, not, ◌&&◌, List, [], nat_lt}
use Rattle.model.specs.Lists.{some, every}
use Rattle.model.specs.State.{Machine, Job, Task, is_job, is_machine}
use Rattle.model.specs.Promise.{once_jobs, once_machines, rising_tasks}
use Rattle.jobs.specs.Rows.{at, span}
use Rattle.jobs.specs.Tables.{job_at, jobs_of, machine_at, machines_of, tasks_of}

-- by rising numbers, none above the last one given
abbrev pub sound_tasks_lem : ℕ → List Task → Bool
sound_tasks_lem last ts = rising_tasks 0 ts && every (λ (t : Task). nat_lt t.id (last + 1)) ts

-- jobs by different names, machines by different numbers, tasks by rising numbers that were given: no matter which are ready, and when machines were heard
abbrev pub sound_words : List ℕ → Bool
sound_words home = once_jobs (jobs_of home) && (once_machines (machines_of home []) && sound_tasks_lem (at home 0) (tasks_of home []))

-- the one in row i, if there is one, is the first of its name, or of its number
abbrev pub first_job_lem : List ℕ → ℕ → Bool
first_job_lem home i = every (λ (j : Job). not (some (is_job j.name) (span (job_at home) 0 i))) (job_at home i)

abbrev pub first_machine_lem : List ℕ → ℕ → Bool
first_machine_lem home i = every (λ (m : Machine). not (some (is_machine m.num) (span (machine_at home []) 0 i))) (machine_at home [] i)
