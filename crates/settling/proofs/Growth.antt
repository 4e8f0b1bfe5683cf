-- Room for a new task.
-- Assumes nothing.
use Rattle.std.proofs.Common.{◌≡◌, ℕ, ◌<◌, ◌≤◌, true, List, length, sym, ap, ◌∙◌}
use Rattle.model.specs.State as s
use Rattle.model.specs.State.{with_tasks}
use Rattle.model.specs.Settle.{may_grow_lem, more, grows}
use Rattle.jobs.specs.Layout.{home_words_lem}
use Rattle.jobs.specs.Tables.{tasks_of, job_from_lem, job_row_lem, state_of, TasksNow}
use Rattle.jobs.proofs.Frames.{job_row_same}
use Rattle.jobs.proofs.SweepLaws.{now_state}

-- room is made, and the task comes
pub grows_so : (j : s.Job) (home live mid midl home' live' : List ℕ) (time r : ℕ) → home_words_lem ≤ length home → r < 256 → j ≡ job_from_lem (job_row_lem home r) → may_grow_lem j (state_of home live time) ≡ true → TasksNow (tasks_of home live) home live mid midl →
    state_of home' live' time ≡ more (job_from_lem (job_row_lem mid r)) (state_of mid midl time) → state_of home' live' time ≡ grows j (state_of home live time)
grows_so j home live mid midl home' live' time r fits w is e p q =
    let same' : state_of mid midl time ≡ state_of home live time = now_state home live mid midl time (tasks_of home live) fits p in
    let row : job_from_lem (job_row_lem mid r) ≡ j = ap job_from_lem (job_row_same home live mid midl fits p.frame r w) ∙ sym is in
    q ∙ ap (λ (x : s.Job). more x (state_of mid midl time)) row ∙ ap (more j) same' ∙ rw e
