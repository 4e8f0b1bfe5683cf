-- What is news, over the words: tasks are heard, then their machine, then a pass begins.
-- Assumes nothing.
use Rattle.std.proofs.Common.{◌≡◌, ℕ, ◌+◌, ◌<◌, ◌≤◌, List, map, length, sym, refl, ap, ◌∙◌, subst, arith}
use Rattle.model.specs.Lists.{find, change}
use Rattle.model.specs.State as s
use Rattle.model.specs.State.{is_machine, with_tasks, with_machines}
use Rattle.model.specs.Settle.{settle}
use Rattle.model.specs.Calls.{Seen, heard_all, heard_from, heard}
use Rattle.model.proofs.Settles.{Tidy, Fine}
use Rattle.model.proofs.Acts.Good.{fine_heard}
use Rattle.jobs.specs.Rows.{at}
use Rattle.jobs.proofs.Spans.{span_same}
use Rattle.jobs.specs.Tables.{tasks_of, jobs_of, machines_of, machine_at, machine_rows_lem, machines_with, state_of, TasksNow, MachinesNow}
use Rattle.jobs.proofs.Frames.{machine_same, machine_rows_same, machines_same, jobs_same}
use Rattle.settling.specs.Scan.{Became}
use Rattle.calls.specs.Reports.{HeardIn}
use Rattle.calls.proofs.Changes.{change_found}

-- a state, part by part
pub state_is : (home live : List ℕ) (time : ℕ) (s : s.State) → at home 0 + 1 ≡ s.next_id → machines_of home live ≡ s.machines → jobs_of home ≡ s.jobs → tasks_of home live ≡ s.tasks → time ≡ s.now → state_of home live time ≡ s
state_is home live time s a b c d e = λ i. record { now = e i; next_id = a i; machines = b i; jobs = c i; tasks = d i }

module _ (k l n i time : ℕ) (xs : List Seen) (home live h1 l1 h2 l2 : List ℕ) (fits : 68104 ≤ length home) (fine : Fine (state_of home live time)) (there : HeardIn k i home live)
    (a : TasksNow (heard_all k l xs (tasks_of home live)) home live h1 l1) where
  pub within : i < machine_rows_lem h1
  within = let e = machine_rows_same home live h1 l1 fits a.frame in let h = there.1 in omega arith

  same : (j : ℕ) → j < 256 → machine_at h1 l1 j ≡ machine_at home live j
  same = machine_same home live h1 l1 fits a.frame

  machines : machines_of h1 l1 ≡ machines_of home live
  machines = machines_same home live h1 l1 fits a.frame

  heard_tasks : state_of h1 l1 time ≡ with_tasks (heard_all k l xs (tasks_of home live)) (state_of home live time)
  heard_tasks = state_is h1 l1 time (with_tasks (heard_all k l xs (tasks_of home live)) (state_of home live time)) (ap (λ (x : ℕ). x + 1) a.last) machines (jobs_same home live h1 l1 fits a.frame) a.tasks refl

  -- the machine that is heard is the first of its number
  heard_there_lem : machines_with h1 l1 i (map (heard_from l n time) (machine_at h1 l1 i)) ≡ change (is_machine k) (heard_from l n time) (machines_of home live)
  heard_there_lem =
      change_found (is_machine k) (heard_from l n time) (machine_at h1 l1) (machine_rows_lem h1) i there.0 within (same i (let h = there.1 in omega arith) ∙ there.2) there.3
      (ap (find (is_machine k)) (span_same (machine_at h1 l1) (machine_at home live) 0 i (λ j p q. same j (let h = there.1 in omega arith))) ∙ there.4)
      ∙ ap (change (is_machine k) (heard_from l n time)) machines

  module _ (b : MachinesNow (machines_with h1 l1 i (map (heard_from l n time) (machine_at h1 l1 i))) h1 l1 h2 l2) where
    pub noted_state : state_of h2 l2 time ≡ heard k l n xs (state_of home live time)
    noted_state = b.state time ∙ ap (λ (ms : List s.Machine). with_machines ms (state_of h1 l1 time)) heard_there_lem ∙ ap (with_machines (change (is_machine k) (heard_from l n time) (machines_of home live))) heard_tasks

    pub noted_tidy : Tidy (state_of h2 l2 time)
    noted_tidy = subst Tidy (sym noted_state) (fine_heard k l n xs (state_of home live time) fine).tidy

    pub noted_settled : (h3 l3 : List ℕ) → Became (settle (state_of h2 l2 time)) h2 l2 h3 l3 time → state_of h3 l3 time ≡ settle (heard k l n xs (state_of home live time))
    noted_settled h3 l3 c = c.state ∙ ap settle noted_state
