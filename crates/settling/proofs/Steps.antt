-- A job's step, by the ways through it.
-- Assumes nothing.
use Rattle.std.proofs.Common.{◌≡◌, ℕ, ◌<◌, ◌≤◌, true, false, not, eqb, ltb, List, [], ◌∷◌, ◌++◌, length, Some, sym, ap, ◌∙◌, subst}
use Rattle.std.proofs.lemmas.Bool.{eq-eqb, ne_eqb}
use Rattle.model.specs.Lists.{none}
use Rattle.model.specs.State as s
use Rattle.model.specs.State.{with_tasks}
use Rattle.model.specs.Settle.{mine, alive, new_ones, ended, grows, old_to_end, new_to_end, for_job, for_jobs}
use Rattle.model.proofs.Tasks.ByNumber.{Rising}
use Rattle.jobs.specs.Layout.{home_words_lem}
use Rattle.jobs.specs.Rows.{at}
use Rattle.jobs.specs.Tables.{task_at, task_rows_lem, tasks_of, tasks_before, tasks_behind, job_from_lem, job_row_lem, job_at, state_of, TasksOnly, TaskPut}
use Rattle.jobs.specs.Changes.{end_each}
use Rattle.jobs.proofs.Frames.{tasks_at, state_put, frame_none, frame_then}
use Rattle.settling.specs.Scan.{Numbered, OneAt, Became}
use Rattle.settling.proofs.Middles.{ended_mid}
use Rattle.settling.proofs.Scans.{hole, full}

-- the task in row i ends
pub ends_state : (home live home' live' : List ℕ) (time i : ℕ) (t : s.Task) (xs : List s.Task) → home_words_lem ≤ length home → Numbered (state_of home live time) → i < task_rows_lem home → task_at home live i ≡ t ∷ [] → xs ≡ t ∷ [] →
    TaskPut i (end_each (task_at home live i)) home live home' live' → state_of home' live' time ≡ with_tasks (ended xs (tasks_of home live)) (state_of home live time)
ends_state home live home' live' time i t xs fits num w e q p =
    let a = tasks_before home live i in
    let b = tasks_behind home live i in
    let list : tasks_of home live ≡ a ++ (t ∷ b) = tasks_at home live i w ∙ ap (λ (ys : List s.Task). a ++ (ys ++ b)) e in
    let rise : Rising 0 (a ++ (t ∷ b)) = subst (λ (ys : List s.Task). Rising 0 ys) list num.0 in
    let out : ended xs (tasks_of home live) ≡ a ++ (end_each (task_at home live i) ++ b) =
    ap (λ (ys : List s.Task). ended ys (tasks_of home live)) q ∙ ap (ended (t ∷ [])) list ∙ ended_mid a t b [] rise ∙ ap (λ (ys : List s.Task). a ++ (end_each ys ++ b)) (sym e) in
    state_put home live home' live' i _ fits w p time ∙ ap (λ (ys : List s.Task). with_tasks ys (state_of home live time)) (sym out)

none_not : (xs : List s.Task) (t : s.Task) → xs ≡ t ∷ [] → not (none xs) ≡ true
unfolding none
none_not xs t e = rw e

none_so : (xs : List s.Task) → xs ≡ [] → not (none xs) ≡ false
unfolding none
none_so xs e = rw e

module _ (j : s.Job) (st : s.State) where
  pub way_old : (t : s.Task) → old_to_end j st ≡ t ∷ [] → for_job j st ≡ grows j (with_tasks (ended (old_to_end j st) st.tasks) st)
  way_old t e = rw (none_not (old_to_end j st) t e)

  pub way_new : old_to_end j st ≡ [] → ltb j.count (length (new_ones j (alive (mine j st.tasks)))) ≡ true → for_job j st ≡ with_tasks (ended (new_to_end j st) st.tasks) st
  way_new e f = rw (none_so (old_to_end j st) e, f)

  pub way_grow : old_to_end j st ≡ [] → ltb j.count (length (new_ones j (alive (mine j st.tasks)))) ≡ false → for_job j st ≡ grows j st
  way_grow e f = rw (none_so (old_to_end j st) e, f)

-- nobody ends
pub ends_none : (xs : List s.Task) (st : s.State) → xs ≡ [] → st ≡ with_tasks (ended xs st.tasks) st
unfolding ended
ends_none xs st e = rw e

pub jobs_one : (home : List ℕ) (j : ℕ) (st : s.State) (row : List ℕ) → row ≡ job_row_lem home j → (at row 0 ≡ 0 → ⊥) → for_job (job_from_lem (job_row_lem home j)) st ≡ for_jobs (job_at home j) st
unfolding for_jobs
jobs_one home j st row r ne = sym (ap (λ (js : List s.Job). for_jobs js st) (full (eqb (at (job_row_lem home j) 0) 0) (job_from_lem (job_row_lem home j)) (ne_eqb (at (job_row_lem home j) 0) 0 (λ e. ne (ap (λ (x : List ℕ). at x 0) r ∙ e)))))

pub jobs_none : (home : List ℕ) (j : ℕ) (st : s.State) (row : List ℕ) → row ≡ job_row_lem home j → at row 0 ≡ 0 → st ≡ for_jobs (job_at home j) st
unfolding for_jobs
jobs_none home j st row r z = sym (ap (λ (js : List s.Job). for_jobs js st) (hole (eqb (at (job_row_lem home j) 0) 0) (job_from_lem (job_row_lem home j)) (eq-eqb (at (job_row_lem home j) 0) 0 (sym (ap (λ (x : List ℕ). at x 0) r) ∙ z))))

module _ (j : s.Job) (home live : List ℕ) (time : ℕ) (fits : home_words_lem ≤ length home) (num : Numbered (state_of home live time)) where
  -- an older one ends, and a new one may come
  pub for_old : (i : ℕ) (mid home' live' : List ℕ) → OneAt (task_at home live) (task_rows_lem home) (Some i) (old_to_end j (state_of home live time)) → TaskPut i (end_each (task_at home live i)) home live mid live →
      state_of home' live' time ≡ grows j (state_of mid live time) → TasksOnly mid live home' live' → Became (for_job j (state_of home live time)) home live home' live' time
  for_old i mid home' live' k p q fr = record {
    state = q ∙ ap (grows j) (ends_state home live mid live time i k.0 (old_to_end j (state_of home live time)) fits num k.1 k.2 k.3 p) ∙ sym (way_old j (state_of home live time) k.0 k.3);
    frame = frame_then home live mid live home' live' p.frame fr;
  }

  -- one too many ends
  pub for_new : (i : ℕ) (home' : List ℕ) → old_to_end j (state_of home live time) ≡ [] → ltb j.count (length (new_ones j (alive (mine j (tasks_of home live))))) ≡ true → OneAt (task_at home live) (task_rows_lem home) (Some i) (new_to_end j (state_of home live time)) →
      TaskPut i (end_each (task_at home live i)) home live home' live → Became (for_job j (state_of home live time)) home live home' live time
  for_new i home' e f k p = record {
    state = ends_state home live home' live time i k.0 (new_to_end j (state_of home live time)) fits num k.1 k.2 k.3 p ∙ sym (way_new j (state_of home live time) e f);
    frame = p.frame;
  }

  pub for_none : old_to_end j (state_of home live time) ≡ [] → ltb j.count (length (new_ones j (alive (mine j (tasks_of home live))))) ≡ true → new_to_end j (state_of home live time) ≡ [] → Became (for_job j (state_of home live time)) home live home live time
  for_none e f k = record { state = ends_none (new_to_end j (state_of home live time)) (state_of home live time) k ∙ sym (way_new j (state_of home live time) e f); frame = frame_none home live }

  pub for_grow : (home' live' : List ℕ) → old_to_end j (state_of home live time) ≡ [] → ltb j.count (length (new_ones j (alive (mine j (tasks_of home live))))) ≡ false → state_of home' live' time ≡ grows j (state_of home live time) → TasksOnly home live home' live' → Became (for_job j (state_of home live time)) home live home' live' time
  for_grow home' live' e f q fr = record { state = q ∙ sym (way_grow j (state_of home live time) e f); frame = fr }

pub became_job : (home live home' live' : List ℕ) (time j : ℕ) (row : List ℕ) (x : s.Job) → row ≡ job_row_lem home j → (at row 0 ≡ 0 → ⊥) → x ≡ job_from_lem row → Became (for_job x (state_of home live time)) home live home' live' time → Became (for_jobs (job_at home j) (state_of home live time)) home live home' live' time
became_job home live home' live' time j row x r ne e b = record {
  state = b.state ∙ ap (λ (y : s.Job). for_job y (state_of home live time)) (e ∙ ap job_from_lem r) ∙ jobs_one home j (state_of home live time) row r ne;
  frame = b.frame;
}

pub became_none : (home live : List ℕ) (time j : ℕ) (row : List ℕ) → row ≡ job_row_lem home j → at row 0 ≡ 0 → Became (for_jobs (job_at home j) (state_of home live time)) home live home live time
became_none home live time j row r z = record { state = jobs_none home j (state_of home live time) row r z; frame = frame_none home live }
