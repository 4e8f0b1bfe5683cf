-- What a change of tasks leaves alone.
-- Assumes nothing.
use Rattle.std.proofs.Common.{◌≡◌, ℕ, ◌+◌, ◌-◌, ◌*◌, ◌<◌, ◌≤◌, min, List, ◌++◌, length, take, drop, refl, ap, ◌∙◌, inl, inr, arith}
use Rattle.std.proofs.lemmas.Bool.{cases_lt}
use Rattle.model.specs.State as s
use Rattle.model.specs.State.{with_tasks}
use Rattle.jobs.specs.Layout.{home_words_lem, task_base}
use Rattle.jobs.specs.Rows.{at, span, Only}
use Rattle.jobs.specs.Tables.{task_at, task_row_lem, task_rows_lem, tasks_of, task_slot, job_at, job_row_lem, job_rows_lem, jobs_of, job_slot, machine_at, machine_row_lem, machine_rows_lem, machines_of, machine_slot, state_of, TasksOnly, TaskPut, tasks_before, tasks_behind}
use Rattle.jobs.proofs.Spans.{span_same, span_at}
use Rattle.jobs.proofs.Words.{row_same, only_row}

module _ (home live home' live' : List ℕ) (fits : home_words_lem ≤ length home) (f : TasksOnly home live home' live') where
  part_same : (o w : ℕ) → 4 ≤ o → o + w ≤ task_base → take w (drop o home') ≡ take w (drop o home)
  part_same o w p q = row_same w o home' home f.long (omega arith) (λ j h. f.words (o + j) (omega arith) (λ e. omega arith) (λ e. omega arith))

  pub job_same : (i : ℕ) → i < 256 → job_at home' i ≡ job_at home i
  job_same i h = ap job_slot (part_same (8 + i * 26) 26 (omega arith) (omega arith))

  pub job_row_same : (i : ℕ) → i < 256 → job_row_lem home' i ≡ job_row_lem home i
  job_row_same i h = part_same (8 + i * 26) 26 (omega arith) (omega arith)

  pub machine_same : (i : ℕ) → i < 256 → machine_at home' live' i ≡ machine_at home live i
  machine_same i h =
      ap (λ (r : List ℕ). machine_slot r (at live' i)) (part_same (6664 + i * 24) 24 (omega arith) (omega arith)) ∙ ap (machine_slot (machine_row_lem home i)) (f.heard i (omega arith))

  pub job_rows_same : job_rows_lem home' ≡ job_rows_lem home
  job_rows_same = ap (λ (n : ℕ). min n 256) (f.words 1 (omega arith) (λ e. omega arith) (λ e. omega arith))

  pub machine_rows_same : machine_rows_lem home' ≡ machine_rows_lem home
  machine_rows_same = ap (λ (n : ℕ). min n 256) (f.words 2 (omega arith) (λ e. omega arith) (λ e. omega arith))

  pub jobs_same : jobs_of home' ≡ jobs_of home
  jobs_same = ap (span (job_at home') 0) job_rows_same ∙ span_same (job_at home') (job_at home) 0 (job_rows_lem home) (λ k l h. job_same k (omega arith))

  pub machines_same : machines_of home' live' ≡ machines_of home live
  machines_same = ap (span (machine_at home' live') 0) machine_rows_same ∙ span_same (machine_at home' live') (machine_at home live) 0 (machine_rows_lem home) (λ k l h. machine_same k (omega arith))

pub frame_none : (home live : List ℕ) → TasksOnly home live home live
frame_none home live = record { long = refl; long_live = refl; words = λ k h p q. refl; heard = λ k h. refl }

pub frame_then : (h1 l1 h2 l2 h3 l3 : List ℕ) → TasksOnly h1 l1 h2 l2 → TasksOnly h2 l2 h3 l3 → TasksOnly h1 l1 h3 l3
frame_then h1 l1 h2 l2 h3 l3 a b = record { long = b.long ∙ a.long; long_live = b.long_live ∙ a.long_live; words = λ k h p q. b.words k h p q ∙ a.words k h p q; heard = λ k h. b.heard k h ∙ a.heard k h }

-- a write to row i of the tasks, and to nothing else of home
module _ (home live home' live' : List ℕ) (i : ℕ) (fits : home_words_lem ≤ length home) (within : i < 2048) where
  pub other_row : Only (12808 + i * 27) (12808 + i * 27 + 27) home' home → (j : ℕ) → j < 2048 → (j ≡ i → ⊥) → task_row_lem home' j ≡ task_row_lem home j
  other_row o j h ne =
      only_row (12808 + i * 27) (12808 + i * 27 + 27) (12808 + j * 27) 27 home' home o (omega arith)
      (elim (cases_lt j i) [ inl lt ↦ inl (omega arith) | inr ge ↦ inr (let n : i < j = over ge ne in omega arith) ])
    where
      over : i ≤ j → (j ≡ i → ⊥) → i < j
      over g n = omega arith

  pub put_task : (xs : List s.Task) → Only (12808 + i * 27) (12808 + i * 27 + 27) home' home → Only (256 + i) (256 + i + 1) live' live → task_at home' live' i ≡ xs → TaskPut i xs home live home' live'
  put_task xs o u e = record {
    here = e;
    others = λ j h ne. ap (λ (r : List ℕ). task_slot r (at live' (256 + j))) (other_row o j h ne) ∙ ap (task_slot (task_row_lem home j)) (flag j ne);
    rows = o.below 3 (omega arith);
    last = o.below 0 (omega arith);
    frame = record { long = o.long; long_live = u.long; words = λ k h p q. o.below k (omega arith); heard = λ k h. u.below k (omega arith) };
  }
    where
      over : (j : ℕ) → i ≤ j → (j ≡ i → ⊥) → i < j
      over j g n = omega arith

      flag : (j : ℕ) → (j ≡ i → ⊥) → at live' (256 + j) ≡ at live (256 + j)
      flag j ne = elim (cases_lt j i) [ inl lt ↦ u.below (256 + j) (omega arith) | inr ge ↦ u.above (256 + j) (let n : i < j = over j ge ne in omega arith) ]

-- what a put makes of the state
module _ (home live home' live' : List ℕ) (i : ℕ) (xs : List s.Task) (fits : home_words_lem ≤ length home) (within : i < task_rows_lem home) (p : TaskPut i xs home live home' live') where
  pub rows_kept : task_rows_lem home' ≡ task_rows_lem home
  rows_kept = ap (λ (n : ℕ). min n 2048) p.rows

  pub before_kept : tasks_before home' live' i ≡ tasks_before home live i
  before_kept = span_same (task_at home' live') (task_at home live) 0 i (λ k l h. p.others k (omega arith) (λ e. omega arith))

  pub behind_kept : span (task_at home' live') (i + 1) (task_rows_lem home' - (i + 1)) ≡ tasks_behind home live i
  behind_kept = rw rows_kept (span_same (task_at home' live') (task_at home live) (i + 1) (task_rows_lem home - (i + 1)) (λ k l h. p.others k (omega arith) (λ e. omega arith)))

  pub tasks_put : tasks_of home' live' ≡ tasks_before home live i ++ (xs ++ tasks_behind home live i)
  tasks_put =
      let w : i < task_rows_lem home' = omega (arith, rows_kept) in
      let a = span_at (task_at home' live') i (task_rows_lem home') w in
      let b = before_kept in let c = behind_kept in let d = p.here in cc

  pub state_put : (now : ℕ) → state_of home' live' now ≡ with_tasks (tasks_before home live i ++ (xs ++ tasks_behind home live i)) (state_of home live now)
  state_put now = λ k. record {
    now = now;
    next_id = ap (λ (n : ℕ). n + 1) p.last k;
    machines = machines_same home live home' live' fits p.frame k;
    jobs = jobs_same home live home' live' fits p.frame k;
    tasks = tasks_put k;
  }

pub tasks_at : (home live : List ℕ) (i : ℕ) → i < task_rows_lem home → tasks_of home live ≡ tasks_before home live i ++ (task_at home live i ++ tasks_behind home live i)
tasks_at home live i h = span_at (task_at home live) i (task_rows_lem home) h
