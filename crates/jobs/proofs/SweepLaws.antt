-- All rows of tasks in turn, each changed by itself: the list is changed as a whole.
-- Assumes nothing.
use Rattle.std.proofs.Common.{◌≡◌, ℕ, ◌+◌, ◌<◌, ◌≤◌, min, List, [], ◌++◌, length, sym, refl, ap, ◌∙◌, arith}
use Rattle.model.specs.State as s
use Rattle.model.specs.State.{with_tasks}
use Rattle.jobs.specs.Layout.{home_words_lem}
use Rattle.jobs.specs.Rows.{at, span}
use Rattle.jobs.specs.Tables.{task_at, task_rows_lem, tasks_of, state_of, TasksOnly, TaskPut, TasksNow}
use Rattle.jobs.proofs.Spans.{span_none, span_more, span_same}
use Rattle.jobs.proofs.Frames.{frame_none, frame_then, jobs_same, machines_same}

-- what the state is when the list of tasks is ts
pub now_state : (home live home' live' : List ℕ) (time : ℕ) (ts : List s.Task) → home_words_lem ≤ length home → TasksNow ts home live home' live' → state_of home' live' time ≡ with_tasks ts (state_of home live time)
now_state home live home' live' time ts fits p = λ k. record {
  now = time;
  next_id = ap (λ (n : ℕ). n + 1) p.last k;
  machines = machines_same home live home' live' fits p.frame k;
  jobs = jobs_same home live home' live' fits p.frame k;
  tasks = p.tasks k;
}

-- F goes over a list part by part
module _ (F : List s.Task → List s.Task) (none : F [] ≡ []) (parts : (xs ys : List s.Task) → F (xs ++ ys) ≡ F xs ++ F ys) where
  -- rows up to i are changed
  pub record Swept (h0 l0 : List ℕ) (i : ℕ) (home live : List ℕ) : Type 0 where
    pub list : span (task_at home live) 0 i ≡ F (span (task_at h0 l0) 0 i)
    pub ahead : (k : ℕ) → i ≤ k → k < 2048 → task_at home live k ≡ task_at h0 l0 k
    pub rows : at home 3 ≡ at h0 3
    pub last : at home 0 ≡ at h0 0
    pub frame : TasksOnly h0 l0 home live

  pub swept_none : (h0 l0 : List ℕ) → Swept h0 l0 0 h0 l0
  swept_none h0 l0 = record { list = span_none (task_at h0 l0) 0 ∙ sym (ap F (span_none (task_at h0 l0) 0) ∙ none); ahead = λ k a b. refl; rows = refl; last = refl; frame = frame_none h0 l0 }

  pub swept_more : (h0 l0 home live home' live' : List ℕ) (i : ℕ) → i < 2048 → Swept h0 l0 i home live → TaskPut i (F (task_at home live i)) home live home' live' → Swept h0 l0 (i + 1) home' live'
  swept_more h0 l0 home live home' live' i w c p =
      let front : span (task_at home' live') 0 i ≡ span (task_at home live) 0 i = span_same (task_at home' live') (task_at home live) 0 i (λ k a b. p.others k (omega arith) (λ e. omega arith)) in
      let here : task_at home' live' i ≡ F (task_at h0 l0 i) = p.here ∙ ap F (c.ahead i (omega arith) w) in
      record {
        list = span_more (task_at home' live') i ∙ ap (λ (xs : List s.Task). xs ++ task_at home' live' i) (front ∙ c.list) ∙ ap (λ (xs : List s.Task). F (span (task_at h0 l0) 0 i) ++ xs) here ∙ sym (ap F (span_more (task_at h0 l0) i) ∙ parts (span (task_at h0 l0) 0 i) (task_at h0 l0 i));
        ahead = λ k a b. p.others k b (λ e. omega arith) ∙ c.ahead k (omega arith) b;
        rows = p.rows ∙ c.rows;
        last = p.last ∙ c.last;
        frame = frame_then h0 l0 home live home' live' c.frame p.frame;
      }

  pub swept_all : (h0 l0 home live : List ℕ) (n i : ℕ) → n ≡ task_rows_lem h0 → i ≡ n → Swept h0 l0 i home live → TasksNow (F (tasks_of h0 l0)) h0 l0 home live
  swept_all h0 l0 home live n i e j c =
      let a : task_rows_lem home ≡ i = ap (λ (k : ℕ). min k 2048) c.rows ∙ sym (j ∙ e) in
      record { tasks = ap (span (task_at home live) 0) a ∙ c.list ∙ ap (λ (k : ℕ). F (span (task_at h0 l0) 0 k)) (j ∙ e); last = c.last; frame = c.frame }

-- a row that stays
pub put_same : (home live : List ℕ) (i : ℕ) (xs : List s.Task) → task_at home live i ≡ xs → TaskPut i xs home live home live
put_same home live i xs e = record { here = e; others = λ j h ne. refl; rows = refl; last = refl; frame = frame_none home live }
