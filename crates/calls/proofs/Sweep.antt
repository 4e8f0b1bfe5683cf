-- All rows of tasks in turn, each changed by itself: the list is then changed as a whole.
-- Assumes nothing.
use Rattle.std.proofs.Common.{◌≡◌, ℕ, ◌+◌, ◌<◌, ◌≤◌, min, List, [], ◌++◌, sym, refl, ap, ◌∙◌, arith}
use Rattle.model.specs.State as s
use Rattle.jobs.specs.Rows.{at, span}
use Rattle.jobs.specs.Tables.{task_at, task_rows_lem, tasks_of, TasksOnly, TaskPut, TasksNow}
use Rattle.jobs.proofs.Spans.{span_none, span_more, span_same}
use Rattle.jobs.proofs.Frames.{frame_none, frame_then}

-- a change of lists of tasks that goes task by task
pub record Each (g : List s.Task → List s.Task) : Type 0 where
  pub none : g [] ≡ []
  pub both : (xs ys : List s.Task) → g (xs ++ ys) ≡ g xs ++ g ys

-- rows before i are changed, the others are as they were
pub record Swept (g : List s.Task → List s.Task) (h0 l0 : List ℕ) (i : ℕ) (home live : List ℕ) : Type 0 where
  pub list : span (task_at home live) 0 i ≡ g (span (task_at h0 l0) 0 i)
  pub ahead : (k : ℕ) → i ≤ k → k < 2048 → task_at home live k ≡ task_at h0 l0 k
  pub rows : at home 3 ≡ at h0 3
  pub last : at home 0 ≡ at h0 0
  pub frame : TasksOnly h0 l0 home live

module _ (g : List s.Task → List s.Task) (e : Each g) (h0 l0 : List ℕ) where
  pub swept_none : Swept g h0 l0 0 h0 l0
  swept_none = record { list = span_none (task_at h0 l0) 0 ∙ sym (ap g (span_none (task_at h0 l0) 0) ∙ e.none); ahead = λ k a b. refl; rows = refl; last = refl; frame = frame_none h0 l0 }

  pub swept_more : (home live home' live' : List ℕ) (i : ℕ) → i < 2048 → Swept g h0 l0 i home live → TaskPut i (g (task_at home live i)) home live home' live' → Swept g h0 l0 (i + 1) home' live'
  swept_more home live home' live' i w c p =
      let front : span (task_at home' live') 0 i ≡ span (task_at home live) 0 i = span_same (task_at home' live') (task_at home live) 0 i (λ k a b. p.others k (omega arith) (λ q. omega arith)) in
      let here : task_at home' live' i ≡ g (task_at h0 l0 i) = p.here ∙ ap g (c.ahead i (omega arith) w) in
      record {
        list = span_more (task_at home' live') i ∙ ap (λ (xs : List s.Task). xs ++ task_at home' live' i) (front ∙ c.list) ∙ ap (λ (xs : List s.Task). g (span (task_at h0 l0) 0 i) ++ xs) here ∙ sym (ap g (span_more (task_at h0 l0) i) ∙ e.both (span (task_at h0 l0) 0 i) (task_at h0 l0 i));
        ahead = λ k a b. p.others k b (λ q. omega arith) ∙ c.ahead k (omega arith) b;
        rows = p.rows ∙ c.rows;
        last = p.last ∙ c.last;
        frame = frame_then h0 l0 home live home' live' c.frame p.frame;
      }

  pub swept_all : (home live : List ℕ) (n i : ℕ) → n ≡ task_rows_lem h0 → n ≤ i → i ≤ n → Swept g h0 l0 i home live → TasksNow (g (tasks_of h0 l0)) h0 l0 home live
  swept_all home live n i r a b c =
      let k : i ≡ task_rows_lem h0 = omega (arith, r) in
      let t : tasks_of home live ≡ span (task_at home live) 0 i = ap (λ (x : ℕ). span (task_at home live) 0 (min x 2048)) c.rows ∙ ap (span (task_at home live) 0) (sym k) in
      record { tasks = t ∙ c.list ∙ ap (λ (x : ℕ). g (span (task_at h0 l0) 0 x)) k; last = c.last; frame = c.frame }

-- a row that stays as it is
pub put_same : (home live : List ℕ) (i : ℕ) (xs : List s.Task) → task_at home live i ≡ xs → TaskPut i xs home live home live
put_same home live i xs e = record { here = e; others = λ j h ne. refl; rows = refl; last = refl; frame = frame_none home live }
