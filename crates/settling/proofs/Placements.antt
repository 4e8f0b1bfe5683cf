-- Tasks that wait are placed, row by row.
-- Assumes nothing.
use Rattle.std.proofs.Common.{◌≡◌, ℕ, suc, ◌+◌, ◌-◌, ◌%◌, ◌<◌, ◌≤◌, min, Bool, true, false, cond, eqb, List, [], ◌∷◌, ◌++◌, length, sym, refl, ap, ◌∙◌, subst, inl, inr, arith}
use Rattle.std.proofs.lemmas.Bool.{cases_Bool}
use Rattle.model.specs.Lists.{keep}
use Rattle.model.specs.State as s
use Rattle.model.specs.State.{is_waiting, placed, with_tasks}
use Rattle.model.specs.Settle.{takes, best, place, place_all_lem, placing, orphans_end, for_jobs, unplaced, settle}
use Rattle.model.proofs.Lists.Members.{In}
use Rattle.model.proofs.Lists.Kept.{in_keep}
use Rattle.model.proofs.Tasks.ByNumber.{Rising}
use Rattle.model.proofs.Tasks.Placing.{Queue, Put, put_id, Never, places_pass}
use Rattle.model.proofs.Tasks.Steps.{orphans_pass}
use Rattle.model.specs.Calls.{Show}
use Rattle.model.specs.Promise.{Good}
use Rattle.model.proofs.Settles.{Tidy, tidy_pass, tidy_unplaced, tidy_settle, orphan_id, fine_from}
use Rattle.model.proofs.Acts.Good.{stay_good}
use Rattle.jobs.specs.Layout.{home_words_lem}
use Rattle.jobs.specs.Rows.{at, span}
use Rattle.jobs.specs.Tables.{task_at, task_rows_lem, tasks_of, tasks_before, tasks_behind, jobs_of, machines_of, machine_at, machine_row_lem, machine_from, state_of, TasksOnly, TaskPut, TasksNow}
use Rattle.jobs.specs.Changes.{place_each}
use Rattle.jobs.proofs.Spans.{span_same, span_rest, span_end}
use Rattle.jobs.proofs.Frames.{tasks_at, tasks_put, frame_none, frame_then, jobs_same, machines_same}
use Rattle.settling.specs.Scan.{Numbered, Became}
use Rattle.settling.specs.Place.{waits, PlacedRow}
use Rattle.settling.proofs.Scans.{keep_none, keep_one, keep_append}
use Rattle.settling.proofs.Middles.{place_mid}
use Rattle.settling.proofs.Tallies.{row_few}
use Rattle.jobs.proofs.SweepLaws.{now_state}

all_none : (time : ℕ) (ms : List s.Machine) (ts : List s.Task) → place_all_lem time ms [] ts ≡ ts
unfolding place_all_lem
all_none time ms ts = refl

all_one : (time : ℕ) (ms : List s.Machine) (t : s.Task) (ts : List s.Task) → place_all_lem time ms (t ∷ []) ts ≡ place t (best (keep (takes time t ts) ms) ts) ts
unfolding place_all_lem
all_one time ms t ts = refl

all_append : (time : ℕ) (ms : List s.Machine) (xs ys ts : List s.Task) → place_all_lem time ms (xs ++ ys) ts ≡ place_all_lem time ms ys (place_all_lem time ms xs ts)
unfolding place_all_lem
all_append time ms [] ys ts = refl
all_append time ms (x ∷ xs) ys ts = all_append time ms xs ys (place x (best (keep (takes time x ts) ms) ts) ts)

place_none : (t : s.Task) (ts : List s.Task) → place t [] ts ≡ ts
unfolding place
place_none t ts = refl

-- ONE ROW

module _ (home live : List ℕ) (i time : ℕ) where
  stay : waits (task_at home live i) ≡ [] → PlacedRow i home live home live time
  stay e = record {
    put = (task_at home live i, record { here = refl; others = λ j h ne. refl; rows = refl; last = refl; frame = frame_none home live });
    tasks = sym (ap (λ (ws : List s.Task). place_all_lem time (machines_of home live) ws (tasks_of home live)) e ∙ all_none time (machines_of home live) (tasks_of home live));
  }

  pub placed_hole : task_at home live i ≡ [] → PlacedRow i home live home live time
  placed_hole e = stay (ap waits e ∙ keep_none (λ (t : s.Task). is_waiting t.phase))

  pub placed_other : (t : s.Task) → task_at home live i ≡ t ∷ [] → is_waiting t.phase ≡ false → PlacedRow i home live home live time
  placed_other t e n = stay (ap waits e ∙ keep_one (λ (u : s.Task). is_waiting u.phase) t ∙ rw n)

  module _ (t : s.Task) (is : task_at home live i ≡ t ∷ []) (w : is_waiting t.phase ≡ true) where
    one : waits (task_at home live i) ≡ t ∷ []
    one = ap waits is ∙ keep_one (λ (u : s.Task). is_waiting u.phase) t ∙ rw w

    goal : (ms : List s.Machine) → best (keep (takes time t (tasks_of home live)) (machines_of home live)) (tasks_of home live) ≡ ms → place_all_lem time (machines_of home live) (waits (task_at home live i)) (tasks_of home live) ≡ place t ms (tasks_of home live)
    goal ms e = ap (λ (ws : List s.Task). place_all_lem time (machines_of home live) ws (tasks_of home live)) one ∙ all_one time (machines_of home live) t (tasks_of home live) ∙ ap (λ (xs : List s.Machine). place t xs (tasks_of home live)) e

    pub placed_none : best (keep (takes time t (tasks_of home live)) (machines_of home live)) (tasks_of home live) ≡ [] → PlacedRow i home live home live time
    placed_none e = record {
      put = (task_at home live i, record { here = refl; others = λ j h ne. refl; rows = refl; last = refl; frame = frame_none home live });
      tasks = sym (goal [] e ∙ place_none t (tasks_of home live));
    }

    pub placed_some : (home' live' : List ℕ) (m : s.Machine) → home_words_lem ≤ length home → i < task_rows_lem home → Numbered (state_of home live time) → best (keep (takes time t (tasks_of home live)) (machines_of home live)) (tasks_of home live) ≡ m ∷ [] →
        TaskPut i (place_each m.num m.life (task_at home live i)) home live home' live' → PlacedRow i home live home' live' time
    placed_some home' live' m fits h num e p =
        let a = tasks_before home live i in
        let b = tasks_behind home live i in
        let list : tasks_of home live ≡ a ++ (t ∷ b) = tasks_at home live i h ∙ ap (λ (ys : List s.Task). a ++ (ys ++ b)) is in
        let rise : Rising 0 (a ++ (t ∷ b)) = subst (λ (ys : List s.Task). Rising 0 ys) list num.0 in
        let out : place t (m ∷ []) (tasks_of home live) ≡ a ++ (place_each m.num m.life (task_at home live i) ++ b) =
        ap (place t (m ∷ [])) list ∙ place_mid a t b m [] rise ∙ ap (λ (ys : List s.Task). a ++ (place_each m.num m.life ys ++ b)) (sym is) in
        record { put = (place_each m.num m.life (task_at home live i), p); tasks = tasks_put home live home' live' i _ fits h p ∙ sym (goal (m ∷ []) e ∙ out) }

-- ALL ROWS

in_left : (t : s.Task) (xs ys : List s.Task) → In t xs → In t (xs ++ ys)
in_left t [] ys h = absurd h
in_left t (x ∷ xs) ys (inl e) = inl e
in_left t (x ∷ xs) ys (inr h) = inr (in_left t xs ys h)

in_right : (t : s.Task) (xs ys : List s.Task) → In t ys → In t (xs ++ ys)
in_right t [] ys h = h
in_right t (x ∷ xs) ys h = inr (in_right t xs ys h)

few_rise : (xs : List s.Task) → length xs ≤ 1 → Rising 0 (waits xs)
unfolding keep
few_rise [] h = tt
few_rise (x ∷ []) h = elim (cases_Bool (is_waiting x.phase)) [ inl t ↦ rw t (omega arith, tt) | inr n ↦ rw n tt ]
few_rise (x ∷ y ∷ ys) h = absurd (let q : suc (suc (length ys)) ≤ 1 = h in omega arith)

row_queue : (home live : List ℕ) (i time : ℕ) → i < task_rows_lem home → Numbered (state_of home live time) → Queue 0 (waits (task_at home live i)) (tasks_of home live)
row_queue home live i time h num = record {
  rises = few_rise (task_at home live i) (row_few home live i);
  there = λ t k.
      let q = in_keep (λ (u : s.Task). is_waiting u.phase) (task_at home live i) t k in
      (subst (λ (xs : List s.Task). In t xs) (sym (tasks_at home live i h)) (in_right t (tasks_before home live i) _ (in_left t (task_at home live i) (tasks_behind home live i) q.0)), q.1);
  low = num.0;
}

pub record Placing (h0 l0 : List ℕ) (time i : ℕ) (home live : List ℕ) : Type 0 where
  pub rest : place_all_lem time (machines_of h0 l0) (waits (span (task_at home live) i (task_rows_lem h0 - i))) (tasks_of home live) ≡ place_all_lem time (machines_of h0 l0) (waits (tasks_of h0 l0)) (tasks_of h0 l0)
  pub numbered : Numbered (state_of home live time)
  pub rows : at home 3 ≡ at h0 3
  pub last : at home 0 ≡ at h0 0
  pub frame : TasksOnly h0 l0 home live

pub placing_none : (h0 l0 : List ℕ) (time : ℕ) → Numbered (state_of h0 l0 time) → Placing h0 l0 time 0 h0 l0
placing_none h0 l0 time n = record {
  rest = (let e : task_rows_lem h0 - 0 ≡ task_rows_lem h0 = omega arith in ap (λ (k : ℕ). place_all_lem time (machines_of h0 l0) (waits (span (task_at h0 l0) 0 k)) (tasks_of h0 l0)) e);
  numbered = n;
  rows = refl;
  last = refl;
  frame = frame_none h0 l0;
}

pub placing_more : (h0 l0 : List ℕ) (time i : ℕ) (home live home' live' : List ℕ) → home_words_lem ≤ length h0 → i < task_rows_lem h0 → Placing h0 l0 time i home live → PlacedRow i home live home' live' time → Placing h0 l0 time (i + 1) home' live'
placing_more h0 l0 time i home live home' live' fits w c q =
    let p = q.put.1 in
    let n = task_rows_lem h0 in
    let fits' : home_words_lem ≤ length home = (let e = c.frame.long in omega arith) in
    let ms : machines_of home live ≡ machines_of h0 l0 = machines_same h0 l0 home live fits c.frame in
    let rows' : task_rows_lem home ≡ task_rows_lem h0 = ap (λ (k : ℕ). min k 2048) c.rows in
    let now' : tasks_of home' live' ≡ place_all_lem time (machines_of h0 l0) (waits (task_at home live i)) (tasks_of home live) = q.tasks ∙ ap (λ (xs : List s.Machine). place_all_lem time xs (waits (task_at home live i)) (tasks_of home live)) ms in
    let ahead : span (task_at home' live') (i + 1) (n - (i + 1)) ≡ span (task_at home live) (i + 1) (n - (i + 1)) = span_same (task_at home' live') (task_at home live) (i + 1) (n - (i + 1)) (λ k a b. p.others k (omega arith) (λ e. omega arith)) in
    let cut : waits (span (task_at home live) i (n - i)) ≡ waits (task_at home live i) ++ waits (span (task_at home live) (i + 1) (n - (i + 1))) = ap waits (span_rest (task_at home live) i n w) ∙ keep_append (λ (t : s.Task). is_waiting t.phase) (task_at home live i) (span (task_at home live) (i + 1) (n - (i + 1))) in
    let st : state_of home' live' time ≡ with_tasks (place_all_lem time (machines_of home live) (waits (task_at home live i)) (tasks_of home live)) (state_of home live time) = now_state home live home' live' time _ fits' (record { tasks = q.tasks; last = p.last; frame = p.frame }) in
    record {
      rest = ap (λ (xs : List s.Task). place_all_lem time (machines_of h0 l0) (waits xs) (tasks_of home' live')) ahead ∙ ap (place_all_lem time (machines_of h0 l0) (waits (span (task_at home live) (i + 1) (n - (i + 1))))) now' ∙
          sym (ap (λ (xs : List s.Task). place_all_lem time (machines_of h0 l0) xs (tasks_of home live)) cut ∙ all_append time (machines_of h0 l0) (waits (task_at home live i)) (waits (span (task_at home live) (i + 1) (n - (i + 1)))) (tasks_of home live)) ∙ c.rest;
      numbered = subst (λ (u : s.State). Tidy u) (sym st) (tidy_pass Never Put put_id (state_of home live time) (places_pass time 0 (machines_of home live) (waits (task_at home live i)) (tasks_of home live) (row_queue home live i time (omega arith) c.numbered)) c.numbered);
      rows = p.rows ∙ c.rows;
      last = p.last ∙ c.last;
      frame = frame_then h0 l0 home live home' live' c.frame p.frame;
    }

pub placing_all : (h0 l0 : List ℕ) (time i : ℕ) (home live : List ℕ) → home_words_lem ≤ length h0 → task_rows_lem h0 ≤ i → Placing h0 l0 time i home live → Became (placing (state_of h0 l0 time)) h0 l0 home live time
placing_all h0 l0 time i home live fits h c =
    let e : waits (span (task_at home live) i (task_rows_lem h0 - i)) ≡ [] = ap waits (span_end (task_at home live) i (task_rows_lem h0) h) ∙ keep_none (λ (t : s.Task). is_waiting t.phase) in
    let ts : tasks_of home live ≡ place_all_lem time (machines_of h0 l0) (waits (tasks_of h0 l0)) (tasks_of h0 l0) = sym (all_none time (machines_of h0 l0) (tasks_of home live)) ∙ ap (λ (xs : List s.Task). place_all_lem time (machines_of h0 l0) xs (tasks_of home live)) (sym e) ∙ c.rest in
    record { state = now_state h0 l0 home live time _ fits (record { tasks = ts; last = c.last; frame = c.frame }); frame = c.frame }

-- THE PASS

module _ (home live mid home1 live1 home2 live2 : List ℕ) (time : ℕ) (fits : home_words_lem ≤ length home) (num : Numbered (state_of home live time)) (o : TasksNow (orphans_end (jobs_of home) (tasks_of home live)) home live mid live) where
  swept : state_of mid live time ≡ with_tasks (orphans_end (jobs_of home) (tasks_of home live)) (state_of home live time)
  swept = now_state home live mid live time _ fits o

  pub swept_numbered : Numbered (state_of mid live time)
  swept_numbered = subst (λ (u : s.State). Tidy u) (sym swept) (tidy_pass _ _ (orphan_id (jobs_of home)) (state_of home live time) (orphans_pass (jobs_of home) (tasks_of home live)) num)

  module _ (j : Became (for_jobs (jobs_of mid) (state_of mid live time)) mid live home1 live1 time) where
    stepped : state_of home1 live1 time ≡ unplaced (state_of home live time)
    stepped = j.state ∙ ap (λ (js : List s.Job). for_jobs js (state_of mid live time)) (jobs_same home live mid live fits o.frame) ∙ ap (for_jobs (jobs_of home)) swept

    pub stepped_numbered : Numbered (state_of home1 live1 time)
    stepped_numbered = subst (λ (u : s.State). Tidy u) (sym stepped) (tidy_unplaced (state_of home live time) num)

    pub passed : Became (placing (state_of home1 live1 time)) home1 live1 home2 live2 time → Became (settle (state_of home live time)) home live home2 live2 time
    passed p = record {
      state = p.state ∙ ap placing stepped;
      frame = frame_then home live home1 live1 home2 live2 (frame_then home live mid live home1 live1 o.frame j.frame) p.frame;
    }

-- what a pass keeps
module _ (home live home2 live2 : List ℕ) (time : ℕ) where
  pub numbered_stays : Numbered (state_of home live time) → Became (settle (state_of home live time)) home live home2 live2 time → Numbered (state_of home2 live2 time)
  numbered_stays num b = subst (λ (u : s.State). Tidy u) (sym b.state) (tidy_settle (state_of home live time) num)

  pub good_stays : Became (settle (state_of home live time)) home live home2 live2 time → Good (state_of home live time) → Good (state_of home2 live2 time)
  good_stays b g = subst (λ (u : s.State). Good u) (sym b.state) (stay_good (state_of home live time) (Show []) g).2

-- states as they come to be have rising numbers
pub numbered_from : (st : s.State) → Good st → Numbered st
numbered_from st g = (fine_from st g).tidy

-- what a row holds is what its words stand for
pub slot_is : {X : Type 0} (b : Bool) (x m : X) → cond b [] (x ∷ []) ≡ m ∷ [] → x ≡ m
slot_is true x m e = absurd (let z : ◌≡◌ {A = ℕ} 0 1 = cc in omega arith)
slot_is false x m e = cc

-- a machine's row is read, and the task told to it
pub told_to : (home live home' live' row : List ℕ) (i k : ℕ) (m : s.Machine) (v u : ℕ) → v ≡ at row 1 % 65536 → u ≡ at row 5 → row ≡ machine_row_lem home k → machine_at home live k ≡ m ∷ [] → TaskPut i (place_each v u (task_at home live i)) home live home' live' → TaskPut i (place_each m.num m.life (task_at home live i)) home live home' live'
told_to home live home' live' row i k m v u a b r e p =
    let is : machine_from (machine_row_lem home k) (at live k) ≡ m = slot_is (eqb (at (machine_row_lem home k) 0) 0) (machine_from (machine_row_lem home k) (at live k)) m e in
    let num : v ≡ m.num = a ∙ ap (λ (x : List ℕ). at x 1 % 65536) r ∙ ap (λ (x : s.Machine). x.num) is in
    let life : u ≡ m.life = b ∙ ap (λ (x : List ℕ). at x 5) r ∙ ap (λ (x : s.Machine). x.life) is in
    subst (λ (l : ℕ). TaskPut i (place_each m.num l (task_at home live i)) home live home' live') life (subst (λ (n : ℕ). TaskPut i (place_each n u (task_at home live i)) home live home' live') num p)
