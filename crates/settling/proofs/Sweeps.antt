-- All rows in turn.
-- Assumes nothing.
use Rattle.std.proofs.Common.{◌≡◌, ℕ, ◌+◌, ◌-◌, ◌<◌, ◌≤◌, Bool, true, false, is_some, Some, None, Option, List, [], ◌∷◌, ◌++◌, length, sym, refl, ap, ◌∙◌, subst, inl, inr, arith}
use Rattle.std.proofs.lemmas.Bool.{cases_Bool, true≢false, false≢true}
use Rattle.model.specs.Lists.{some, find, same}
use Rattle.model.specs.State as s
use Rattle.model.specs.State.{is_job, is_waiting, phased}
use Rattle.model.specs.Settle.{orphans_end, for_job, for_jobs}
use Rattle.model.proofs.Lists.Chosen.{find_none, not_some, some_from}
use Rattle.model.proofs.Tasks.Names.{same_sym, unsame_sym}
use Rattle.model.proofs.Tasks.Steps.{steps_are}
use Rattle.model.proofs.Settles.{Tidy, tidy_step}
use Rattle.model.proofs.Lists.Chosen.{find_in}
use Rattle.jobs.specs.Layout.{home_words_lem}
use Rattle.jobs.specs.Rows.{span}
use Rattle.jobs.specs.Tables.{FoundAt, task_at, task_rows_lem, tasks_of, job_at, job_rows_lem, jobs_of, state_of, TasksOnly, TaskPut, TasksNow}
use Rattle.jobs.specs.Changes.{end_each}
use Rattle.jobs.proofs.Spans.{span_rest, span_end}
use Rattle.jobs.proofs.SweepLaws.{Swept, swept_none, swept_more, swept_all, put_same}
use Rattle.jobs.proofs.Frames.{frame_none, frame_then, job_same, jobs_same}
use Rattle.settling.specs.Scan.{Numbered, Became}

-- what a search found, where only that was asked
module _ {X : Type 0} (p : X → Bool) (f : ℕ → List X) (n : ℕ) where
  pub unfound : (o : Option ℕ) → is_some o ≡ false → FoundAt p f n o → find p (span f 0 n) ≡ []
  unfound None e w = w
  unfound (Some i) e w = absurd (true≢false e)

  pub found_one : (o : Option ℕ) → is_some o ≡ true → FoundAt p f n o → (x : X) × (find p (span f 0 n) ≡ x ∷ [])
  found_one None e w = absurd (false≢true e)
  found_one (Some i) e w = (w.0, w.3)

-- ORPHANS

pub orphans_append : (js : List s.Job) (xs ys : List s.Task) → orphans_end js (xs ++ ys) ≡ orphans_end js xs ++ orphans_end js ys
unfolding orphans_end
orphans_append js [] ys = refl
orphans_append js (x ∷ xs) ys =
    elim (cases_Bool (some (λ (j : s.Job). same j.name x.job) js)) [
      | inl a ↦ rw (a, orphans_append js xs ys)
      | inr a ↦ elim (cases_Bool (is_waiting x.phase)) [ inl b ↦ rw (a, b, orphans_append js xs ys) | inr b ↦ rw (a, b, orphans_append js xs ys) ]
    ]

pub orphans_none : (js : List s.Job) → orphans_end js [] ≡ []
unfolding orphans_end
orphans_none js = refl

wanted : (js : List s.Job) (n : s.Name) (x : s.Job) → find (is_job n) js ≡ x ∷ [] → some (λ (j : s.Job). same j.name n) js ≡ true
wanted js n x e = let k = find_in (is_job n) js x [] e in some_from (λ (j : s.Job). same j.name n) js x k.0 (same_sym n x.name k.1)

unwanted : (js : List s.Job) (n : s.Name) → find (is_job n) js ≡ [] → some (λ (j : s.Job). same j.name n) js ≡ false
unwanted js n e = not_some (λ (j : s.Job). same j.name n) js (λ x i. unsame_sym n x.name (find_none (is_job n) js e x i))

orphan_stays : (js : List s.Job) (t : s.Task) (x : s.Job) → find (is_job t.job) js ≡ x ∷ [] → orphans_end js (t ∷ []) ≡ t ∷ []
unfolding orphans_end
orphan_stays js t x e = rw (wanted js t.job x e)

orphan_ends : (js : List s.Job) (t : s.Task) → find (is_job t.job) js ≡ [] → orphans_end js (t ∷ []) ≡ end_each (t ∷ [])
unfolding orphans_end
orphan_ends js t e = rw (unwanted js t.job e)

pub orphan_hole : (home live : List ℕ) (i : ℕ) → task_at home live i ≡ [] → TaskPut i (orphans_end (jobs_of home) (task_at home live i)) home live home live
orphan_hole home live i e = put_same home live i _ (e ∙ sym (ap (orphans_end (jobs_of home)) e ∙ orphans_none (jobs_of home)))

pub orphan_wanted : (home live : List ℕ) (i : ℕ) (t : s.Task) (x : s.Job) → task_at home live i ≡ t ∷ [] → find (is_job t.job) (jobs_of home) ≡ x ∷ [] → TaskPut i (orphans_end (jobs_of home) (task_at home live i)) home live home live
orphan_wanted home live i t x e f = put_same home live i _ (e ∙ sym (ap (orphans_end (jobs_of home)) e ∙ orphan_stays (jobs_of home) t x f))

pub orphan_put : (home live home' : List ℕ) (i : ℕ) (t : s.Task) → task_at home live i ≡ t ∷ [] → find (is_job t.job) (jobs_of home) ≡ [] → TaskPut i (end_each (task_at home live i)) home live home' live → TaskPut i (orphans_end (jobs_of home) (task_at home live i)) home live home' live
orphan_put home live home' i t e f p =
    let q : end_each (task_at home live i) ≡ orphans_end (jobs_of home) (task_at home live i) = ap end_each e ∙ sym (ap (orphans_end (jobs_of home)) e ∙ orphan_ends (jobs_of home) t f) in
    subst (λ (xs : List s.Task). TaskPut i xs home live home' live) q p

-- rows up to i are swept
abbrev pub Sweeping : List ℕ → List ℕ → ℕ → List ℕ → Type 0
Sweeping h0 live i home = Swept (orphans_end (jobs_of h0)) (orphans_none (jobs_of h0)) (orphans_append (jobs_of h0)) h0 live i home live

pub sweeping_none : (h0 live : List ℕ) → Sweeping h0 live 0 h0
sweeping_none h0 live = swept_none (orphans_end (jobs_of h0)) (orphans_none (jobs_of h0)) (orphans_append (jobs_of h0)) h0 live

pub sweeping_more : (h0 live home home' : List ℕ) (i : ℕ) → home_words_lem ≤ length h0 → i < 2048 → Sweeping h0 live i home → TaskPut i (orphans_end (jobs_of home) (task_at home live i)) home live home' live → Sweeping h0 live (i + 1) home'
sweeping_more h0 live home home' i fits w c p =
    let js : jobs_of home ≡ jobs_of h0 = jobs_same h0 live home live fits c.frame in
    swept_more (orphans_end (jobs_of h0)) (orphans_none (jobs_of h0)) (orphans_append (jobs_of h0)) h0 live home live home' live i w c
    (subst (λ (xs : List s.Job). TaskPut i (orphans_end xs (task_at home live i)) home live home' live) js p)

pub sweeping_all : (h0 live home : List ℕ) (n i : ℕ) → n ≡ task_rows_lem h0 → i ≡ n → Sweeping h0 live i home → TasksNow (orphans_end (jobs_of h0) (tasks_of h0 live)) h0 live home live
sweeping_all h0 live home n i e j c = swept_all (orphans_end (jobs_of h0)) (orphans_none (jobs_of h0)) (orphans_append (jobs_of h0)) h0 live home live n i e j c

-- STEPS

jobs_append : (xs ys : List s.Job) (st : s.State) → for_jobs (xs ++ ys) st ≡ for_jobs ys (for_jobs xs st)
unfolding for_jobs
jobs_append [] ys st = refl
jobs_append (x ∷ xs) ys st = jobs_append xs ys (for_job x st)

for_jobs_none : (st : s.State) → for_jobs [] st ≡ st
unfolding for_jobs
for_jobs_none st = refl

-- the jobs from row j on are still to step
pub record Stepped (h0 l0 : List ℕ) (time j : ℕ) (home live : List ℕ) : Type 0 where
  pub rest : for_jobs (span (job_at h0) j (job_rows_lem h0 - j)) (state_of home live time) ≡ for_jobs (jobs_of h0) (state_of h0 l0 time)
  pub numbered : Numbered (state_of home live time)
  pub frame : TasksOnly h0 l0 home live

pub stepped_none : (h0 l0 : List ℕ) (time : ℕ) → Numbered (state_of h0 l0 time) → Stepped h0 l0 time 0 h0 l0
stepped_none h0 l0 time n = record { rest = (let e : job_rows_lem h0 - 0 ≡ job_rows_lem h0 = omega arith in ap (λ (k : ℕ). for_jobs (span (job_at h0) 0 k) (state_of h0 l0 time)) e); numbered = n; frame = frame_none h0 l0 }

pub stepped_more : (h0 l0 : List ℕ) (time j : ℕ) (home live home' live' : List ℕ) → home_words_lem ≤ length h0 → j < job_rows_lem h0 → Stepped h0 l0 time j home live → Became (for_jobs (job_at home j) (state_of home live time)) home live home' live' time → Stepped h0 l0 time (j + 1) home' live'
stepped_more h0 l0 time j home live home' live' fits w c b =
    let row : job_at home j ≡ job_at h0 j = job_same h0 l0 home live fits c.frame j (omega arith) in
    let now' : state_of home' live' time ≡ for_jobs (job_at h0 j) (state_of home live time) = b.state ∙ ap (λ (js : List s.Job). for_jobs js (state_of home live time)) row in
    record {
      rest = ap (for_jobs (span (job_at h0) (j + 1) (job_rows_lem h0 - (j + 1)))) now' ∙ sym (jobs_append (job_at h0 j) (span (job_at h0) (j + 1) (job_rows_lem h0 - (j + 1))) (state_of home live time)) ∙ ap (λ (js : List s.Job). for_jobs js (state_of home live time)) (sym (span_rest (job_at h0) j (job_rows_lem h0) w)) ∙ c.rest;
      numbered = subst (λ (u : s.State). Tidy u) (sym now') (steps_are Tidy (job_at h0 j) (state_of home live time) (λ x i u k. tidy_step x u k) c.numbered);
      frame = frame_then h0 l0 home live home' live' c.frame b.frame;
    }

pub stepped_all : (h0 l0 : List ℕ) (time j : ℕ) (home live : List ℕ) → job_rows_lem h0 ≤ j → Stepped h0 l0 time j home live → Became (for_jobs (jobs_of h0) (state_of h0 l0 time)) h0 l0 home live time
stepped_all h0 l0 time j home live h c = record { state = sym (for_jobs_none (state_of home live time)) ∙ ap (λ (js : List s.Job). for_jobs js (state_of home live time)) (sym (span_end (job_at h0) j (job_rows_lem h0) h)) ∙ c.rest; frame = c.frame }
