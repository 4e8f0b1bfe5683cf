-- Setting a job, case by case.
-- Assumes nothing.
use Rattle.std.proofs.Common.{◌≡◌, ℕ, ◌+◌, ◌<◌, ◌≤◌, Bool, true, false, cond, eqb, ltb, List, [], ◌∷◌, ◌++◌, map, length, is_ok, Ok, Err, Result, sym, refl, ap, ◌∙◌, arith}
use Rattle.std.proofs.lemmas.Bool.{le-leb, lt-leb, lt-ltb, le-ltb, ltb-true, ltb-false, true≢false}
use Rattle.model.specs.Lists.{find, change}
use Rattle.model.specs.State as s
use Rattle.model.specs.State.{is_job, with_jobs}
use Rattle.model.specs.Calls.{Call, Out, SetJob, acts, all_most, job_ok, new_job, no, others, reset_job_lem, same_spec_lem, sets_job, yes'}
use Rattle.jobs.specs.Rows.{at, span}
use Rattle.jobs.specs.Tables.{job_from_lem, job_row_lem, job_rows_lem, jobs_of, jobs_with, job_at, state_of, JobsNow}
use Rattle.calls.specs.declared.answer.Refusal.{Refusal}
use Rattle.calls.specs.Acted.{Acted}
use Rattle.calls.specs.Answers.{answer_to_done}
use Rattle.calls.specs.Setting.{Begins, DoneAs, sets_as}
use Rattle.calls.specs.Versions.{none_left_lem}
use Rattle.calls.proofs.Outcomes.{acted_kept}
use Rattle.calls.proofs.Changes.{change_found}

-- a list of jobs with which a pass begins
pub begins : (f : s.State → Out) (js : List s.Job) (home home' : List ℕ) → JobsNow js home home' → ((live : List ℕ) (time : ℕ) → f (state_of home live time) ≡ yes' (with_jobs js (state_of home live time))) → Begins f home home'
begins f js home home' n e = record { acts = λ live time. e live time ∙ ap yes' (sym (n.state live time)); only = (js, n.state); long = n.long }

-- what f does, g does
pub done_as : (f g : s.State → Out) (home home' : List ℕ) (o : Result (Unit {0}) Refusal) → ((live : List ℕ) (time : ℕ) → g (state_of home live time) ≡ f (state_of home live time)) → DoneAs f home home' o → DoneAs g home home' o
done_as f g home home' (Ok u) e d = record { acts = λ live time. e live time ∙ d.acts live time; only = d.only; long = d.long }
done_as f g home home' (Err k) e d = record { acts = λ live time. e live time ∙ d.acts live time; same = d.same }

-- what was done
pub begun : (f : s.State → Out) (home home' : List ℕ) (r : Result (Unit {0}) Refusal) → DoneAs f home home' r → is_ok r ≡ true → Begins f home home'
begun f home home' (Ok u) d t = d
begun f home home' (Err e) d t = absurd (true≢false (sym t))

-- what was refused
pub refused : (c : Call) (home live home' : List ℕ) (time : ℕ) (r : Result (Unit {0}) Refusal) → DoneAs (acts c) home home' r → is_ok r ≡ false → Acted c home live time (answer_to_done r) home' live time
refused c home live home' time (Ok u) d t = absurd (true≢false t)
refused c home live home' time (Err e) d t = acted_kept c home live home' live time e d.same refl (d.acts live time)

-- ONE MORE

module _ (j : s.Job) (home : List ℕ) where
  pub add_full : ltb (length (jobs_of home)) 256 ≡ false → (live : List ℕ) (time : ℕ) → sets_as j [] (state_of home live time) ≡ no 8 (state_of home live time)
  unfolding sets_job
  add_full h live time = let l = ltb-false (length (jobs_of home)) 256 h in rw (le-leb 256 (length (jobs_of home)) l)

  pub adds : ltb (length (jobs_of home)) 256 ≡ true → j.version ≡ 1 → (home' : List ℕ) → JobsNow (jobs_of home ++ (j ∷ [])) home home' → Begins (sets_as j []) home home'
  unfolding sets_job
  adds h v home' n =
      begins (sets_as j []) (jobs_of home ++ (j ∷ [])) home home' n (λ live time.
      let l = ltb-true (length (jobs_of home)) 256 h in
      rw (lt-leb 256 (length (jobs_of home)) l) (λ i. yes' (with_jobs (jobs_of home ++ (record { name = j.name; version = sym v i; spec = j.spec; count = j.count; least = j.least; most = j.most } ∷ [])) (state_of home live time))))

-- ONE THAT IS THERE

-- the job in a row that isn't a hole
pub row_is : (home : List ℕ) (i : ℕ) (x : s.Job) → job_at home i ≡ x ∷ [] → job_from_lem (job_row_lem home i) ≡ x
row_is home i x = pick (eqb (at (job_row_lem home i) 0) 0)
  where
    pick : (b : Bool) → cond b [] (job_from_lem (job_row_lem home i) ∷ []) ≡ x ∷ [] → job_from_lem (job_row_lem home i) ≡ x
    pick true e = absurd (let z : ◌≡◌ {A = ℕ} 0 1 = cc in omega arith)
    pick false e = cc

module _ (j x : s.Job) (home : List ℕ) where
  pub reset_full : none_left_lem (same_spec_lem j.spec x.spec) x.version ≡ true → (live : List ℕ) (time : ℕ) → sets_as j (x ∷ []) (state_of home live time) ≡ no 8 (state_of home live time)
  unfolding sets_job
  reset_full e live time = rw e

  pub resets : (i : ℕ) → i < job_rows_lem home → job_at home i ≡ x ∷ [] → is_job j.name x ≡ true → find (is_job j.name) (span (job_at home) 0 i) ≡ [] → none_left_lem (same_spec_lem j.spec x.spec) x.version ≡ false → (k : s.Job) → reset_job_lem j.name j.spec j.count j.least j.most x ≡ k →
      (home' : List ℕ) → JobsNow (jobs_with home i (k ∷ [])) home home' → Begins (sets_as j (x ∷ [])) home home'
  unfolding sets_job
  resets i h a q f e k g home' n =
      let there : jobs_with home i (k ∷ []) ≡ change (is_job j.name) (reset_job_lem j.name j.spec j.count j.least j.most) (jobs_of home) =
      ap (jobs_with home i) (sym (ap (map (reset_job_lem j.name j.spec j.count j.least j.most)) a ∙ ap (λ (y : s.Job). y ∷ []) g)) ∙ change_found (is_job j.name) (reset_job_lem j.name j.spec j.count j.least j.most) (job_at home) (job_rows_lem home) i x h a q f in
      begins (sets_as j (x ∷ [])) (jobs_with home i (k ∷ [])) home home' n (λ live time. rw (e, ← there))

-- THE CALL

module _ (n : s.Name) (a : s.Spec) (c l m : ℕ) (home : List ℕ) where
  pub set_bad : job_ok n a c l m ≡ false → (live : List ℕ) (time : ℕ) → acts (SetJob n a c l m) (state_of home live time) ≡ no 1 (state_of home live time)
  unfolding acts
  set_bad e live time = rw e

  pub set_most : job_ok n a c l m ≡ true → 2048 < m + all_most (others n (jobs_of home)) → (live : List ℕ) (time : ℕ) → acts (SetJob n a c l m) (state_of home live time) ≡ no 8 (state_of home live time)
  unfolding acts
  set_most e h live time = rw (e, lt-ltb 2048 (m + all_most (others n (jobs_of home))) h)

  pub set_found : job_ok n a c l m ≡ true → m + all_most (others n (jobs_of home)) ≤ 2048 → (js : List s.Job) → find (is_job n) (jobs_of home) ≡ js → (live : List ℕ) (time : ℕ) → acts (SetJob n a c l m) (state_of home live time) ≡ sets_as (new_job n a c l m) js (state_of home live time)
  unfolding acts
  set_found e h js f live time = rw (e, le-ltb 2048 (m + all_most (others n (jobs_of home))) h, f)
