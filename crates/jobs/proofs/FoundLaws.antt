-- What a row that was found says of changing, and of taking away, the first that passes.
-- Assumes nothing.
use Rattle.std.proofs.Common.{◌≡◌, ℕ, ◌+◌, ◌-◌, Bool, true, false, not, List, [], ◌∷◌, ◌++◌, map, Some, sym, refl, ap, ◌∙◌, inl, inr, arith}
use Rattle.std.proofs.lemmas.Bool.{cases_Bool, and_parts, not-true, eqb-true, true≢false}
use Rattle.model.specs.Lists.{some, keep, find, change}
use Rattle.model.specs.State as s
use Rattle.model.specs.State.{is_job, is_machine}
use Rattle.model.specs.Promise.{once_jobs, once_machines}
use Rattle.model.proofs.Tasks.Names.{same_eq}
use Rattle.jobs.specs.Rows.{span}
use Rattle.jobs.specs.Tables.{job_at, job_rows_lem, jobs_of, jobs_with, machine_at, machine_rows_lem, machines_of, machines_with, span_with, FoundAt}
use Rattle.jobs.proofs.Spans.{span_at}

module _ {X : Type 0} where
  pub change_mid : (f : X → Bool) (g : X → X) (a : List X) (t : X) (b : List X) → some f a ≡ false → f t ≡ true → change f g (a ++ (t ∷ b)) ≡ a ++ (g t ∷ b)
  unfolding change some
  change_mid f g [] t b n e = rw e
  change_mid f g (x ∷ a) t b n e = elim (cases_Bool (f x)) [ inl y ↦ absurd (true≢false (sym (rw y) ∙ n)) | inr y ↦ rw y (ap (λ (xs : List X). x ∷ xs) (change_mid f g a t b (sym (rw y) ∙ n) e)) ]

  keep_all : (f : X → Bool) (a : List X) → some f a ≡ false → keep (λ x. not (f x)) a ≡ a
  unfolding keep some
  keep_all f [] n = refl
  keep_all f (x ∷ a) n = elim (cases_Bool (f x)) [ inl y ↦ absurd (true≢false (sym (rw y) ∙ n)) | inr y ↦ rw y (ap (λ (xs : List X). x ∷ xs) (keep_all f a (sym (rw y) ∙ n))) ]

  pub keep_mid : (f : X → Bool) (a : List X) (t : X) (b : List X) → some f a ≡ false → f t ≡ true → some f b ≡ false → keep (λ x. not (f x)) (a ++ (t ∷ b)) ≡ a ++ b
  unfolding keep some
  keep_mid f [] t b n e m = rw e (keep_all f b m)
  keep_mid f (x ∷ a) t b n e m = elim (cases_Bool (f x)) [ inl y ↦ absurd (true≢false (sym (rw y) ∙ n)) | inr y ↦ rw y (ap (λ (xs : List X). x ∷ xs) (keep_mid f a t b (sym (rw y) ∙ n) e m)) ]

  find_some : (p : X → Bool) (a : List X) → find p a ≡ [] → some p a ≡ false
  unfolding find some
  find_some p [] e = refl
  find_some p (x ∷ a) e = elim (cases_Bool (p x)) [ inl y ↦ absurd (let z : x ∷ [] ≡ [] = sym (rw y) ∙ e in (let w : ◌≡◌ {A = ℕ} 0 1 = cc in omega arith)) | inr y ↦ rw y (find_some p a (sym (rw y) ∙ e)) ]

  module _ (p : X → Bool) (f : ℕ → List X) (n i : ℕ) (k : FoundAt p f n (Some i)) where
    split : span f 0 n ≡ span f 0 i ++ (k.0 ∷ span f (i + 1) (n - (i + 1)))
    split = span_at f i n k.1 ∙ ap (λ (xs : List X). span f 0 i ++ (xs ++ span f (i + 1) (n - (i + 1)))) k.2

    -- the one that was found is changed
    pub changed_at : (g : X → X) → span_with f n i (map g (f i)) ≡ change p g (span f 0 n)
    changed_at g = ap (λ (xs : List X). span f 0 i ++ (map g xs ++ span f (i + 1) (n - (i + 1)))) k.2 ∙ sym (ap (change p g) split ∙ change_mid p g (span f 0 i) k.0 (span f (i + 1) (n - (i + 1))) (find_some p (span f 0 i) k.5) k.4)

    -- it is taken away, where no other passes behind it
    pub removed_at : some p (span f (i + 1) (n - (i + 1))) ≡ false → span_with f n i [] ≡ keep (λ x. not (p x)) (span f 0 n)
    removed_at e = sym (ap (keep (λ x. not (p x))) split ∙ keep_mid p (span f 0 i) k.0 (span f (i + 1) (n - (i + 1))) (find_some p (span f 0 i) k.5) k.4 e)

once_job : (a : List s.Job) (x : s.Job) (b : List s.Job) → once_jobs (a ++ (x ∷ b)) ≡ true → some (is_job x.name) b ≡ false
unfolding once_jobs
once_job [] x b e = not-true _ (and_parts (not (some (is_job x.name) b)) (once_jobs b) e).0
once_job (y ∷ a) x b e = once_job a x b (and_parts (not (some (is_job y.name) (a ++ (x ∷ b)))) (once_jobs (a ++ (x ∷ b))) e).1

once_machine : (a : List s.Machine) (x : s.Machine) (b : List s.Machine) → once_machines (a ++ (x ∷ b)) ≡ true → some (is_machine x.num) b ≡ false
unfolding once_machines
once_machine [] x b e = not-true _ (and_parts (not (some (is_machine x.num) b)) (once_machines b) e).0
once_machine (y ∷ a) x b e = once_machine a x b (and_parts (not (some (is_machine y.num) (a ++ (x ∷ b)))) (once_machines (a ++ (x ∷ b))) e).1

pub job_removed : (home : List ℕ) (n : s.Name) (i : ℕ) → once_jobs (jobs_of home) ≡ true → FoundAt (is_job n) (job_at home) (job_rows_lem home) (Some i) → jobs_with home i [] ≡ keep (λ (j : s.Job). not (is_job n j)) (jobs_of home)
job_removed home n i once k =
    let b = span (job_at home) (i + 1) (job_rows_lem home - (i + 1)) in
    let o = once_job (span (job_at home) 0 i) k.0 b (ap once_jobs (sym (split (is_job n) (job_at home) (job_rows_lem home) i k)) ∙ once) in
    removed_at (is_job n) (job_at home) (job_rows_lem home) i k (ap (λ (m : s.Name). some (is_job m) b) (same_eq n k.0.name k.4) ∙ o)

pub machine_removed : (home live : List ℕ) (num i : ℕ) → once_machines (machines_of home live) ≡ true → FoundAt (is_machine num) (machine_at home live) (machine_rows_lem home) (Some i) → machines_with home live i [] ≡ keep (λ (m : s.Machine). not (is_machine num m)) (machines_of home live)
machine_removed home live num i once k =
    let b = span (machine_at home live) (i + 1) (machine_rows_lem home - (i + 1)) in
    let o = once_machine (span (machine_at home live) 0 i) k.0 b (ap once_machines (sym (split (is_machine num) (machine_at home live) (machine_rows_lem home) i k)) ∙ once) in
    removed_at (is_machine num) (machine_at home live) (machine_rows_lem home) i k (ap (λ (m : ℕ). some (is_machine m) b) (eqb-true num k.0.num k.4) ∙ o)
