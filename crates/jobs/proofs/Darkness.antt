-- What the dark takes, what there is at first, and sums over jobs.
-- Assumes nothing.
use Rattle.std.proofs.Common.{◌≡◌, ℕ, zero, suc, ◌+◌, ◌%◌, ◌<◌, ◌≤◌, min, Bool, true, false, cond, not, eqb, List, [], ◌∷◌, ◌++◌, map, length, set, sym, refl, ap, ◌∙◌, inl, inr, arith}
use Rattle.std.proofs.lemmas.Bool.{cases_Bool, cases_eq, cases_lt}
use Rattle.std.proofs.lemmas.List.{get_or-set_same, get_or-set_other, get_or_past}
use Rattle.std.specs.List.{fold, range_with_len, sum_by}
use Rattle.model.specs.Lists.{keep}
use Rattle.model.specs.State as s
use Rattle.model.specs.State.{blank, is_job}
use Rattle.model.specs.Calls.{down, unheard, unready, all_most, others}
use Rattle.jobs.specs.Rows.{at, span}
use Rattle.jobs.specs.Tables.{task_from, task_slot, task_at, task_row_lem, task_rows_lem, tasks_of, machine_slot, machine_at, machine_row_lem, machine_rows_lem, machines_of, job_at, job_from_lem, job_slot, jobs_of, state_of}
use Rattle.jobs.proofs.Spans.{span_none, span_same}
use Rattle.jobs.proofs.MoveLaws.{span_map}
use Rattle.jobs.proofs.Finds.{slot_hole, slot_full}

unready_from : (r : List ℕ) (v : ℕ) → task_from r 0 ≡ unready (task_from r v)
unready_from r v =
    elim (cases_Bool (eqb (at r 1) 0)) [
      | inl a ↦ rw a
      | inr a ↦ elim (cases_Bool (eqb (at r 1) 1)) [ inl b ↦ elim (cases_Bool (eqb v 0)) [ inl c ↦ rw (a, b, c) | inr c ↦ rw (a, b, c) ] | inr b ↦ rw (a, b) ]
    ]

task_dark : (r : List ℕ) (v : ℕ) → task_slot r 0 ≡ map unready (task_slot r v)
task_dark r v = elim (cases_Bool (eqb (at r 0) 0)) [ inl t ↦ rw t | inr n ↦ rw n (ap (λ (x : s.Task). x ∷ []) (unready_from r v)) ]

machine_dark : (r : List ℕ) (v : ℕ) → machine_slot r 0 ≡ map unheard (machine_slot r v)
machine_dark r v = elim (cases_Bool (eqb (at r 0) 0)) [ inl t ↦ rw t | inr n ↦ rw n ]

pub goes_dark_lem : (live live' : List ℕ) → ((k : ℕ) → at live' k ≡ 0) → (home : List ℕ) (time : ℕ) → state_of home live' 0 ≡ down (state_of home live time)
goes_dark_lem live live' z home time =
    let ts : tasks_of home live' ≡ map unready (tasks_of home live) = span_same (task_at home live') (λ i. map unready (task_at home live i)) 0 (task_rows_lem home) (λ k l h. ap (task_slot (task_row_lem home k)) (z (256 + k)) ∙ task_dark (task_row_lem home k) (at live (256 + k))) ∙ span_map unready (task_at home live) 0 (task_rows_lem home) in
    let ms : machines_of home live' ≡ map unheard (machines_of home live) = span_same (machine_at home live') (λ i. map unheard (machine_at home live i)) 0 (machine_rows_lem home) (λ k l h. ap (machine_slot (machine_row_lem home k)) (z k) ∙ machine_dark (machine_row_lem home k) (at live k)) ∙ span_map unheard (machine_at home live) 0 (machine_rows_lem home) in
    λ k. record { now = 0; next_id = at home 0 + 1; machines = ms k; jobs = jobs_of home; tasks = ts k }

pub begins : (home : List ℕ) → ((k : ℕ) → at home k ≡ 0) → (live : List ℕ) → state_of home live 0 ≡ blank
begins home z live =
    let ts : tasks_of home live ≡ [] = ap (λ (n : ℕ). span (task_at home live) 0 (min n 2048)) (z 3) ∙ span_none (task_at home live) 0 in
    let ms : machines_of home live ≡ [] = ap (λ (n : ℕ). span (machine_at home live) 0 (min n 256)) (z 2) ∙ span_none (machine_at home live) 0 in
    let js : jobs_of home ≡ [] = ap (λ (n : ℕ). span (job_at home) 0 (min n 256)) (z 1) ∙ span_none (job_at home) 0 in
    λ k. record { now = 0; next_id = ap (λ (n : ℕ). n + 1) (z 0) k; machines = ms k; jobs = js k; tasks = ts k }

-- SUMS

most_append : (xs ys : List s.Job) → all_most (xs ++ ys) ≡ all_most xs + all_most ys
unfolding all_most
most_append [] ys = omega arith
most_append (x ∷ xs) ys = omega (arith, most_append xs ys)

keep_append : (p : s.Job → Bool) (xs ys : List s.Job) → keep p (xs ++ ys) ≡ keep p xs ++ keep p ys
unfolding keep
keep_append p [] ys = refl
keep_append p (x ∷ xs) ys = elim (cases_Bool (p x)) [ inl t ↦ rw (t, keep_append p xs ys) | inr n ↦ rw (n, keep_append p xs ys) ]

pub most_hole : (n : s.Name) (r : List ℕ) → at r 0 ≡ 0 → 0 ≡ all_most (others n (job_slot r))
unfolding all_most keep
most_hole n r e = sym (ap (λ (xs : List s.Job). all_most (others n xs)) (slot_hole (at r 0) (job_from_lem r) e))

pub most_one : (n : s.Name) (r : List ℕ) (b : Bool) → (at r 0 ≡ 0 → ⊥) → is_job n (job_from_lem r) ≡ b → cond b 0 (at r 25 % 65536) ≡ all_most (others n (job_slot r))
unfolding all_most keep
most_one n r true e t = sym (ap (λ (xs : List s.Job). all_most (others n xs)) (slot_full (at r 0) (job_from_lem r) e) ∙ rw t)
most_one n r false e t = sym (ap (λ (xs : List s.Job). all_most (others n xs)) (slot_full (at r 0) (job_from_lem r) e) ∙ rw t (omega arith))

module _ (n : s.Name) (f : ℕ → List s.Job) where
  most_first : (a m : ℕ) → all_most (others n (span f a (suc m))) ≡ all_most (others n (f a)) + all_most (others n (span f (a + 1) m))
  unfolding span
  most_first a m =
      let e : suc a ≡ a + 1 = omega arith in
      ap all_most (keep_append (λ (j : s.Job). not (is_job n j)) (f a) (span f (suc a) m)) ∙ most_append (others n (f a)) (others n (span f (suc a) m)) ∙ ap (λ (k : ℕ). all_most (others n (f a)) + all_most (others n (span f k m))) e

  -- the rows from a on, added to c
  most_from : (c a m : ℕ) → fold (λ k i. k + all_most (others n (f i))) c (range_with_len a m) ≡ c + all_most (others n (span f a m))
  unfolding all_most keep span
  most_from c a zero = let e : c ≡ c + 0 = omega arith in e
  most_from c a (suc m) = most_from (c + all_most (others n (f a))) (a + 1) m ∙ omega (arith, most_first a m)

  pub most_sum : (m : ℕ) → sum_by (λ i. all_most (others n (f i))) (range_with_len 0 m) ≡ all_most (others n (span f 0 m))
  most_sum m = let e : 0 + all_most (others n (span f 0 m)) ≡ all_most (others n (span f 0 m)) = omega arith in most_from 0 0 m ∙ e

-- all words are 0
pub clear_more : (ws : List ℕ) (i : ℕ) → ((k : ℕ) → k < i → at ws k ≡ 0) → i < length ws → (k : ℕ) → k < i + 1 → at (set ws i 0) k ≡ 0
clear_more ws i h l k b = elim (cases_eq k i) [ inl e ↦ rw e (get_or-set_same ws i 0 0 l) | inr n ↦ get_or-set_other ws i k 0 0 n ∙ h k (under k b n) ]
  where
    under : (k : ℕ) → k < i + 1 → (k ≡ i → ⊥) → k < i
    under k b n = omega arith

pub clear_all_lem : (ws : List ℕ) (i : ℕ) → length ws ≤ i → ((k : ℕ) → k < i → at ws k ≡ 0) → (k : ℕ) → at ws k ≡ 0
clear_all_lem ws i l h k = elim (cases_lt k i) [ inl a ↦ h k a | inr b ↦ get_or_past ws k 0 (omega arith) ]
