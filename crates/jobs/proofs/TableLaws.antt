-- Changes of jobs, and of machines, and what they leave alone.
-- Assumes nothing.
use Rattle.std.proofs.Common.{◌≡◌, ℕ, zero, suc, ◌+◌, ◌-◌, ◌*◌, ◌<◌, ◌≤◌, ◌==◌, min, not, List, ◌++◌, length, take, drop, set, filter, refl, ap, ◌∙◌, inl, inr, arith}
use Rattle.std.proofs.lemmas.Bool.{cases_Bool}
use Rattle.std.proofs.lemmas.List.{length-set, get_or-set_other}
use Rattle.std.specs.List.{range_with_len}
use Rattle.model.specs.State as s
use Rattle.model.specs.State.{with_jobs, with_machines}
use Rattle.jobs.specs.Layout.{home_words_lem}
use Rattle.jobs.specs.Rows.{at, entry_at, row_at, span, Only}
use Rattle.jobs.specs.Tables.{task_at, task_slot, task_row_lem, task_rows_lem, tasks_of, job_at, job_slot, job_rows_lem, jobs_of, machine_at, machine_slot, machine_rows_lem, machines_of, state_of, span_with}
use Rattle.jobs.proofs.Spans.{span_same, span_at, span_more}
use Rattle.jobs.proofs.Words.{row_same}

-- LISTS OF ROWS

module _ {X : Type 0} (f g : ℕ → List X) where
  pub put_list_lem : (n i : ℕ) (xs : List X) → i < n → g i ≡ xs → ((j : ℕ) → j < n → (j ≡ i → ⊥) → g j ≡ f j) → span g 0 n ≡ span_with f n i xs
  put_list_lem n i xs h e o =
      let a : span g 0 i ≡ span f 0 i = span_same g f 0 i (λ k l u. o k (omega arith) (λ q. omega arith)) in
      let b : span g (i + 1) (n - (i + 1)) ≡ span f (i + 1) (n - (i + 1)) = span_same g f (i + 1) (n - (i + 1)) (λ k l u. o k (omega arith) (λ q. omega arith)) in
      span_at g i n h ∙ rw (a, b, e)

  pub push_list : (n : ℕ) (xs : List X) → g n ≡ xs → ((j : ℕ) → j < n → g j ≡ f j) → span g 0 (n + 1) ≡ span f 0 n ++ xs
  push_list n xs e o =
      let a : span g 0 n ≡ span f 0 n = span_same g f 0 n (λ k l u. o k (omega arith)) in
      span_more g n ∙ rw (a, e)

-- counting what is no hole
pub count_used : (b w : ℕ) (ws fs : List ℕ) (a n : ℕ) → length (filter (λ i. not (at (row_at b w ws i) 0 == 0)) (range_with_len a n)) ≡ length (span (entry_at b w ws fs) a n)
unfolding span
count_used b w ws fs a zero = refl
count_used b w ws fs a (suc n) =
    let e : suc a ≡ a + 1 = omega arith in
    elim (cases_Bool (at (row_at b w ws a) 0 == 0)) [
      | inl t ↦ rw (t, e) (count_used b w ws fs (a + 1) n)
      | inr t ↦ rw (t, e) (ap suc (count_used b w ws fs (a + 1) n))
    ]

-- A CHANGE WITHIN SOME WORDS, and of one more

pub record Apart (lo hi c : ℕ) (home home' : List ℕ) : Type 0 where
  pub long : length home' ≡ length home
  pub below : (k : ℕ) → k < lo → (k ≡ c → ⊥) → at home' k ≡ at home k
  pub above : (k : ℕ) → hi ≤ k → at home' k ≡ at home k

pub apart_only : (lo hi c a e : ℕ) (home home' : List ℕ) → lo ≤ a → e ≤ hi → Only a e home' home → Apart lo hi c home home'
apart_only lo hi c a e home home' p q o = record { long = o.long; below = λ k h n. o.below k (omega arith); above = λ k h. o.above k (omega arith) }

pub apart_set : (lo hi c v : ℕ) (home home' : List ℕ) → c < lo → lo ≤ hi → Apart lo hi c home home' → Apart lo hi c home (set home' c v)
apart_set lo hi c v home home' p q a = record {
  long = set_long c v home' ∙ a.long;
  below = λ k h n. get_or-set_other home' c k v 0 n ∙ a.below k h n;
  above = λ k h. get_or-set_other home' c k v 0 (λ e. omega arith) ∙ a.above k h;
}
  where
    set_long : (i v : ℕ) (ws : List ℕ) → length (set ws i v) ≡ length ws
    set_long i v ws = length-set ws i v

module _ (home home' : List ℕ) (fits : home_words_lem ≤ length home) where
  -- jobs changed
  module _ (a : Apart 8 6664 1 home home') where
    upper : (o w : ℕ) → 6664 ≤ o → o + w ≤ length home → take w (drop o home') ≡ take w (drop o home)
    upper o w p q = row_same w o home' home a.long q (λ j h. a.above (o + j) (omega arith))

    pub jobs_state : (js : List s.Job) → jobs_of home' ≡ js → (live : List ℕ) (time : ℕ) → state_of home' live time ≡ with_jobs js (state_of home live time)
    jobs_state js e live time =
        let ts : tasks_of home' live ≡ tasks_of home live =
        ap (λ (n : ℕ). span (task_at home' live) 0 (min n 2048)) (a.below 3 (omega arith) (λ q. omega arith)) ∙
        span_same (task_at home' live) (task_at home live) 0 (task_rows_lem home) (λ k l h. ap (λ (r : List ℕ). task_slot r (at live (256 + k))) (upper (12808 + k * 27) 27 (omega arith) (omega arith))) in
        let ms : machines_of home' live ≡ machines_of home live =
        ap (λ (n : ℕ). span (machine_at home' live) 0 (min n 256)) (a.below 2 (omega arith) (λ q. omega arith)) ∙
        span_same (machine_at home' live) (machine_at home live) 0 (machine_rows_lem home) (λ k l h. ap (λ (r : List ℕ). machine_slot r (at live k)) (upper (6664 + k * 24) 24 (omega arith) (omega arith))) in
        λ k. record { now = time; next_id = ap (λ (n : ℕ). n + 1) (a.below 0 (omega arith) (λ q. omega arith)) k; machines = ms k; jobs = e k; tasks = ts k }

  -- machines changed
  module _ (live live' : List ℕ) (a : Apart 6664 12808 2 home home') (ready : (k : ℕ) → 256 ≤ k → at live' k ≡ at live k) where
    over : (o w : ℕ) → 12808 ≤ o → o + w ≤ length home → take w (drop o home') ≡ take w (drop o home)
    over o w p q = row_same w o home' home a.long q (λ j h. a.above (o + j) (omega arith))

    under : (o w : ℕ) → 3 ≤ o → o + w ≤ 6664 → take w (drop o home') ≡ take w (drop o home)
    under o w p q = row_same w o home' home a.long (omega arith) (λ j h. a.below (o + j) (omega arith) (λ e. omega arith))

    pub machines_state : (ms : List s.Machine) → machines_of home' live' ≡ ms → (time : ℕ) → state_of home' live' time ≡ with_machines ms (state_of home live time)
    machines_state ms e time =
        let ts : tasks_of home' live' ≡ tasks_of home live =
        ap (λ (n : ℕ). span (task_at home' live') 0 (min n 2048)) (a.below 3 (omega arith) (λ q. omega arith)) ∙
        span_same (task_at home' live') (task_at home live) 0 (task_rows_lem home) (λ k l h. ap (λ (r : List ℕ). task_slot r (at live' (256 + k))) (over (12808 + k * 27) 27 (omega arith) (omega arith)) ∙ ap (task_slot (task_row_lem home k)) (ready (256 + k) (omega arith))) in
        let js : jobs_of home' ≡ jobs_of home =
        ap (λ (n : ℕ). span (job_at home') 0 (min n 256)) (a.below 1 (omega arith) (λ q. omega arith)) ∙
        span_same (job_at home') (job_at home) 0 (job_rows_lem home) (λ k l h. ap job_slot (under (8 + k * 26) 26 (omega arith) (omega arith))) in
        λ k. record { now = time; next_id = ap (λ (n : ℕ). n + 1) (a.below 0 (omega arith) (λ q. omega arith)) k; machines = e k; jobs = js k; tasks = ts k }
