-- A name that came, beside those in rows.
-- Assumes nothing.
use Rattle.std.proofs.Common.{◌≡◌, ℕ, zero, suc, ◌+◌, ◌<◌, min, false, eqb, List, [], length, take, drop, ap, inl, inr, arith}
use Rattle.std.proofs.lemmas.Bool.{cases_Bool}
use Rattle.model.specs.Lists.{keep, same}
use Rattle.model.specs.State.{Name, of_job}
use Rattle.settling.proofs.Scans.{keep_append}
use Rattle.jobs.specs.Rows.{at, span}
use Rattle.jobs.specs.Tables.{name_from_lem, task_at, task_row_lem, task_rows_lem, tasks_of}
use Rattle.jobs.proofs.Names.{other_length}
use Rattle.jobs.proofs.Spans.{span_none, span_more}

-- no row has a name of more than 64 bytes
pub long_name : (xs p : List ℕ) → 64 < length xs → same xs (name_from_lem p) ≡ false
long_name xs p h = other_length xs (min (at p 14) 64) (take 8 (drop 15 p)) (λ e. omega arith)

module _ (n : Name) (long : 64 < length n) (home live : List ℕ) where
  slot_none : (i : ℕ) → keep (of_job n) (task_at home live i) ≡ []
  unfolding keep
  slot_none i = elim (cases_Bool (eqb (at (task_row_lem home i) 0) 0)) [ inl t ↦ rw t | inr f ↦ rw (f, long_name n (drop 4 (task_row_lem home i)) long) ]

  span_nothing : (i : ℕ) → keep (of_job n) (span (task_at home live) 0 i) ≡ []
  unfolding keep
  span_nothing zero = ap (keep (of_job n)) (span_none (task_at home live) 0)
  span_nothing (suc i) =
      let e : suc i ≡ i + 1 = omega arith in
      rw (e, span_more (task_at home live) i, keep_append (of_job n) (span (task_at home live) 0 i) (task_at home live i), span_nothing i, slot_none i)

  -- and so such a name names no task
  pub long_names_none : keep (of_job n) (tasks_of home live) ≡ []
  long_names_none = span_nothing (task_rows_lem home)
