-- Jobs in their rows.
-- Assumes nothing.
use Rattle.std.proofs.Common.{◌≡◌, ℕ, ◌+◌, ◌*◌, ◌<◌, ◌≤◌, min, List, [], ◌∷◌, ◌++◌, length, take, drop, set, sym, refl, ap, ◌∙◌, subst, inl, inr, arith}
use Rattle.std.proofs.lemmas.Bool.{cases_lt}
use Rattle.std.proofs.lemmas.List.{get_or-set_same, get_or-take, get_or-drop}
use Rattle.model.specs.State as s
use Rattle.model.specs.State.{with_jobs}
use Rattle.jobs.specs.Layout.{home_words_lem}
use Rattle.jobs.specs.Rows.{at, span, Only, WordsPut, Closed}
use Rattle.jobs.specs.Tables.{job_at, job_from_lem, job_slot, job_row_lem, job_rows_lem, jobs_of, jobs_with, state_of, JobsNow}
use Rattle.jobs.proofs.Finds.{slot_hole, slot_full}
use Rattle.jobs.proofs.Words.{only_row, set_only, only_wide}
use Rattle.jobs.proofs.TableLaws.{put_list_lem, push_list, Apart, apart_only, apart_set, jobs_state}
use Rattle.jobs.proofs.MoveLaws.{closed_list}

module _ (home : List ℕ) (fits : home_words_lem ≤ length home) where
  other_job : (home' : List ℕ) (i j : ℕ) → i < 256 → Only (8 + i * 26) (8 + i * 26 + 26) home' home → j < 256 → (j ≡ i → ⊥) → job_at home' j ≡ job_at home j
  other_job home' i j w o h ne =
      ap job_slot (only_row (8 + i * 26) (8 + i * 26 + 26) (8 + j * 26) 26 home' home o (omega arith) (elim (cases_lt j i) [ inl lt ↦ inl (omega arith) | inr ge ↦ inr (let n : i < j = past ge ne in omega arith) ]))
    where
      past : i ≤ j → (j ≡ i → ⊥) → i < j
      past g n = omega arith

  near : (home' : List ℕ) (i : ℕ) → i < 256 → Only (8 + i * 26) (8 + i * 26 + 26) home' home → Apart 8 6664 1 home home'
  near home' i w o = apart_only 8 6664 1 (8 + i * 26) (8 + i * 26 + 26) home home' (omega arith) (omega arith) o

  -- row i stands for xs now
  puts : (home' : List ℕ) (i : ℕ) (xs : List s.Job) → i < job_rows_lem home → Only (8 + i * 26) (8 + i * 26 + 26) home' home → job_at home' i ≡ xs → JobsNow (jobs_with home i xs) home home'
  puts home' i xs w o e =
      let a = near home' i (omega arith) o in
      let rows : job_rows_lem home' ≡ job_rows_lem home = ap (λ (n : ℕ). min n 256) (o.below 1 (omega arith)) in
      record { state = jobs_state home home' fits a (jobs_with home i xs) (ap (span (job_at home') 0) rows ∙ put_list_lem (job_at home) (job_at home') (job_rows_lem home) i xs w e (λ j h ne. other_job home' i j (omega arith) o (omega arith) ne)); long = o.long }

  pub job_put : (home' r : List ℕ) (i : ℕ) (x : s.Job) → i < job_rows_lem home → length r ≡ 26 → job_from_lem r ≡ x → (at r 0 ≡ 0 → ⊥) → WordsPut (8 + i * 26) r home home' → JobsNow (jobs_with home i (x ∷ [])) home home'
  job_put home' r i x w l e ne p =
      let here : job_row_lem home' i ≡ r = ap (λ (k : ℕ). take k (drop (8 + i * 26) home')) (sym l) ∙ p.here in
      let o : Only (8 + i * 26) (8 + i * 26 + 26) home' home = subst (λ (k : ℕ). Only (8 + i * 26) (8 + i * 26 + k) home' home) l p.only in
      puts home' i (x ∷ []) w o (ap job_slot here ∙ slot_full (at r 0) (job_from_lem r) ne ∙ ap (λ (y : s.Job). y ∷ []) e)

  pub job_gone : (i : ℕ) → i < job_rows_lem home → JobsNow (jobs_with home i []) home (set home (8 + i * 26) 0)
  job_gone i w =
      let o : Only (8 + i * 26) (8 + i * 26 + 26) (set home (8 + i * 26) 0) home = only_wide (8 + i * 26) (8 + i * 26 + 1) (8 + i * 26) (8 + i * 26 + 26) _ _ (omega arith) (omega arith) (set_only (8 + i * 26) 0 home) in
      let z : at (job_row_lem (set home (8 + i * 26) 0) i) 0 ≡ 0 = get_or-take 26 (drop (8 + i * 26) (set home (8 + i * 26) 0)) 0 0 (omega arith) ∙ get_or-drop (8 + i * 26) (set home (8 + i * 26) 0) 0 0 ∙ (let e : 8 + i * 26 + 0 ≡ 8 + i * 26 = omega arith in ap (at (set home (8 + i * 26) 0)) e) ∙ get_or-set_same home (8 + i * 26) 0 0 (omega arith) in
      puts (set home (8 + i * 26) 0) i [] w o (slot_hole (at (job_row_lem (set home (8 + i * 26) 0) i) 0) (job_from_lem (job_row_lem (set home (8 + i * 26) 0) i)) z)

  -- the number of rows in use is written
  rows_word : (mid : List ℕ) (v i : ℕ) → length mid ≡ length home → i < 256 → job_at (set mid 1 v) i ≡ job_at mid i
  rows_word mid v i l w = ap job_slot (only_row 1 2 (8 + i * 26) 26 (set mid 1 v) mid (set_only 1 v mid) (omega arith) (inr (omega arith)))

  pub job_pushed : (mid r : List ℕ) (n : ℕ) (x : s.Job) → n ≡ job_rows_lem home → n < 256 → length r ≡ 26 → job_from_lem r ≡ x → (at r 0 ≡ 0 → ⊥) → WordsPut (8 + n * 26) r home mid → JobsNow (jobs_of home ++ x ∷ []) home (set mid 1 (n + 1))
  job_pushed mid r n x is w l e ne p =
      let o : Only (8 + n * 26) (8 + n * 26 + 26) mid home = subst (λ (k : ℕ). Only (8 + n * 26) (8 + n * 26 + k) mid home) l p.only in
      let here : job_row_lem mid n ≡ r = ap (λ (k : ℕ). take k (drop (8 + n * 26) mid)) (sym l) ∙ p.here in
      let long = o.long in
      let a = apart_set 8 6664 1 (n + 1) home mid (omega arith) (omega arith) (near mid n w o) in
      let one : at (set mid 1 (n + 1)) 1 ≡ n + 1 = get_or-set_same mid 1 (n + 1) 0 (omega arith) in
      let rows : job_rows_lem (set mid 1 (n + 1)) ≡ n + 1 = ap (λ (k : ℕ). min k 256) one ∙ omega arith in
      let new' : job_at (set mid 1 (n + 1)) n ≡ x ∷ [] = rows_word mid (n + 1) n long w ∙ ap job_slot here ∙ slot_full (at r 0) (job_from_lem r) ne ∙ ap (λ (y : s.Job). y ∷ []) e in
      let list : jobs_of (set mid 1 (n + 1)) ≡ jobs_of home ++ x ∷ [] =
      ap (span (job_at (set mid 1 (n + 1))) 0) rows ∙ push_list (job_at home) (job_at (set mid 1 (n + 1))) n (x ∷ []) new' (λ j h. rows_word mid (n + 1) j long (omega arith) ∙ other_job mid n j w o (omega arith) (λ q. omega arith)) ∙ ap (λ (k : ℕ). span (job_at home) 0 k ++ x ∷ []) is in
      record { state = jobs_state home (set mid 1 (n + 1)) fits a (jobs_of home ++ x ∷ []) list; long = a.long }

  pub jobs_closed : (fs mid fs' : List ℕ) (n to : ℕ) → n ≡ job_rows_lem home → Closed 8 26 n home fs mid fs' to → JobsNow (jobs_of home) home (set mid 1 to) × (job_rows_lem (set mid 1 to) ≡ length (jobs_of home))
  jobs_closed fs mid fs' n to is c =
      let low = c.low in
      let long = c.only.long in
      let a = apart_set 8 6664 1 to home mid (omega arith) (omega arith) (apart_only 8 6664 1 8 (8 + n * 26) home mid (omega arith) (omega arith) c.only) in
      let one : at (set mid 1 to) 1 ≡ to = get_or-set_same mid 1 to 0 (omega arith) in
      let rows : job_rows_lem (set mid 1 to) ≡ to = ap (λ (k : ℕ). min k 256) one ∙ omega arith in
      let q = closed_list (λ (r : List ℕ) (v : ℕ). job_from_lem r) 8 26 home fs mid fs' (job_at home) (job_at (set mid 1 to)) n to c (λ i h. refl) (λ i h. rows_word mid to i long (omega arith)) in
      let all : span (job_at home) 0 n ≡ jobs_of home = ap (span (job_at home) 0) is in (
        record { state = jobs_state home (set mid 1 to) fits a (jobs_of home) (ap (span (job_at (set mid 1 to)) 0) rows ∙ q.0 ∙ all); long = a.long },
        rows ∙ sym (ap length (sym all) ∙ q.1),
      )

-- one change after another
pub jobs_then : (home mid home' : List ℕ) (x : s.Job) → JobsNow (jobs_of home) home mid → JobsNow (jobs_of mid ++ x ∷ []) mid home' → JobsNow (jobs_of home ++ x ∷ []) home home'
jobs_then home mid home' x a b =
    let js : jobs_of mid ≡ jobs_of home = ap (λ (u : s.State). u.jobs) (a.state [] 0) in
    record {
      state = λ live time. b.state live time ∙ ap (λ (zs : List s.Job). with_jobs (zs ++ x ∷ []) (state_of mid live time)) js ∙ ap (with_jobs (jobs_of home ++ x ∷ [])) (a.state live time);
      long = b.long ∙ a.long;
    }
