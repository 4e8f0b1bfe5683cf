-- Rows of tasks, from the first on: their numbers rise, and were all given.
-- Assumes nothing.
use Rattle.std.proofs.Common.{◌≡◌, ℕ, zero, suc, ◌+◌, ◌-◌, ◌<◌, ◌≤◌, Bool, true, false, ◌&&◌, eqb, ltb, leb, List, [], ◌∷◌, ◌++◌, sym, refl, ap, ◌∙◌, inl, inr, arith}
use Rattle.std.proofs.lemmas.Bool.{and_left, and_right, eqb-false, le-leb, lt-leb, lt-ltb, le-ltb, cases_Bool}
use Rattle.model.specs.Lists.{every}
use Rattle.model.specs.State.{Task}
use Rattle.model.specs.Promise.{rising_tasks}
use Rattle.jobs.specs.Rows.{at, span}
use Rattle.jobs.specs.Tables.{task_at, task_from, task_row_lem, task_rows_lem, task_slot, tasks_of}
use Rattle.jobs.proofs.Spans.{span_rest, span_end}
use Rattle.jobs.proofs.Finds.{slot_hole, slot_full}
use Rattle.calls.specs.Sound.{sound_tasks_lem}

-- all above m, rising, and none above the last one given
abbrev pub above : ℕ → ℕ → List Task → Bool
above m last ts = rising_tasks (m + 1) ts && every (λ (t : Task). ltb t.id (last + 1)) ts

module _ (m last : ℕ) where
  pub above_none : above m last [] ≡ true
  unfolding rising_tasks every
  above_none = refl

  pub above_on : (t : Task) (ts : List Task) → m < t.id → t.id ≤ last → above m last (t ∷ ts) ≡ above t.id last ts
  unfolding rising_tasks every
  above_on t ts l g =
      let a : leb (m + 1) t.id ≡ true = le-leb (m + 1) t.id (omega arith) in
      let b : ltb t.id (last + 1) ≡ true = lt-ltb t.id (last + 1) (omega arith) in
      let k : suc t.id ≡ t.id + 1 = omega arith in
      rw (a, b) (ap (λ (n : ℕ). rising_tasks n ts && every (λ (x : Task). ltb x.id (last + 1)) ts) k)

  pub above_low : (t : Task) (ts : List Task) → t.id ≤ m → above m last (t ∷ ts) ≡ false
  unfolding rising_tasks every
  above_low t ts l = and_left _ _ (and_left _ _ (lt-leb (m + 1) t.id (omega arith)))

  pub above_high : (t : Task) (ts : List Task) → last < t.id → above m last (t ∷ ts) ≡ false
  unfolding rising_tasks every
  above_high t ts l = and_right _ _ (and_left _ _ (le-ltb t.id (last + 1) (omega arith)))

-- a task in a row has no number 0
slot_first : (r : List ℕ) (v : ℕ) (ts : List Task) → rising_tasks 1 ts ≡ rising_tasks 0 ts → rising_tasks 1 (task_slot r v ++ ts) ≡ rising_tasks 0 (task_slot r v ++ ts)
unfolding rising_tasks
slot_first r v ts e =
    elim (cases_Bool (eqb (at r 0) 0)) [
      | inl t ↦ rw t e
      | inr n ↦
          let a : leb 1 (at r 0) ≡ true = le-leb 1 (at r 0) (let z = eqb-false (at r 0) 0 n in (omega arith)) in
          let b : leb 0 (at r 0) ≡ true = le-leb 0 (at r 0) (omega arith) in
          rw n (rw (a, b))
    ]

rising_first : (home live : List ℕ) (i n : ℕ) → rising_tasks 1 (span (task_at home live) i n) ≡ rising_tasks 0 (span (task_at home live) i n)
unfolding span rising_tasks
rising_first home live i zero = refl
rising_first home live i (suc n) = slot_first (task_row_lem home i) (at live (256 + i)) (span (task_at home live) (suc i) n) (rising_first home live (suc i) n)

-- the tasks from row i on
abbrev pub tasks_from : List ℕ → ℕ → List Task
tasks_from home i = span (task_at home []) i (task_rows_lem home - i)

-- what is to say of all, said of those from row i on
abbrev pub SoundFrom : List ℕ → ℕ → ℕ → Type 0
SoundFrom home i m = above m (at home 0) (tasks_from home i) ≡ sound_tasks_lem (at home 0) (tasks_of home [])

pub sound_start : (home : List ℕ) → SoundFrom home 0 0
sound_start home =
    let z : task_rows_lem home - 0 ≡ task_rows_lem home = omega arith in
    ap (λ (n : ℕ). above 0 (at home 0) (span (task_at home []) 0 n)) z ∙
    ap (λ (b : Bool). b && every (λ (t : Task). ltb t.id (at home 0 + 1)) (tasks_of home [])) (rising_first home [] 0 (task_rows_lem home))

pub sound_end : (home : List ℕ) (i m : ℕ) → task_rows_lem home ≤ i → SoundFrom home i m → true ≡ sound_tasks_lem (at home 0) (tasks_of home [])
sound_end home i m h e = sym (ap (above m (at home 0)) (span_end (task_at home []) i (task_rows_lem home) h) ∙ above_none m (at home 0)) ∙ e

module _ (home row : List ℕ) (i m : ℕ) (h : i < task_rows_lem home) (q : row ≡ task_row_lem home i) (e : SoundFrom home i m) where
  pub sound_hole : at row 0 ≡ 0 → SoundFrom home (i + 1) m
  sound_hole z =
      let p : task_at home [] i ≡ [] = ap (λ (r : List ℕ). task_slot r (at [] (256 + i))) (sym q) ∙ slot_hole (at row 0) (task_from row (at [] (256 + i))) z in
      sym (ap (above m (at home 0)) (span_rest (task_at home []) i (task_rows_lem home) h ∙ ap (λ (ts : List Task). ts ++ tasks_from home (i + 1)) p)) ∙ e

  module _ (ne : at row 0 ≡ 0 → ⊥) where
    rest : tasks_from home i ≡ task_from row (at [] (256 + i)) ∷ tasks_from home (i + 1)
    rest =
        let p : task_at home [] i ≡ task_from row (at [] (256 + i)) ∷ [] = ap (λ (r : List ℕ). task_slot r (at [] (256 + i))) (sym q) ∙ slot_full (at row 0) (task_from row (at [] (256 + i))) ne in
        span_rest (task_at home []) i (task_rows_lem home) h ∙ ap (λ (ts : List Task). ts ++ tasks_from home (i + 1)) p

    pub sound_on : m < at row 0 → at row 0 ≤ at home 0 → SoundFrom home (i + 1) (at row 0)
    sound_on l g = sym (ap (above m (at home 0)) rest ∙ above_on m (at home 0) (task_from row (at [] (256 + i))) (tasks_from home (i + 1)) l g) ∙ e

    pub sound_low : at row 0 ≤ m → false ≡ sound_tasks_lem (at home 0) (tasks_of home [])
    sound_low l = sym (ap (above m (at home 0)) rest ∙ above_low m (at home 0) (task_from row (at [] (256 + i))) (tasks_from home (i + 1)) l) ∙ e

    pub sound_high : at home 0 < at row 0 → false ≡ sound_tasks_lem (at home 0) (tasks_of home [])
    sound_high l = sym (ap (above m (at home 0)) rest ∙ above_high m (at home 0) (task_from row (at [] (256 + i))) (tasks_from home (i + 1)) l) ∙ e
