-- Rows that come and rows that move.
-- Assumes nothing.
use Rattle.std.proofs.Common.{◌≡◌, ℕ, zero, suc, ◌+◌, ◌*◌, ◌<◌, ◌≤◌, min, false, cond, eqb, List, [], ◌∷◌, ◌++◌, map, length, take, drop, set, sym, refl, ap, ◌∙◌, inl, inr, arith}
use borrow.Rule.Slice.PartMut.{put_mid}
use Rattle.std.proofs.lemmas.List.{get_or-take, get_or-drop, get_or-set_same, get_or-set_other, map-append, length-map}
use Rattle.std.proofs.lemmas.Bool.{cases_Bool, ne_eqb}
use Rattle.model.specs.State as s
use Rattle.model.specs.Settle.{fresh, more}
use Rattle.jobs.specs.Layout.{home_words_lem, live_words}
use Rattle.jobs.specs.Rows.{at, row_at, span, Only, Entry, entry_at, Closed}
use Rattle.jobs.specs.Tables.{task_from, task_slot, task_row_lem, task_at, task_rows_lem, tasks_of, job_from_lem, job_row_lem, state_of, TasksOnly, TasksNow}
use Rattle.jobs.proofs.Words.{set_only, only_row, put_only, put_row_lem, row_length}
use Rattle.jobs.proofs.Spans.{span_same, span_more}
use Rattle.jobs.proofs.Frames.{other_row, jobs_same, machines_same}

-- a word before the rows of tasks is written
low_word : (k v : ℕ) (ws : List ℕ) (i : ℕ) → k < 12808 → home_words_lem ≤ length ws → i < 2048 → task_row_lem (set ws k v) i ≡ task_row_lem ws i
low_word k v ws i h fits w = only_row k (k + 1) (12808 + i * 27) 27 (set ws k v) ws (set_only k v ws) (omega arith) (inr (omega arith))

-- A NEW TASK

module _ (home live mid : List ℕ) (j n : ℕ) (fits : home_words_lem ≤ length home) (flags : live_words ≤ length live) (free : n < 2048) (is : n ≡ task_rows_lem home)
    (here : task_row_lem mid n ≡ (at home 0 + 1) ∷ 0 ∷ 0 ∷ 0 ∷ take 23 (job_row_lem home j)) (only : Only (12808 + n * 27) (12808 + n * 27 + 27) mid home) where
  abbrev home' : List ℕ
  home' = set (set mid 0 (at home 0 + 1)) 3 (n + 1)

  abbrev live' : List ℕ
  live' = set live (256 + n) 0

  fit_mid : home_words_lem ≤ length mid
  fit_mid = let e = only.long in omega arith

  long : length (set mid 0 (at home 0 + 1)) ≡ length mid
  long = (set_only 0 (at home 0 + 1) mid).long

  row_mid : (i : ℕ) → i < 2048 → task_row_lem (set (set mid 0 (at home 0 + 1)) 3 (n + 1)) i ≡ task_row_lem mid i
  row_mid i h = low_word 3 (n + 1) (set mid 0 (at home 0 + 1)) i (omega arith) (let e = long in let f = fit_mid in omega arith) h ∙ low_word 0 (at home 0 + 1) mid i (omega arith) fit_mid h

  at_old : (i : ℕ) → i < n → task_at (set (set mid 0 (at home 0 + 1)) 3 (n + 1)) (set live (256 + n) 0) i ≡ task_at home live i
  at_old i h =
      ap (λ (r : List ℕ). task_slot r (at (set live (256 + n) 0) (256 + i))) (row_mid i (omega arith) ∙ other_row home live mid live (n) fits free only i (omega arith) (λ e. omega arith)) ∙
      ap (task_slot (task_row_lem home i)) (get_or-set_other live (256 + n) (256 + i) 0 0 (λ e. omega arith))

  at_new : task_at (set (set mid 0 (at home 0 + 1)) 3 (n + 1)) (set live (256 + n) 0) (n) ≡ fresh (job_from_lem (job_row_lem home j)) (at home 0 + 1) ∷ []
  at_new =
      let w : 256 + n < length live = omega arith in
      let z : eqb (at home 0 + 1) 0 ≡ false = ne_eqb (at home 0 + 1) 0 (λ e. omega arith) in
      ap (λ (r : List ℕ). task_slot r (at (set live (256 + n) 0) (256 + n))) (row_mid (n) free ∙ here) ∙
      ap (task_slot ((at home 0 + 1) ∷ 0 ∷ 0 ∷ 0 ∷ take 23 (job_row_lem home j))) (get_or-set_same live (256 + n) 0 0 w) ∙ rw z

  word_3 : at (set (set mid 0 (at home 0 + 1)) 3 (n + 1)) 3 ≡ n + 1
  word_3 = get_or-set_same (set mid 0 (at home 0 + 1)) 3 (n + 1) 0 (let e = long in let f = fit_mid in omega arith)

  word_0 : at (set (set mid 0 (at home 0 + 1)) 3 (n + 1)) 0 ≡ at home 0 + 1
  word_0 = get_or-set_other (set mid 0 (at home 0 + 1)) 3 0 (n + 1) 0 (λ e. omega arith) ∙ get_or-set_same mid 0 (at home 0 + 1) 0 (let f = fit_mid in omega arith)

  tasks_now : tasks_of (set (set mid 0 (at home 0 + 1)) 3 (n + 1)) (set live (256 + n) 0) ≡ tasks_of home live ++ fresh (job_from_lem (job_row_lem home j)) (at home 0 + 1) ∷ []
  tasks_now =
      let m : min (n + 1) 2048 ≡ n + 1 = omega arith in
      ap (λ (k : ℕ). span (task_at home' live') 0 (min k 2048)) word_3 ∙ ap (span (task_at home' live') 0) m ∙ span_more (task_at home' live') (n) ∙
      ap (λ (xs : List s.Task). xs ++ task_at home' live' (n)) (span_same (task_at home' live') (task_at home live) 0 (n) (λ k l h. at_old k (omega arith)) ∙ ap (span (task_at home live) 0) is) ∙
      ap (λ (xs : List s.Task). tasks_of home live ++ xs) at_new

  pub adds_frame : TasksOnly home live (set (set mid 0 (at home 0 + 1)) 3 (n + 1)) (set live (256 + n) 0)
  adds_frame = record {
    long = (set_only 3 (n + 1) (set mid 0 (at home 0 + 1))).long ∙ long ∙ only.long;
    long_live = (set_only (256 + n) 0 live).long;
    words = λ k h a b. get_or-set_other (set mid 0 (at home 0 + 1)) 3 k (n + 1) 0 b ∙ get_or-set_other mid 0 k (at home 0 + 1) 0 a ∙ only.below k (omega arith);
    heard = λ k h. get_or-set_other live (256 + n) k 0 0 (λ e. omega arith);
  }

  pub adds : (time : ℕ) → state_of (set (set mid 0 (at home 0 + 1)) 3 (n + 1)) (set live (256 + n) 0) time ≡ more (job_from_lem (job_row_lem home j)) (state_of home live time)
  adds time = λ k. record {
    now = time;
    next_id = ap (λ (x : ℕ). x + 1) word_0 k;
    machines = machines_same home live home' live' fits adds_frame k;
    jobs = jobs_same home live home' live' fits adds_frame k;
    tasks = tasks_now k;
  }

-- CLOSING HOLES

-- what the entries of rows stand for
map_slot : {X : Type 0} (g : List ℕ → ℕ → X) (r : List ℕ) (v : ℕ) → cond (eqb (at r 0) 0) [] (g r v ∷ []) ≡ map (λ (e : Entry). g e.row e.flag) (cond (eqb (at r 0) 0) [] (record { row = r; flag = v } ∷ []))
map_slot g r v = elim (cases_Bool (eqb (at r 0) 0)) [ inl t ↦ rw t | inr n ↦ rw n ]

pub span_map : {X Y : Type 0} (g : X → Y) (f : ℕ → List X) (a n : ℕ) → span (λ i. map g (f i)) a n ≡ map g (span f a n)
unfolding span
span_map g f a zero = refl
span_map {Y = Y} g f a (suc n) = ap (λ (ys : List Y). map g (f a) ++ ys) (span_map g f (suc a) n) ∙ sym (map-append g (f a) (span f (suc a) n))

-- rows of a table with its decoder g, and its words fs: h is what row i stands for
module _ {X : Type 0} (g : List ℕ → ℕ → X) (b w : ℕ) where
  decoded : (ws fs : List ℕ) (h : ℕ → List X) (n : ℕ) → ((i : ℕ) → i < n → h i ≡ cond (eqb (at (row_at b w ws i) 0) 0) [] (g (row_at b w ws i) (at fs i) ∷ [])) → span h 0 n ≡ map (λ (e : Entry). g e.row e.flag) (span (entry_at b w ws fs) 0 n)
  decoded ws fs h n e = span_same h (λ i. map (λ (x : Entry). g x.row x.flag) (entry_at b w ws fs i)) 0 n (λ k l u. e k (omega arith) ∙ map_slot g (row_at b w ws k) (at fs k)) ∙ span_map (λ (x : Entry). g x.row x.flag) (entry_at b w ws fs) 0 n

  -- closing leaves the list
  pub closed_list : (ws fs ws' fs' : List ℕ) (h h' : ℕ → List X) (n to : ℕ) → Closed b w n ws fs ws' fs' to →
      ((i : ℕ) → i < n → h i ≡ cond (eqb (at (row_at b w ws i) 0) 0) [] (g (row_at b w ws i) (at fs i) ∷ [])) → ((i : ℕ) → i < to → h' i ≡ cond (eqb (at (row_at b w ws' i) 0) 0) [] (g (row_at b w ws' i) (at fs' i) ∷ [])) → (span h' 0 to ≡ span h 0 n) × (length (span h 0 n) ≡ to)
  closed_list ws fs ws' fs' h h' n to c e e' = (
    decoded ws' fs' h' to e' ∙ ap (map (λ (x : Entry). g x.row x.flag)) c.list ∙ sym (decoded ws fs h n e),
    ap length (decoded ws fs h n e) ∙ length-map (span (entry_at b w ws fs) 0 n) (λ (x : Entry). g x.row x.flag) ∙ c.count,
  )

-- a part of the words, and that part written anew
pub part_at : (o n : ℕ) (ws : List ℕ) (i : ℕ) → i < n → at (take n (drop o ws)) i ≡ at ws (o + i)
part_at o n ws i h = get_or-take n (drop o ws) i 0 h ∙ get_or-drop o ws i 0

pub put_at : (o n : ℕ) (ws r : List ℕ) (i : ℕ) → i < n → o + n ≤ length ws → length r ≡ n → at (put_mid o n ws r) (o + i) ≡ at r i
put_at o n ws r i h l e = sym (part_at o n (put_mid o n ws r) i h) ∙ ap (λ (xs : List ℕ). at xs i) (put_row_lem n o n ws r (omega arith) e)

module _ (home live mid fs' : List ℕ) (n to : ℕ) (fits : home_words_lem ≤ length home) (flags : live_words ≤ length live) (is : n ≡ task_rows_lem home) (c : Closed 12808 27 n home (take 2048 (drop 256 live)) mid fs' to) where
  abbrev hc : List ℕ
  hc = set mid 3 to

  abbrev lc : List ℕ
  lc = put_mid 256 2048 live fs'

  long_fs : length fs' ≡ 2048
  long_fs = c.long ∙ row_length 2048 256 live (omega arith)

  long_mid : length mid ≡ length home
  long_mid = c.only.long

  word_rows : at (set mid 3 to) 3 ≡ to
  word_rows = get_or-set_same mid 3 to 0 (let e = long_mid in omega arith)

  rows_is : task_rows_lem (set mid 3 to) ≡ to
  rows_is = let l = c.low in ap (λ (k : ℕ). min k 2048) word_rows ∙ omega arith

  lists : (span (task_at (set mid 3 to) (put_mid 256 2048 live fs')) 0 to ≡ span (task_at home live) 0 n) × (length (span (task_at home live) 0 n) ≡ to)
  lists =
      let l = c.low in
      closed_list task_from 12808 27 home (take 2048 (drop 256 live)) mid fs' (task_at home live) (task_at hc lc) n to c
      (λ i h. ap (task_slot (task_row_lem home i)) (sym (part_at 256 2048 live i (omega arith))))
      (λ i h. ap (λ (r : List ℕ). task_slot r (at lc (256 + i))) (low_word 3 to mid i (omega arith) (let e = long_mid in omega arith) (omega arith)) ∙ ap (task_slot (task_row_lem mid i)) (put_at 256 2048 live fs' i (omega arith) (omega arith) long_fs))

  all_is : span (task_at home live) 0 n ≡ tasks_of home live
  all_is = ap (span (task_at home live) 0) is

  pub compacts : TasksNow (tasks_of home live) home live (set mid 3 to) (put_mid 256 2048 live fs')
  compacts =
      let o = put_only 256 2048 live fs' (omega arith) long_fs in
      record {
        tasks = ap (span (task_at hc lc) 0) rows_is ∙ lists.0 ∙ all_is;
        last = get_or-set_other mid 3 0 to 0 (λ e. omega arith) ∙ c.only.below 0 (omega arith);
        frame = record {
          long = (set_only 3 to mid).long ∙ long_mid;
          long_live = o.long;
          words = λ k h p q. get_or-set_other mid 3 k to 0 q ∙ c.only.below k (omega arith);
          heard = λ k h. o.below k (omega arith);
        };
      }

  pub compacts_rows : task_rows_lem (set mid 3 to) ≡ length (tasks_of home live)
  compacts_rows = rows_is ∙ sym (ap length (sym all_is) ∙ lists.1)
