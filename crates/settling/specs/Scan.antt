-- What is there of a job, as one scan of the rows finds it.
-- Assumes nothing.
use Rattle.std.specs.Prelude.{◌≡◌, ℕ, ◌+◌, ◌<◌, Bool, cond, not, ◌&&◌, List, [], ◌∷◌, length, Some, None, Option, MatchOption, ◌==◌}
use Rattle.model.specs.Lists.{keep, last_of}
use Rattle.model.specs.State as s
use Rattle.model.specs.State.{is_machine, is_ready_lem, is_ending, of_job}
use Rattle.model.specs.Settle.{mine, alive, new_ones, old_ones, ready_ones, sure, present}
use Rattle.model.proofs.Settles.{Tidy}
use Rattle.jobs.specs.Rows.{span}
use Rattle.jobs.specs.Tables.{state_of, TasksOnly}
use Rattle.settling.specs.declared.tally.Picks.{Picks}
use Rattle.settling.specs.declared.tally.Tally.{Tally}

-- tasks by rising numbers, below the next
abbrev pub Numbered : s.State → Type 0
Numbered s = Tidy s

-- a machine of that number that is present
abbrev pub is_present : ℕ → ℕ → s.Machine → Bool
is_present time k m = is_machine k m && present time m

module _ (j : s.Job) (st : s.State) where
  abbrev pub is_mine : s.Task → Bool
  is_mine x = of_job j.name x

  abbrev pub is_alive : s.Task → Bool
  is_alive x = is_mine x && not (is_ending x.phase)

  abbrev pub is_new : s.Task → Bool
  is_new x = is_alive x && x.version == j.version

  abbrev pub is_old : s.Task → Bool
  is_old x = is_alive x && not (x.version == j.version)

  abbrev pub is_spare : s.Task → Bool
  is_spare x = not (is_ready_lem x.phase) && sure st x

  -- the tally with one more task, in row i
  abbrev pub stepped : ℕ → s.Task → Tally → Tally
  stepped i x y = record {
    total = y.total + 1;
    all = y.all + cond (is_mine x) 1 0;
    new = y.new + cond (is_new x) 1 0;
    ready = y.ready + cond (is_mine x && is_ready_lem x.phase) 1 0;
    old = record { idle = cond (is_old x && is_spare x) (Some i) y.old.idle; busy = cond (is_old x && is_ready_lem x.phase) (Some i) y.old.busy };
    newer = record { idle = cond (is_new x && is_spare x) (Some i) y.newer.idle; busy = cond (is_new x && is_ready_lem x.phase) (Some i) y.newer.busy };
  }

  -- the tally with one more row: a hole adds nothing
  abbrev pub stepped_by : ℕ → List s.Task → Tally → Tally
  stepped_by i [] y = y
  stepped_by i (x ∷ xs) y = stepped i x y

-- the row of the last of xs, if there is one
abbrev pub LastAt : (ℕ → List s.Task) → ℕ → Option ℕ → List s.Task → Type 0
LastAt f n o xs = MatchOption o (xs ≡ []) (λ i. (t : s.Task) × (i < n) × (f i ≡ t ∷ []) × (last_of xs ≡ t ∷ []))

abbrev pub spares : s.State → List s.Task → List s.Task
spares st ts = keep (λ (t : s.Task). not (is_ready_lem t.phase) && sure st t) ts

-- the tally is right of the first n rows
pub record Tallied (j : s.Job) (st : s.State) (f : ℕ → List s.Task) (n : ℕ) (r : Tally) : Type 0 where
  pub total : r.total ≡ length (span f 0 n)
  pub all : r.all ≡ length (mine j (span f 0 n))
  pub new : r.new ≡ length (new_ones j (alive (mine j (span f 0 n))))
  pub ready : r.ready ≡ length (ready_ones (mine j (span f 0 n)))
  pub old_idle : LastAt f n r.old.idle (spares st (old_ones j (alive (mine j (span f 0 n)))))
  pub old_busy : LastAt f n r.old.busy (ready_ones (old_ones j (alive (mine j (span f 0 n)))))
  pub new_idle : LastAt f n r.newer.idle (spares st (new_ones j (alive (mine j (span f 0 n)))))
  pub new_busy : LastAt f n r.newer.busy (ready_ones (new_ones j (alive (mine j (span f 0 n)))))

-- WHO ENDS

abbrev pub pick_end : Bool → Picks → Option ℕ
pick_end enough p = elim p.idle [ Some i ↦ Some i | None ↦ cond enough p.busy None ]

-- the row of the one task in xs, if there is one
abbrev pub OneAt : (ℕ → List s.Task) → ℕ → Option ℕ → List s.Task → Type 0
OneAt f n o xs = MatchOption o (xs ≡ []) (λ i. (t : s.Task) × (i < n) × (f i ≡ t ∷ []) × (xs ≡ t ∷ []))

-- THE PASS, ROW BY ROW

-- the state is u now; jobs and machines stay
pub record Became (u : s.State) (home live home' live' : List ℕ) (time : ℕ) : Type 0 where
  pub state : state_of home' live' time ≡ u
  pub frame : TasksOnly home live home' live'
