-- The time goes on, over the words.
-- Assumes nothing.
use Rattle.std.proofs.Common.{◌≡◌, ℕ, ◌<◌, ◌≤◌, List, map, length, sym, refl, ap, ◌∙◌, subst}
use Rattle.std.proofs.lemmas.Bool.{eq-eqb, ne_eqb, lt-ltb, le-ltb}
use Rattle.model.specs.State as s
use Rattle.model.specs.Settle.{settle}
use Rattle.model.specs.Calls.{Tick, acts, no, yes', unsure, later, timed}
use Rattle.model.proofs.Settles.{Tidy, Fine}
use Rattle.model.proofs.Acts.Good.{fine_timed}
use Rattle.jobs.specs.Tables.{tasks_of, machines_of, state_of, TasksNow}
use Rattle.jobs.proofs.Frames.{machines_same}
use Rattle.settling.specs.Scan.{Became}
use Rattle.calls.proofs.Noted.{state_is}

-- what is fine at one time is so at any
pub fine_then : (home live : List ℕ) (t u : ℕ) → Fine (state_of home live t) → Fine (state_of home live u)
fine_then home live t u f = record { jobs = f.jobs; machines = f.machines; tidy = f.tidy }

module _ (time : ℕ) (home live l1 : List ℕ) (fits : 68104 ≤ length home) (fine : Fine (state_of home live time)) (a : TasksNow (map (unsure time (machines_of home live)) (tasks_of home live)) home live home l1) where
  pub timed_state : state_of home l1 time ≡ timed time (state_of home live time)
  timed_state = state_is home l1 time (timed time (state_of home live time)) refl (machines_same home live home l1 fits a.frame) refl a.tasks refl

  pub timed_tidy : Tidy (state_of home l1 time)
  timed_tidy = subst Tidy (sym timed_state) (fine_timed time (state_of home live time) fine).tidy

  pub timed_settled : (h2 l2 : List ℕ) → Became (settle (state_of home l1 time)) home l1 h2 l2 time → state_of h2 l2 time ≡ settle (timed time (state_of home live time))
  timed_settled h2 l2 b = b.state ∙ ap settle timed_state

-- which times are refused
pub tick_zero : (ms : ℕ) (s : s.State) → ms ≡ 0 → acts (Tick ms) s ≡ no 1 s
unfolding acts
tick_zero ms s e = rw (eq-eqb ms 0 e)

pub tick_late : (ms : ℕ) (s : s.State) → (ms ≡ 0 → ⊥) → 4611686018427387904 < ms → acts (Tick ms) s ≡ no 1 s
unfolding acts
tick_late ms s n h = rw (ne_eqb ms 0 n, lt-ltb 4611686018427387904 ms h)

pub tick_yes : (ms : ℕ) (s : s.State) → (ms ≡ 0 → ⊥) → ms ≤ 4611686018427387904 → acts (Tick ms) s ≡ yes' (timed (later ms s.now) s)
unfolding acts
tick_yes ms s n h = rw (ne_eqb ms 0 n, le-ltb 4611686018427387904 ms h)
