-- An agent's moves lead from worlds that are reached to worlds that are reached, so all that is shown of those holds of what the code does.
-- Assumes nothing.
use Rattle.std.specs.Prelude.{ℕ, ◌<◌, Bool, List}
use mathlib.Core.List.{Memᴰ}
use Rattle.model.specs.Calls.{Seen, Order}
use Rattle.model.specs.World.{Back, World, Reach, risen, reported, report_of, running, obeys, with_agent, with_word}
use Rattle.agents.specs.Steps.{starting, Marked, Gone}

pub record MovesReach (w : World) (i : ℕ) : Type 0 where
  pub rises : Reach (with_agent i (risen (w.agent i)) w)
  pub reports : 0 < (w.agent i).life → Reach (with_word (report_of i (w.agent i)) (with_agent i (reported (w.agent i)) w))
  pub starts : Reach (with_agent i (starting (w.agent i)) w)
  -- it obeys what the herd answered to its last report, and starts what is ordered
  pub obeyed : (os : List Order) → Memᴰ (Back i (w.agent i).life (w.agent i).number os) w.sent → Reach (with_agent i (starting (obeys os (w.agent i))) w)
  pub becomes : (t : ℕ) (b : Bool) (ys : List Seen) → Marked t b (w.agent i).runs ys → Reach (with_agent i (running ys (w.agent i)) w)
  pub dies : (t : ℕ) (ys : List Seen) → Gone t (w.agent i).runs ys → Reach (with_agent i (running ys (w.agent i)) w)

abbrev pub AllMovesReach : Type 0
AllMovesReach = (w : World) (i : ℕ) → Reach w → MovesReach w i
