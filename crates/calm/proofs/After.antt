-- What a calm move leads to: a world that is told of, by one that the telling one comes to by calm steps.
-- Assumes nothing.
use Rattle.std.proofs.Common.{◌≡◌, ℕ, List, ◌++◌}
use Rattle.model.specs.State.{State}
use Rattle.model.specs.World.{World}
use Rattle.rest.specs.Rounds.{Course}
use Rattle.together.specs.Real.{Heard, Real, Came}
use Rattle.together.specs.Telling.{Told}
use Rattle.together.specs.Now.{herd_state}
use Rattle.together.proofs.Turning.{world}
use Rattle.together.proofs.Telling.{Has, has_come}
use Rattle.together.proofs.Now.{told_is}

-- all is told, and nothing else is asked
abbrev pub Any : List Heard → State → Type 0
Any cs s = Unit {0}

abbrev pub teller : {w : Real} → Told w → World
teller t = world t.state t.agents t.words

pub any_came : {w : Real} → Came w → Has Any w
any_came c = has_come Any tt (λ cs s b r k q h. tt) (λ cs s b h. tt) (λ cs s h. tt) c

pub told_state : (w : Real) (t : Told w) → t.state ≡ herd_state w
told_state w t = told_is w.herd t.state t.stands

-- what comes after: whatever the other world does from there by calm steps, it does from here
pub record After (P : State → Type 0) (ks : List ℕ) (w : World) (v : Real) : Type 0 where
  pub has : Has Any v
  pub ahead : (ls : List ℕ) (z : World) → Course P ls (teller has.told) z → Course P (ks ++ ls) w z
