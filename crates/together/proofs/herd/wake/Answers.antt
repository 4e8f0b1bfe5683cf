use Rattle.together.proofs.herd.wake.Goals as goal
use Rattle.together.proofs.Moving.{herd_wakes}

pub returns-clause-moves : goal.returns-clause-moves
returns-clause-moves g c = herd_wakes _ _ c.wake.ensures.follows
