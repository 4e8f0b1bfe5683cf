use Rattle.together.proofs.herd.answer.Goals as goal
use Rattle.together.proofs.All.{holds_always}
use Rattle.together.proofs.Moving.{served}

-- what was served is a move of the world
pub returns-clause-moves : goal.returns-clause-moves
returns-clause-moves g c = λ bytes h u. served bytes _ _ _ _ _ (c.answer.ensures.serves bytes h u)

pub returns-clause-always : goal.returns-clause-always
returns-clause-always g c = holds_always
