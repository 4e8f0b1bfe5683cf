use Rattle.together.proofs.theorems.answers_stand.Goals as goal
use Rattle.together.proofs.Now.{answers_stand_lem}

pub returns : goal.returns
returns c = answers_stand_lem
