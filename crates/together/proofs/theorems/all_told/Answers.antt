use Rattle.together.proofs.theorems.all_told.Goals as goal
use Rattle.together.proofs.Telling.{all_told_lem}

pub returns : goal.returns
returns c = all_told_lem
