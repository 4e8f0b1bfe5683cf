use Rattle.together.proofs.theorems.takes_few.Goals as goal
use Rattle.together.proofs.Now.{takes_few_lem}

pub returns : goal.returns
returns c = takes_few_lem
