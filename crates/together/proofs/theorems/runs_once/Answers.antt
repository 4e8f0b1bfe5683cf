use Rattle.together.proofs.theorems.runs_once.Goals as goal
use Rattle.together.proofs.Now.{runs_once}

pub returns : goal.returns
returns c = runs_once
