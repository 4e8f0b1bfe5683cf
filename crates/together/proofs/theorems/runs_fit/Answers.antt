use Rattle.together.proofs.theorems.runs_fit.Goals as goal
use Rattle.together.proofs.Now.{runs_fit_now}

pub returns : goal.returns
returns c = runs_fit_now
