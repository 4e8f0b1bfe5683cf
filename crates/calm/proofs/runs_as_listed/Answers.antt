use Rattle.calm.proofs.runs_as_listed.Goals as goal
use Rattle.calm.proofs.Resting.{really_as_listed}

pub returns : goal.returns
returns c = really_as_listed
