use Rattle.calm.proofs.sooner.Goals as goal
use Rattle.calm.proofs.Resting.{really_sooner}

pub returns : goal.returns
returns c = really_sooner
