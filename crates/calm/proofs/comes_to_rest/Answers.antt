use Rattle.calm.proofs.comes_to_rest.Goals as goal
use Rattle.calm.proofs.Resting.{really_rests}

pub returns : goal.returns
returns c = really_rests
