use Rattle.rest.proofs.Listed.{runs_as_listed}
use Rattle.rest.proofs.runs_as_listed.Goals as goal

pub returns : goal.returns
returns c = runs_as_listed
