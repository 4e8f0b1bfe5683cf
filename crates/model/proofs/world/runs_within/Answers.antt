use Rattle.model.proofs.Ordered.{runs_within_lem}
use Rattle.model.proofs.world.runs_within.Goals as goal

pub returns : goal.returns
returns c = runs_within_lem
