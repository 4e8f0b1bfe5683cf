use Rattle.model.proofs.Over.{never_over_lem}
use Rattle.model.proofs.world.never_over.Goals as goal

pub returns : goal.returns
returns c = never_over_lem
