use Rattle.model.proofs.Numbers.{never_back}
use Rattle.model.proofs.world.never_back.Goals as goal

pub returns : goal.returns
returns c = never_back
