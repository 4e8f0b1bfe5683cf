use Rattle.model.proofs.Numbers.{same_number}
use Rattle.model.proofs.world.same_number.Goals as goal

pub returns : goal.returns
returns c = same_number
