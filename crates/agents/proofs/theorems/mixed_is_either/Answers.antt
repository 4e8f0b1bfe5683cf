use Rattle.agents.proofs.Lives.{mixed_is_either_lem}
use Rattle.agents.proofs.theorems.mixed_is_either.Goals as goal

pub returns : goal.returns
returns c = mixed_is_either_lem
