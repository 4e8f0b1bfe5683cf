use Rattle.agents.proofs.Lives.{torn_is_none_lem}
use Rattle.agents.proofs.theorems.torn_is_none.Goals as goal

pub returns : goal.returns
returns c = torn_is_none_lem
