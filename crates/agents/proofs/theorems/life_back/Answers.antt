use Rattle.agents.proofs.Lives.{life_back_lem}
use Rattle.agents.proofs.theorems.life_back.Goals as goal

pub returns : goal.returns
returns c = life_back_lem
