use Rattle.agents.proofs.Reaching.{all_moves_reach_lem}
use Rattle.agents.proofs.theorems.all_moves_reach.Goals as goal

pub returns : goal.returns
returns c = all_moves_reach_lem
