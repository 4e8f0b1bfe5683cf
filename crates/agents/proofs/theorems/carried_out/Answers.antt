use Rattle.agents.proofs.Carrying.{carried_out_lem}
use Rattle.agents.proofs.theorems.carried_out.Goals as goal

pub returns : goal.returns
returns c = carried_out_lem
