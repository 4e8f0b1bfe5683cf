use Rattle.model.proofs.Least.{least_stays}
use Rattle.model.proofs.state.least_stays.Goals as goal

pub returns : goal.returns
returns c = least_stays
