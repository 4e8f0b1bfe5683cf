use Rattle.model.proofs.Least.{least_stay_lem}
use Rattle.model.proofs.state.least_stay.Goals as goal

pub returns : goal.returns
returns c = least_stay_lem
