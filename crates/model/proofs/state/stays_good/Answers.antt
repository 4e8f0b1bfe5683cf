use Rattle.model.proofs.Acts.{stay_good}
use Rattle.model.proofs.state.stays_good.Goals as goal

pub returns : goal.returns
returns c = stay_good
