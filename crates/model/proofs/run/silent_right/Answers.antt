use Rattle.model.proofs.Rights.{silent_right_lem}
use Rattle.model.proofs.run.silent_right.Goals as goal

pub returns : goal.returns
returns c = silent_right_lem
