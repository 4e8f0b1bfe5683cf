use Rattle.model.proofs.Rights.{dark_once_lem}
use Rattle.model.proofs.run.dark_once.Goals as goal

pub returns : goal.returns
returns c = dark_once_lem
