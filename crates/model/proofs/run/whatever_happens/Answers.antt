use Rattle.model.proofs.Waits.{whatever_happens_lem}
use Rattle.model.proofs.run.whatever_happens.Goals as goal

pub returns : goal.returns
returns c = whatever_happens_lem
