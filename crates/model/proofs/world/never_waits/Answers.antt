use Rattle.model.proofs.Waits.{never_waits_lem}
use Rattle.model.proofs.world.never_waits.Goals as goal

pub returns : goal.returns
returns c = never_waits_lem
