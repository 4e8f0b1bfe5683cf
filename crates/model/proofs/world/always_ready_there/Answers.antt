use Rattle.model.proofs.Present.{always_ready_there_lem}
use Rattle.model.proofs.world.always_ready_there.Goals as goal

pub returns : goal.returns
returns c = always_ready_there_lem
