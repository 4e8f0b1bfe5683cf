use Rattle.model.proofs.Worlds.{anchored}
use Rattle.model.proofs.world.anchored.Goals as goal

pub returns : goal.returns
returns c = anchored
