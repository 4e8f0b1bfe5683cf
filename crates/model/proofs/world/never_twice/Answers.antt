use Rattle.model.proofs.Worlds.{never_twice_lem}
use Rattle.model.proofs.world.never_twice.Goals as goal

pub returns : goal.returns
returns c = never_twice_lem
