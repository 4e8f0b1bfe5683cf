use Rattle.rest.proofs.Bounds.{apart_unlowered}
use Rattle.rest.proofs.apart_unlowered.Goals as goal

pub returns : goal.returns
returns c = apart_unlowered
