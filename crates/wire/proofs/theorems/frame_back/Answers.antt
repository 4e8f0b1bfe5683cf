use Rattle.wire.proofs.Framing.{frame_back}
use Rattle.wire.proofs.theorems.frame_back.Goals as goal

pub returns : goal.returns
returns c = frame_back
