use Rattle.wire.proofs.CallsBack.{calls_back}
use Rattle.wire.proofs.theorems.calls_back.Goals as goal

pub returns : goal.returns
returns c = calls_back
