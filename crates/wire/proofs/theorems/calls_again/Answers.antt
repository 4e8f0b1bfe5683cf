use Rattle.wire.proofs.CallsAgain.{calls_again}
use Rattle.wire.proofs.theorems.calls_again.Goals as goal

pub returns : goal.returns
returns c = calls_again
