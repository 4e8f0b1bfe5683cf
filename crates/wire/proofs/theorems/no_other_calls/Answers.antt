use Rattle.wire.proofs.CallsAgain.{no_other_calls}
use Rattle.wire.proofs.theorems.no_other_calls.Goals as goal

pub returns : goal.returns
returns c = no_other_calls
