use Rattle.together.proofs.theorems.ready_there.Goals as goal
use Rattle.together.proofs.Now.{ready_now}

pub returns : goal.returns
returns c = ready_now
