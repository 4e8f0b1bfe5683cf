use Rattle.together.proofs.theorems.never_waits.Goals as goal
use Rattle.together.proofs.Now.{never_waits_now}

pub returns : goal.returns
returns c = never_waits_now
