use Rattle.together.proofs.theorems.never_over.Goals as goal
use Rattle.together.proofs.Over.{never_over_now}

pub returns : goal.returns
returns c = never_over_now
