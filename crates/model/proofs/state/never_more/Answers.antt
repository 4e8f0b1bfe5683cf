use Rattle.model.proofs.Most.{never_more_lem}
use Rattle.model.proofs.state.never_more.Goals as goal

pub returns : goal.returns
returns c = never_more_lem
