use Rattle.rest.proofs.Unknown.{spares_unknown}
use Rattle.rest.proofs.spares_unknown.Goals as goal

pub returns : goal.returns
returns c = spares_unknown
