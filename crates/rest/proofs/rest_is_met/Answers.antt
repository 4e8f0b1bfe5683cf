use Rattle.rest.proofs.Example.{rest_is_met}
use Rattle.rest.proofs.rest_is_met.Goals as goal

pub returns : goal.returns
returns c = rest_is_met
