use Rattle.rest.proofs.Sooner.{comes_sooner}
use Rattle.rest.proofs.comes_sooner.Goals as goal

pub returns : goal.returns
returns c = comes_sooner
