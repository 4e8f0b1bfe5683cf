use Rattle.model.proofs.Least.{pass_takes_few_lem}
use Rattle.model.proofs.state.pass_takes_few.Goals as goal

pub returns : goal.returns
returns c = pass_takes_few_lem
