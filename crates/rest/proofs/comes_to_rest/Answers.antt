use Rattle.rest.proofs.Lines.{comes_to_rest}
use Rattle.rest.proofs.comes_to_rest.Goals as goal

pub returns : goal.returns
returns c = comes_to_rest
