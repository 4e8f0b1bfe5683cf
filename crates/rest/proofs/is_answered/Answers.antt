use Rattle.rest.proofs.Answered.{is_answered}
use Rattle.rest.proofs.is_answered.Goals as goal

pub returns : goal.returns
returns c = is_answered
