use Rattle.wire.proofs.AnswersBack.{answers_back}
use Rattle.wire.proofs.theorems.answers_back.Goals as goal

pub returns : goal.returns
returns c = answers_back
