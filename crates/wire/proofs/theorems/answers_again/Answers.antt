use Rattle.wire.proofs.AnswersAgain.{answers_again}
use Rattle.wire.proofs.theorems.answers_again.Goals as goal

pub returns : goal.returns
returns c = answers_again
