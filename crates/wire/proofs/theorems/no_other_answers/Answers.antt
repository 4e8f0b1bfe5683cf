use Rattle.wire.proofs.AnswersAgain.{no_other_answers}
use Rattle.wire.proofs.theorems.no_other_answers.Goals as goal

pub returns : goal.returns
returns c = no_other_answers
