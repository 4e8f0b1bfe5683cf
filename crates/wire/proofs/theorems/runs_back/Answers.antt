use Rattle.wire.proofs.AnswersBack.{runs_back_lem}
use Rattle.wire.proofs.theorems.runs_back.Goals as goal

pub returns : goal.returns
returns c = runs_back_lem
