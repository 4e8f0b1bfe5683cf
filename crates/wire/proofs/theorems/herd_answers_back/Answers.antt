use Rattle.wire.proofs.Herd.{herd_answers_back}
use Rattle.wire.proofs.theorems.herd_answers_back.Goals as goal

pub returns : goal.returns
returns c = herd_answers_back
