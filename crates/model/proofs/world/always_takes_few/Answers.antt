use Rattle.model.proofs.Replies.{always_takes_few_lem}
use Rattle.model.proofs.world.always_takes_few.Goals as goal

pub returns : goal.returns
returns c = always_takes_few_lem
