use Rattle.rest.proofs.Made.{rounds_can_be}
use Rattle.rest.proofs.rounds_can_be.Goals as goal

pub returns : goal.returns
returns c = rounds_can_be
