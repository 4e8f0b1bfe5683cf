use Rattle.rest.proofs.Made.{round_can_be}
use Rattle.rest.proofs.round_can_be.Goals as goal

pub returns : goal.returns
returns c = round_can_be
