use Rattle.calm.proofs.calm_is_move.Goals as goal
use Rattle.calm.proofs.Moves.{calm_is_move}

pub returns : goal.returns
returns c = calm_is_move
