use Rattle.model.proofs.Worlds.{never_too_much_in_any_life_lem}
use Rattle.model.proofs.world.never_too_much_in_any_life.Goals as goal

pub returns : goal.returns
returns c = never_too_much_in_any_life_lem
