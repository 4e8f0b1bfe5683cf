use Rattle.model.proofs.Room.{waits_for_room_lem}
use Rattle.model.proofs.state.waits_for_room.Goals as goal

pub returns : goal.returns
returns c = waits_for_room_lem
