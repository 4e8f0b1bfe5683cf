use Rattle.model.proofs.Ordered.{orders_all_lem}
use Rattle.model.proofs.state.orders_all.Goals as goal

pub returns : goal.returns
returns c = orders_all_lem
