use Rattle.std.proofs.Common.{refl}
use Rattle.agents.proofs.Around.{marked_at}
use Rattle.agents.proofs.agent.Agent.mark.Goals as goal

pub returns : goal.returns
returns c = let p = rw c.in_ok-i.ensures.ok_part at c.place.ensures in record { agent = (marked_at _ c.in_ok-i.i _ _ c.as_slice.ensures.value p _ _ refl refl, refl); machine = refl }
