use Rattle.agents.proofs.Moving.{started_step, started_done}
use Rattle.agents.proofs.running.start_ordered.Goals as goal

pub loop-order-preserved : goal.loop-order-preserved
loop-order-preserved c = started_step _ _ c.in-Some.order.now _ _ _ c.in-Some.ensures.steps c.in_ok-start_one.ensures c.loop-order.invariant

pub returns : goal.returns
returns c = started_done _ _ _ c.in-None.ensures.steps.0 c.loop-order.invariant
