use Rattle.std.proofs.Common.{refl}
use Rattle.std.specs.List.{flat_map}
use Rattle.model.specs.Calls.{Order}
use Rattle.agents.specs.Memory.{seens_of}
use Rattle.wire.specs.Replies.{order_of}
use Rattle.agents.specs.Reporting.{task_bytes_lem}
use Rattle.agents.proofs.Lists.{gather_none, gather_item, gather_all}
use Rattle.agents.proofs.report.add_tasks.Goals as goal

pub loop-order-init : goal.loop-order-init
loop-order-init c = gather_none order_of (flat_map (λ (o : Order). task_bytes_lem (seens_of c.args.seens.now) o.id)) _ c.args.orders.now refl

pub loop-order-preserved : goal.loop-order-preserved
loop-order-preserved c =
    gather_item order_of (λ (o : Order). task_bytes_lem (seens_of c.args.seens.now) o.id) _ c.args.orders.now c.loop-order.order-index c.order-item.result _ _ c.loop-order-test.true c.order-item.is c.loop-order.invariant
    c.in_ok-add_task.ensures

pub returns : goal.returns
returns c = gather_all order_of (flat_map (λ (o : Order). task_bytes_lem (seens_of c.args.seens.now) o.id)) _ c.args.orders.now c.loop-order.order-index _ c.loop-order-test.false c.loop-order.invariant
