use Rattle.std.proofs.Common.{◌≡◌, Err, is_ok, rules, sym, ap, subst}
use Rattle.wire.specs.Answering.{OrdersAs}
use Rattle.wire.specs.declared.unread.Unread.TheVariants.{NoAnswer}
use Rattle.wire.specs.Replies.{order_of}
use Rattle.wire.proofs.Lists.{pushed}
use Rattle.wire.proofs.Ordered.{reading_bad, reading_more, reading_ends, reading_all}
use Rattle.wire.proofs.orders.orders_in.Goals as goal

pub returns-in_err-order : goal.returns-in_err-order
returns-in_err-order c =
    let q : c.from_residual.result ≡ Err NoAnswer = grind rules in let o = rw c.in_err-order.ensures.ok_part at c.order_in.ensures in
    subst (OrdersAs c.args.count c.args.bytes.now) (sym q) (reading_bad _ _ _ _ _ c.loop.invariant c.loop-test.true o)

pub loop-preserved : goal.loop-preserved
loop-preserved c = let o = rw c.in_ok-order.ensures.ok_part at c.order_in.ensures in rw c.from.ensures (reading_more _ _ _ _ _ c.loop.invariant c.loop-test.true c.in_ok-order.order o _ (pushed order_of _ _ _ c.in_ok-order.order c.push.ensures.items (ap is_ok c.in_ok-push.was)))

pub returns-then-not-is_empty : goal.returns-then-not-is_empty
returns-then-not-is_empty c = reading_ends _ _ _ _ _ c.loop.invariant c.loop-test.false _ c.if-not-is_empty.ensures

pub returns : goal.returns
returns c = record { fits = reading_ends _ _ _ _ _ c.loop.invariant c.loop-test.false _ c.if-not-is_empty.ensures; value = reading_all _ _ _ _ _ c.loop.invariant c.loop-test.false }
