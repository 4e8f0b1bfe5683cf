use Rattle.std.proofs.Common.{◌≡◌, Err, rules, sym, subst}
use Rattle.wire.specs.Answering.{SaysAs}
use Rattle.wire.specs.Replies.{run_of}
use Rattle.model.specs.Answers.{read_runs}
use Rattle.wire.proofs.Ordered.{runs_read, runs_unread, orders_few}
use Rattle.wire.proofs.orders.read_run.Goals as goal

pub returns-in_err-orders : goal.returns-in_err-orders
returns-in_err-orders c =
    let q : c.from_residual.result ≡ Err c.in_err-orders.field-0.0 = grind rules in
    subst (SaysAs run_of (read_runs c.args.rest.now)) (sym q) (runs_unread c.args.rest.now c.if-rest-lt20.false _ _ c.number_at.ensures c.in_err-orders.ensures)

pub returns : goal.returns
returns c = let r = c.in_ok-orders.ensures in runs_read c.args.rest.now c.if-rest-lt20.false _ _ _ _ _ c.number_at-2.ensures c.number_at-3.ensures c.number_at-4.ensures c.number_at.ensures r.fits r.value

pub invariant_of-result : goal.invariant_of-result
invariant_of-result c = record { few = orders_few _ _ _ _ c.in_ok-orders.ensures.value c.in_ok-orders.orders.ok.0 c.number_at.type_inv }
