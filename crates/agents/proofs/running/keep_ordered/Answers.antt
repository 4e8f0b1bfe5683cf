use Rattle.std.proofs.Common.{rules, tests, ap, ◌∙◌}
use Rattle.std.specs.Iterator.Adapters.{filter_source, filter_callee}
use Rattle.std.specs.Slice.Iter.{iter_rest}
use Rattle.std.proofs.lemmas.Iterator.{YieldsList-from_slice, items_from_collect}
use Rattle.std.proofs.lemmas.Iterator.Consumers.{YieldsList-from_copied, YieldsList-from_filter}
use Rattle.model.specs.Lists.{some}
use Rattle.model.specs.World.{is_order}
use Rattle.wire.specs.Replies.{orders_of}
use Rattle.agents.specs.declared.order.Seen.{Seen}
use Rattle.agents.proofs.Chains.{kept_from}
use Rattle.agents.proofs.running.keep_ordered.Goals as goal

pub returns : goal.returns
returns c =
    let source = ap (λ s. iter_rest (filter_source s)) c.copied.ensures.source ∙ ap iter_rest c.filter.ensures.source ∙ c.iter.ensures.rest in
    let callee = ap filter_callee c.copied.ensures.source ∙ c.filter.ensures.closure in
    kept_from _ _ _ (items_from_collect _ c.collect.ensures.ran (YieldsList-from_copied (YieldsList-from_filter _ (λ (x : Seen). some (is_order x.task.0) (orders_of c.args.orders.now)) (YieldsList-from_slice c.args.seens.now source) callee (λ x b q k. search (rules, tests)))))
