use Rattle.std.proofs.Common.{rules, tests, ap, ◌∙◌}
use Rattle.std.specs.Iterator.Adapters.{filter_source, filter_callee, filter_map_source, filter_map_callee, map_source, map_callee}
use Rattle.std.specs.Slice.Iter.{iter_rest}
use Rattle.std.proofs.lemmas.Iterator.{YieldsList-from_slice, YieldsList-from_map, items_from_collect}
use Rattle.std.proofs.lemmas.Iterator.Consumers.{YieldsList-from_chain, YieldsList-from_filter, YieldsList-from_filter_map}
use Rattle.agents.specs.Memory.{seens_of}
use Rattle.agents.proofs.Calling.{idle, stopped, restart, deeds_from}
use Rattle.agents.proofs.deeds.deeds_between.Goals as goal

pub returns : goal.returns
returns c =
    let source = ap (λ s. iter_rest (filter_source (map_source s))) c.chain.ensures.first ∙ ap (λ s. iter_rest (filter_source s)) c.map-stops.ensures.source ∙ ap iter_rest c.filter.ensures.source ∙ c.iter.ensures.rest in
    let test = ap (λ s. filter_callee (map_source s)) c.chain.ensures.first ∙ ap filter_callee c.map-stops.ensures.source ∙ c.filter.ensures.closure in
    let source2 = ap (λ s. iter_rest (filter_source (filter_map_source s))) c.chain.ensures.second ∙ ap (λ s. iter_rest (filter_source s)) c.filter_map-starts.ensures.source ∙ ap iter_rest c.filter-2.ensures.source ∙ c.iter-2.ensures.rest in
    let test2 = ap (λ s. filter_callee (filter_map_source s)) c.chain.ensures.second ∙ ap filter_callee c.filter_map-starts.ensures.source ∙ c.filter-2.ensures.closure in
    deeds_from _ _ _ _
    (items_from_collect _ c.collect.ensures.ran
    (YieldsList-from_chain
    (YieldsList-from_map _ stopped (YieldsList-from_filter _ (idle (seens_of c.args.after.now)) (YieldsList-from_slice c.args.before.now source) test (λ x b q k. search (rules, tests))) (ap map_callee c.chain.ensures.first ∙ c.map-stops.ensures.closure)
    (λ x r q k. search rules))
    (YieldsList-from_filter_map _ (restart c.args.orders.now) (YieldsList-from_filter _ (idle (seens_of c.args.before.now)) (YieldsList-from_slice c.args.after.now source2) test2 (λ x b q k. search (rules, tests)))
    (ap filter_map_callee c.chain.ensures.second ∙ c.filter_map-starts.ensures.closure) (λ x r q k. search rules))
    c.chain.ensures.first_done c.chain.ensures.second_done))
