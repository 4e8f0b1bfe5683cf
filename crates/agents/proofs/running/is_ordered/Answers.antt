use Rattle.std.proofs.Common.{eqb, rules, tests, ◌∙◌}
use Rattle.std.proofs.lemmas.Iterator.{YieldsList-from_slice}
use Rattle.std.proofs.lemmas.Iterator.Search.{any_from_yields_List}
use Rattle.model.specs.World.{is_order}
use Rattle.wire.specs.Replies.{order_of}
use Rattle.wire.specs.declared.reply.Order.{Order}
use Rattle.agents.proofs.Chains.{some_as}
use Rattle.agents.proofs.running.is_ordered.Goals as goal

pub returns : goal.returns
returns c =
    any_from_yields_List (λ (o : Order). eqb c.args.task.0 o.task.0) _ _ _ c.any.ensures.ran (YieldsList-from_slice _ c.iter.ensures.rest) (λ x b q k. search (rules, tests)) ∙ some_as order_of (is_order c.args.task.0) c.args.orders.now
