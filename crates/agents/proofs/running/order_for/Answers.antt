use Rattle.std.proofs.Common.{◌≡◌, eqb, rules, tests, sym, ◌∙◌, subst}
use Rattle.std.specs.List as list
use Rattle.std.proofs.lemmas.Iterator.{YieldsList-from_slice}
use Rattle.std.proofs.lemmas.Iterator.Search.{find_from_yields_List}
use Rattle.model.specs.Lists.{find}
use Rattle.model.specs.World.{is_order}
use Rattle.wire.specs.Replies.{orders_of}
use Rattle.agents.specs.Moves.{Found}
use Rattle.wire.specs.declared.reply.Order.{Order}
use Rattle.agents.proofs.Chains.{found_as}
use Rattle.agents.proofs.running.order_for.Goals as goal

pub returns : goal.returns
returns c =
    let h : c.copied.result ≡ list.find (λ (o : Order). eqb c.args.task.0 o.task.0) c.args.orders.now = c.copied.ensures ∙ find_from_yields_List (λ (o : Order). eqb c.args.task.0 o.task.0) _ _ _ c.find.ensures.ran (YieldsList-from_slice _ c.iter.ensures.rest) (λ x b q k. search (rules, tests)) in
    record { first = h; found = subst (Found (find (is_order c.args.task.0) (orders_of c.args.orders.now))) (sym h) (found_as c.args.task.0 c.args.orders.now) }
