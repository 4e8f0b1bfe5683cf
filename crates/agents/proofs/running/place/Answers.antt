use Rattle.std.proofs.Common.{eqb, rules, tests}
use Rattle.std.proofs.lemmas.Iterator.{YieldsList-from_slice}
use Rattle.std.proofs.lemmas.Iterator.Search.{position_from_yields_List}
use Rattle.agents.specs.declared.order.Seen.{Seen}
use Rattle.agents.proofs.Chains.{placed_as}
use Rattle.agents.proofs.running.place.Goals as goal

pub returns : goal.returns
returns c =
    placed_as _ _ _ (position_from_yields_List (λ (x : Seen). eqb c.args.task.0 x.task.0) _ _ _ c.position.ensures.ran (YieldsList-from_slice _ c.iter.ensures.rest) (λ x b q k. search (rules, tests)))
