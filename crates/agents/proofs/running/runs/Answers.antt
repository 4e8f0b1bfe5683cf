use Rattle.std.proofs.Common.{eqb, rules, tests, ◌∙◌}
use Rattle.std.proofs.lemmas.Iterator.{YieldsList-from_slice}
use Rattle.std.proofs.lemmas.Iterator.Search.{any_from_yields_List}
use Rattle.model.specs.World.{is_seen}
use Rattle.agents.specs.Memory.{seen_of}
use Rattle.agents.specs.declared.order.Seen.{Seen}
use Rattle.agents.proofs.Chains.{some_as}
use Rattle.agents.proofs.running.runs.Goals as goal

pub returns : goal.returns
returns c =
    any_from_yields_List (λ (x : Seen). eqb c.args.task.0 x.task.0) _ _ _ c.any.ensures.ran (YieldsList-from_slice _ c.iter.ensures.rest) (λ x b q k. search (rules, tests)) ∙ some_as seen_of (is_seen c.args.task.0) c.args.seens.now
