use Rattle.together.proofs.agent.hear.Goals as goal
use Rattle.together.proofs.Contracts.{hears_any}

pub returns-clause-moves : goal.returns-clause-moves
returns-clause-moves c = hears_any _ c.args.line.now _ c.hear.result _ c.hear.ensures.agent
