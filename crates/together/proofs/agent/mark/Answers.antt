use Rattle.together.proofs.agent.mark.Goals as goal
use Rattle.together.proofs.Contracts.{becomes_any}

pub returns-clause-moves : goal.returns-clause-moves
returns-clause-moves c = becomes_any _ c.args.task.0 c.args.ready _ c.mark.result _ c.mark.ensures.agent
