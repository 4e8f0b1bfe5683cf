use Rattle.together.proofs.agent.die.Goals as goal
use Rattle.together.proofs.Contracts.{dies_any}

pub returns-clause-moves : goal.returns-clause-moves
returns-clause-moves c = dies_any _ c.args.task.0 _ c.die.result _ c.die.ensures.agent
