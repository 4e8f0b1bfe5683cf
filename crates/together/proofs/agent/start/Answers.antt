use Rattle.together.proofs.agent.start.Goals as goal
use Rattle.together.proofs.Contracts.{starts_any}

pub returns-clause-moves : goal.returns-clause-moves
returns-clause-moves c = starts_any _ _ c.start.result _ c.start.ensures.agent
