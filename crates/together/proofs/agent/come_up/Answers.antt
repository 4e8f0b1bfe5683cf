use Rattle.std.proofs.Common.{ℕ, ◌<◌, subst}
use Rattle.together.proofs.agent.come_up.Goals as goal
use Rattle.together.proofs.Moving.{came_up}

pub returns-clause-moves : goal.returns-clause-moves
returns-clause-moves c = came_up _ _ _ (subst (λ (n : ℕ). n < 18446744073709551616) c.new.ensures.life c.in_range.ensures.life) c.new-2.ensures.agent
