use Rattle.std.proofs.Common.{refl}
use Rattle.agents.proofs.Reports.{task_joined}
use Rattle.agents.proofs.report.add_task.Goals as goal

pub returns : goal.returns
returns c = task_joined _ _ _ _ _ _ _ _ c.in_ok-push_number.ensures.ok c.in_ok-push.ensures.items refl c.from.ensures c.is_ready.ensures
