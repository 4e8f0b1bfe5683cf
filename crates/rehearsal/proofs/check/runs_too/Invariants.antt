use Rattle.std.proofs.Common.{take}
use Rattle.std.specs.List.{All}
use Rattle.rehearsal.specs.Checks.{Idle}
use Rattle.rehearsal.proofs.check.runs_too.Given as goal

abbrev pub invariant-loop-agent : goal.invariant-loop-agent
invariant-loop-agent l = All (Idle l.task.0) (take l.agent-index l.agents)
