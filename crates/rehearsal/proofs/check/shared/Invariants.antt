use Rattle.std.proofs.Common.{take}
use Rattle.std.specs.List.{All}
use Rattle.agents.specs.declared.order.Seen.{Seen}
use Rattle.rehearsal.specs.Checks.{NoneRuns}
use Rattle.rehearsal.proofs.check.shared.Given as goal

abbrev pub invariant-loop-seen : goal.invariant-loop-seen
invariant-loop-seen l = All (λ (x : Seen). NoneRuns l.others x.task.0) (take l.seen-index l.seens)
