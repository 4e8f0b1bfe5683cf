use Rattle.std.proofs.Common.{◌≡◌}
use Rattle.model.specs.Calls.{seen_as}
use Rattle.calls.specs.Meaning.{seens_of}
use Rattle.calls.proofs.seen.seen.Given as goal

-- it isn't before what is left
abbrev pub invariant-loop-task : goal.invariant-loop-task
invariant-loop-task l = record { nine : l.task-iterator.size ≡ 9; rest : seen_as l.id.0 (seens_of l.task-iterator.rest.now) ≡ seen_as l.id.0 (seens_of l.tasks) }
