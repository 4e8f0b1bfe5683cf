use Rattle.std.proofs.Common.{◌≡◌, ◌++◌, take, vec_items}
use Rattle.agents.specs.Memory.{seens_of}
use Rattle.wire.specs.Replies.{orders_of}
use Rattle.agents.specs.Reporting.{tasks_bytes}
use Rattle.agents.proofs.report.add_tasks.Given as goal

-- the tasks so far
abbrev pub invariant-loop-order : goal.invariant-loop-order
invariant-loop-order l = vec_items l.bytes ≡ vec_items l.initial.bytes ++ tasks_bytes (seens_of l.seens) (orders_of (take l.order-index l.orders))
