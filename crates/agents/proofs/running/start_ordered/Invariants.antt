use Rattle.std.proofs.Common.{◌≡◌, vec_items}
use Rattle.std.specs.Slice.Iter.{iter_rest}
use Rattle.std.specs.Iterator.Adapters.{rev_source}
use Rattle.agents.specs.Memory.{seens_of}
use Rattle.wire.specs.Replies.{orders_of}
use Rattle.agents.specs.Moves.{started}
use Rattle.agents.proofs.running.start_ordered.Given as goal

-- the orders that are left, started on what runs by now, come to all of them
abbrev pub invariant-loop-order : goal.invariant-loop-order
invariant-loop-order l = started (orders_of (iter_rest (rev_source l.order-iterator))) (seens_of (vec_items l.seens)) ≡ started (orders_of l.orders) (seens_of (vec_items l.initial.seens))
