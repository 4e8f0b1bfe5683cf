use Rattle.std.proofs.Common.{vec_items}
use Rattle.wire.specs.Replies.{orders_of}
use Rattle.wire.proofs.Ordered.{Reading}
use Rattle.wire.proofs.orders.orders_in.Given as goal

-- the orders so far
abbrev pub invariant-loop : goal.invariant-loop
invariant-loop l = Reading l.count l.bytes l.counter l.rest (orders_of (vec_items l.orders))
