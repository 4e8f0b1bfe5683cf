-- What an agent's memory stands for.
-- Assumes nothing.
use Rattle.std.specs.Prelude.{ℕ, List, map}
use Rattle.model.specs.Calls as m
use Rattle.wire.specs.Replies.{order_of}
use Rattle.agents.specs.declared.order.Seen.{Seen}
use Rattle.agents.specs.declared.order.Deed as code
use Rattle.agents.specs.declared.order.Deed.TheVariants.{Stop, Start}

abbrev pub seen_of : Seen → m.Seen
seen_of x = record { id = x.task.0; ready = x.ready }

abbrev pub seens_of : List Seen → List m.Seen
seens_of xs = map seen_of xs

-- what is done on the machine
pub data Deed : Type 0 where
  stop : (id : ℕ) → Deed
  start : m.Order → Deed

abbrev pub deed_of : code.Deed → Deed
deed_of (Stop t) = stop t.0
deed_of (Start o) = start (order_of o)

abbrev pub deeds_of : List code.Deed → List Deed
deeds_of ds = map deed_of ds
