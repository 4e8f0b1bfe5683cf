-- What an answer that was read stands for.
-- Assumes nothing.
use Rattle.std.specs.Prelude.{List, map, vec_items, Vec}
use Rattle.std.specs.declared.alloc.Global.{Global}
use Rattle.model.specs.State as s
use Rattle.model.specs.Calls as m
use Rattle.model.specs.Wire as w
use Rattle.jobs.specs.Values.{spec_of}
use Rattle.wire.specs.declared.reply.Order.{Order}
use Rattle.wire.specs.declared.reply.Run.{Run}
use Rattle.wire.specs.declared.reply.Phase.{Phase}
use Rattle.wire.specs.declared.reply.Phase.TheVariants.{Waiting, Told, Ready, Ending}
use Rattle.wire.specs.declared.reply.Shown.{Shown}
use Rattle.wire.specs.declared.reply.Reply as code
use Rattle.wire.specs.declared.reply.Reply.TheVariants as reply

abbrev pub order_of : Order → m.Order
order_of o = record { id = o.task.0; spec = spec_of o.spec }

abbrev pub orders_of : List Order → List m.Order
orders_of os = map order_of os

abbrev pub run_of : Run → w.Answer
run_of r = w.Runs r.on.machine.0 r.on.life.0 r.on.number.0 (orders_of (vec_items r.orders))

abbrev pub phase_of : Phase → s.Phase
phase_of Waiting = s.Waiting
phase_of Told = s.Told
phase_of Ready = s.Ready
phase_of Ending = s.Ending

abbrev pub shown_of : Shown → m.Line
shown_of l = record { id = l.task.0; version = l.version.0; phase = phase_of l.phase; machine = l.machine.0 }

abbrev pub lines_of : List Shown → List m.Line
lines_of ls = map shown_of ls

abbrev pub lines_shown : Vec Shown Global → w.Answer
lines_shown v = w.Shown (lines_of (vec_items v))

abbrev pub reply_of : code.Reply → w.Answer
reply_of (reply.TurnedAway k) = w.Refused k
reply_of reply.Yes = w.Done
reply_of (reply.Run r) = run_of r
reply_of (reply.Lines ls) = lines_shown ls
