-- What the calls of the code stand for.
-- Assumes nothing.
use Rattle.std.specs.Prelude.{ℕ, ◌/◌, List, length}
use Rattle.model.specs.State as s
use Rattle.model.specs.Calls as m
use Rattle.model.specs.Wire.{tags_in_lem, seens_in}
use Rattle.calls.specs.declared.call.Likeness.{Likeness}
use Rattle.calls.specs.declared.call.Call.{Call}
use Rattle.calls.specs.declared.call.Call.TheVariants.{Set, End, Add, Close, Reopen, Forget, Report, Time, Show}

-- tags as they came, and tasks as they came
abbrev pub tags_of : List ℕ → List ℕ
tags_of bs = tags_in_lem (length bs / 4) bs

abbrev pub seens_of : List ℕ → List m.Seen
seens_of bs = seens_in (length bs / 9) bs

abbrev pub like_of : Likeness → s.Spec
like_of l = record { image = l.image; cpu = l.cpu; mem = l.mem; tags = tags_of l.tags.now; apart = l.apart }

abbrev pub call_of : Call → m.Call
call_of (Set w) = m.SetJob w.name.now (like_of w.like) w.count w.least w.most
call_of (End n) = m.EndJob n.now
call_of (Add a) = m.AddMachine a.machine.0 a.cpu a.mem (tags_of a.tags.now)
call_of (Close k) = m.Close k.0
call_of (Reopen k) = m.Reopen k.0
call_of (Forget k) = m.Forget k.0
call_of (Report r) = m.Report r.machine.0 r.life.0 r.number.0 (seens_of r.tasks.now)
call_of (Time t) = m.Tick t
call_of (Show n) = m.Show n.now
