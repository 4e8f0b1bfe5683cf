-- Calls that are short enough for the bytes of a call.
-- Assumes nothing.
use Rattle.std.specs.Prelude.{Bool, true, ◌&&◌, length, nat_lt}
use Rattle.model.specs.Calls.{Call, SetJob, EndJob, AddMachine, Close, Reopen, Forget, Report, Tick, Show}

-- its lists can be counted: in one byte those of a name and tags, in two a report's tasks
abbrev pub is_short_lem : Call → Bool
is_short_lem (SetJob n a c l m) = nat_lt (length n) 256 && nat_lt (length a.tags) 256
is_short_lem (EndJob n) = nat_lt (length n) 256
is_short_lem (AddMachine k c m t) = nat_lt (length t) 256
is_short_lem (Close k) = true
is_short_lem (Reopen k) = true
is_short_lem (Forget k) = true
is_short_lem (Report k l n xs) = nat_lt (length xs) 65536
is_short_lem (Tick t) = true
is_short_lem (Show n) = nat_lt (length n) 256
