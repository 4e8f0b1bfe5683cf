-- The worked cases, by computation.
-- Assumes nothing.
use Rattle.std.proofs.Common.{refl}
use Rattle.model.specs.Lists.{some, every, keep, find, change, none, same, last_of, head_or}
use Rattle.model.specs.State.{cpu_of, mem_of}
use Rattle.model.specs.Settle.{ended, for_jobs, orphans_end, best, place, place_all_lem}
use Rattle.model.specs.Calls.{alike, all_most, sets_job, seen_as, heard_of_lem, heard_all, orders, reports, unsure, lines_of, acts}
use Rattle.model.specs.Cases.{after, comes, TableHolds}

pub table_holds_lem : TableHolds
unfolding some every keep find change none same last_of head_or cpu_of mem_of ended for_jobs orphans_end best place place_all_lem alike all_most sets_job seen_as heard_of_lem heard_all orders reports unsure lines_of acts after comes
table_holds_lem = refl
