use Rattle.std.proofs.Common.{◌≡◌, drop}
use Rattle.model.specs.Lists.{every, keep}
use Rattle.model.specs.Settle.{takes, best}
use Rattle.jobs.specs.Rows.{at, span}
use Rattle.jobs.specs.Tables.{machine_at, machine_from, machine_row_lem, machine_rows_lem, tasks_of}
use Rattle.jobs.specs.Values.{spec_of}
use Rattle.settling.specs.Place.{Chosen, has_tag_lem, task_in}
use Rattle.settling.proofs.choosing.choose.Given as goal

abbrev pub invariant-machines : goal.invariant-machines
invariant-machines l = Chosen (machine_at l.home l.live) (machine_rows_lem l.home) (tasks_of l.home l.live) l.best (best (keep (takes l.time (task_in l.home l.live l.i) (tasks_of l.home l.live)) (span (machine_at l.home l.live) 0 l.r)) (tasks_of l.home l.live))

abbrev pub invariant-loop-tag : goal.invariant-loop-tag
invariant-loop-tag l = every (has_tag_lem (machine_from (machine_row_lem l.home l.r) (at l.live l.r))) (drop l.tag-index l.tag-items) ≡ every (has_tag_lem (machine_from (machine_row_lem l.home l.r) (at l.live l.r))) (spec_of l.spec).tags
