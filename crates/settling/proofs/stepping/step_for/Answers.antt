use Rattle.std.proofs.Common.{None, Some, sym, refl, ap, ◌∙◌}
use Rattle.jobs.specs.Tables.{task_at, task_rows_lem, job_from_lem, state_of}
use Rattle.jobs.specs.Values.{job_of}
use Rattle.jobs.proofs.Frames.{job_row_same}
use Rattle.settling.proofs.Picking.{old_end, new_end, new_many}
use Rattle.settling.proofs.Steps.{for_old, for_new, for_none, for_grow}
use Rattle.settling.proofs.stepping.step_for.Goals as goal

pub grow-requires-clause-job : goal.grow-requires-clause-job
grow-requires-clause-job c = c.requires.job ∙ ap job_from_lem (sym (job_row_same c.args.home.now c.args.live.now c.end_task.new.home c.args.live.now c.requires.words (c.end_task.ensures c.args.live.now).frame c.args.j c.requires.within))

pub returns-in-Some : goal.returns-in-Some
returns-in-Some c =
    let home = c.args.home.now in
    let live = c.args.live.now in
    let j = job_of c.args.job.now in
    let st = state_of home live c.args.time in
    let y = c.tally_of-tally in
    for_old j home live c.args.time c.requires.words c.requires.numbered c.in-Some.i c.end_task.new.home c.grow.new.home c.grow.new.live (old_end j st (task_at home live) (task_rows_lem home) y.result refl y.ensures c.enough_ready-enough.result c.enough_ready-enough.ensures c.to_end.result (Some c.in-Some.i) c.to_end.ensures c.in-Some.is) (c.end_task.ensures live) c.grow.ensures.state c.grow.ensures.frame

pub returns-in-Some-to_end : goal.returns-in-Some-to_end
returns-in-Some-to_end c =
    let home = c.args.home.now in
    let live = c.args.live.now in
    let j = job_of c.args.job.now in
    let st = state_of home live c.args.time in
    let y = c.tally_of-tally in
    for_new j home live c.args.time c.requires.words c.requires.numbered c.in-Some-to_end.i c.end_task-in-Some-to_end.new.home (old_end j st (task_at home live) (task_rows_lem home) y.result refl y.ensures c.enough_ready-enough.result c.enough_ready-enough.ensures c.to_end.result None c.to_end.ensures c.in_default.is) (new_many j st (task_at home live) (task_rows_lem home) y.result refl y.ensures c.too_many.result _ c.too_many.ensures c.if-too_many.true) (new_end j st (task_at home live) (task_rows_lem home) y.result refl y.ensures c.enough_ready-enough.result c.enough_ready-enough.ensures c.to_end-then-too_many.result (Some c.in-Some-to_end.i) c.to_end-then-too_many.ensures c.in-Some-to_end.is) (c.end_task-in-Some-to_end.ensures live)

pub returns-in_default-to_end : goal.returns-in_default-to_end
returns-in_default-to_end c =
    let home = c.args.home.now in
    let live = c.args.live.now in
    let j = job_of c.args.job.now in
    let st = state_of home live c.args.time in
    let y = c.tally_of-tally in
    for_none j home live c.args.time c.requires.words c.requires.numbered (old_end j st (task_at home live) (task_rows_lem home) y.result refl y.ensures c.enough_ready-enough.result c.enough_ready-enough.ensures c.to_end.result None c.to_end.ensures c.in_default.is) (new_many j st (task_at home live) (task_rows_lem home) y.result refl y.ensures c.too_many.result _ c.too_many.ensures c.if-too_many.true) (new_end j st (task_at home live) (task_rows_lem home) y.result refl y.ensures c.enough_ready-enough.result c.enough_ready-enough.ensures c.to_end-then-too_many.result None c.to_end-then-too_many.ensures c.in_default-to_end.is)

pub returns-else-too_many : goal.returns-else-too_many
returns-else-too_many c =
    let home = c.args.home.now in
    let live = c.args.live.now in
    let j = job_of c.args.job.now in
    let st = state_of home live c.args.time in
    let y = c.tally_of-tally in
    for_grow j home live c.args.time c.requires.words c.requires.numbered c.grow-else-too_many.new.home c.grow-else-too_many.new.live (old_end j st (task_at home live) (task_rows_lem home) y.result refl y.ensures c.enough_ready-enough.result c.enough_ready-enough.ensures c.to_end.result None c.to_end.ensures c.in_default.is) (new_many j st (task_at home live) (task_rows_lem home) y.result refl y.ensures c.too_many.result _ c.too_many.ensures c.if-too_many.false) c.grow-else-too_many.ensures.state c.grow-else-too_many.ensures.frame
