use Rattle.std.proofs.Common.{◌≡◌, not, drop, sym, ap, ◌∙◌}
use Rattle.model.specs.Lists.{find}
use Rattle.model.specs.State as s
use Rattle.model.specs.State.{is_job}
use Rattle.jobs.specs.Rows.{at}
use Rattle.jobs.specs.Tables.{name_from_lem, task_row_lem, task_from, job_at, job_rows_lem, jobs_of}
use Rattle.jobs.specs.Values.{name_of}
use Rattle.settling.proofs.Tallies.{row_full, row_hole, job_is}
use Rattle.settling.proofs.Sweeps.{orphan_hole, orphan_wanted, orphan_put, unfound, found_one}
use Rattle.jobs.proofs.Ranges.{hole, no_hole}
use Rattle.settling.proofs.sweeping.end_orphan.Goals as goal

pub returns-then-is_hole : goal.returns-then-is_hole
returns-then-is_hole c = λ live. orphan_hole c.args.home.now live c.args.i (row_hole c.args.home.now live c.row-row.result.words.now c.args.i c.row-row.ensures (hole c.is_hole.ensures c.if-is_hole.true))

pub returns-then-is_none : goal.returns-then-is_none
returns-then-is_none c = λ live.
    let home = c.args.home.now in
    let n : name_of c.name-name.result ≡ name_from_lem (drop 4 (task_row_lem home c.args.i)) = c.name-name.ensures ∙ job_is home live c.args.i c.row-row.result.words.now c.kind.result.words.now c.row-row.ensures c.kind.ensures in
    orphan_put home live c.end_task.new.home c.args.i (task_from (task_row_lem home c.args.i) (at live _)) (row_full home live c.row-row.result.words.now c.args.i c.row-row.ensures (no_hole c.is_hole.ensures c.if-is_hole.false))
    (ap (λ (x : s.Name). find (is_job x) (jobs_of home)) (sym n) ∙ unfound (is_job (name_of c.name-name.result)) (job_at home) (job_rows_lem home) c.find_job.result (c.is_none.ensures ∙ ap not c.if-is_none.true) c.find_job.ensures) (c.end_task.ensures live)

pub returns-else-is_none : goal.returns-else-is_none
returns-else-is_none c = λ live.
    let home = c.args.home.now in
    let n : name_of c.name-name.result ≡ name_from_lem (drop 4 (task_row_lem home c.args.i)) = c.name-name.ensures ∙ job_is home live c.args.i c.row-row.result.words.now c.kind.result.words.now c.row-row.ensures c.kind.ensures in
    let k = found_one (is_job (name_of c.name-name.result)) (job_at home) (job_rows_lem home) c.find_job.result (c.is_none.ensures ∙ ap not c.if-is_none.false) c.find_job.ensures in
    orphan_wanted home live c.args.i (task_from (task_row_lem home c.args.i) (at live _)) k.0 (row_full home live c.row-row.result.words.now c.args.i c.row-row.ensures (no_hole c.is_hole.ensures c.if-is_hole.false))
    (ap (λ (x : s.Name). find (is_job x) (jobs_of home)) (sym n) ∙ k.1)
