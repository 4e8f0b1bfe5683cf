use Rattle.std.proofs.Common.{ap, ◌∙◌}
use Rattle.jobs.specs.Tables.{name_from_lem}
use Rattle.calls.proofs.Different.{job_hole, job_found}
use Rattle.jobs.proofs.Ranges.{hole, no_hole}
use Rattle.calls.proofs.sound.first_job.Goals as goal

pub returns-then-is_hole : goal.returns-then-is_hole
returns-then-is_hole c = job_hole c.args.home.now c.row-row.result.words.now c.args.i c.row-row.ensures (hole c.is_hole.ensures c.if-is_hole.true)

pub returns : goal.returns
returns c =
    c.eq.ensures ∙
    job_found c.args.home.now c.row-row.result.words.now c.args.i _ c.requires.within c.row-row.ensures (no_hole c.is_hole.ensures c.if-is_hole.false) (c.name.ensures ∙ ap name_from_lem c.kind.ensures) c.find_job.result c.find_job.ensures
