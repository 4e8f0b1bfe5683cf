use Rattle.std.proofs.Common.{ap, ◌∙◌}
use Rattle.model.specs.Wire.{bytes_of, phase_of}
use Rattle.jobs.specs.Tables.{version_from_lem}
use Rattle.lines.proofs.Listings.{line_put}
use Rattle.lines.proofs.Writing.{puts_as}
use Rattle.lines.proofs.list.OfJobListing.put_task.Goals as goal

pub returns-clause-bytes : goal.returns-clause-bytes
returns-clause-bytes c =
    line_put c.args.row.words.now c.args.ready _ _ _ (c.version.ensures ∙ ap version_from_lem c.kind.ensures) (c.phase_number.ensures ∙ ap phase_of c.phase-phase.ensures.phase)
    (c.machine_number.ensures ∙ c.phase-phase.ensures.machine) (puts_as (ap (bytes_of 8) c.id.ensures) c.put_number-end.ensures.bytes) c.put_number-end-2.ensures.bytes c.put_u8-end.ensures.bytes c.put_number.ensures.bytes
