use Rattle.std.proofs.Common.{ap, ◌∙◌}
use Rattle.model.specs.Wire.{bytes_of}
use Rattle.jobs.specs.Tables.{spec_from_lem}
use Rattle.lines.proofs.Listings.{order_put}
use Rattle.lines.proofs.Writing.{puts_as}
use Rattle.lines.proofs.list.RunsOnListing.put_task.Goals as goal

pub returns-clause-bytes : goal.returns-clause-bytes
returns-clause-bytes c = order_put c.args.row.words.now c.args._ready _ (c.spec.ensures ∙ ap spec_from_lem c.kind.ensures) (puts_as (ap (bytes_of 8) c.id.ensures) c.put_number-end.ensures.bytes) c.put_spec.ensures.bytes
