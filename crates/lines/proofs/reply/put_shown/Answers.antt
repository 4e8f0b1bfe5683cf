use Rattle.model.specs.Lists.{keep}
use Rattle.model.specs.State.{of_job}
use Rattle.jobs.specs.Tables.{tasks_of}
use Rattle.lines.proofs.Listings.{lines_list}
use Rattle.lines.proofs.Naming.{long_names_none}
use Rattle.lines.proofs.Writing.{puts_then, puts_as}
use Rattle.lines.proofs.reply.put_shown.Goals as goal

pub returns-clause-bytes : goal.returns-clause-bytes
returns-clause-bytes c = puts_then c.put_u8-end.ensures.bytes (puts_as (lines_list (keep (of_job c.args.name.now) (tasks_of c.args.home.now c.args.live.now))) c.put_list.ensures.bytes)

pub returns-clause-long : goal.returns-clause-long
returns-clause-long c = λ h. long_names_none c.args.name.now h c.args.home.now c.args.live.now
