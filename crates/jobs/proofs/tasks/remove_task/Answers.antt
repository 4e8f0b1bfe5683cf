use Rattle.jobs.proofs.TaskRows.{removes}
use Rattle.jobs.proofs.tasks.remove_task.Goals as goal

pub returns : goal.returns
returns c = rw c.remove.ensures (removes c.args.home.now c.args.i c.requires.words c.requires.within)
