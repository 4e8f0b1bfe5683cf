use Rattle.jobs.proofs.MachineLaws.{machine_opened}
use Rattle.jobs.proofs.machine_rows.set_open.Goals as goal

pub returns : goal.returns
returns c = rw c.from.ensures (machine_opened c.args.home.now c.requires.words c.args.i c.args.«open» c.requires.within)
