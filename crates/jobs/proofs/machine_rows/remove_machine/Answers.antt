use Rattle.jobs.proofs.MachineLaws.{machine_gone}
use Rattle.jobs.proofs.machine_rows.remove_machine.Goals as goal

pub returns : goal.returns
returns c = rw c.remove.ensures (machine_gone c.args.home.now c.requires.words c.args.i c.requires.within)
