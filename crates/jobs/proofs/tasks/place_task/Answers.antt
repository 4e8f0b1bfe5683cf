use Rattle.std.proofs.Common.{arith, rules}
use Rattle.jobs.proofs.TaskRows.{places}
use Rattle.jobs.proofs.tasks.place_task.Goals as goal

pub returns : goal.returns
returns c = rw c.from.ensures (places c.args.home.now c.args.i c.requires.words c.requires.within c.args.live.now c.args.place.machine.0 c.args.place.life.0 (search rules) (omega arith))
