use Rattle.std.proofs.Common.{arith}
use Rattle.jobs.proofs.MachineLaws.{machine_heard}
use Rattle.jobs.proofs.machine_rows.hear.Goals as goal

pub returns : goal.returns
returns c = machine_heard c.args.home.now c.requires.words c.args.live.now c.args.i c.args.life.0 c.args.number.0 c.args.time c.requires.within (omega arith)
