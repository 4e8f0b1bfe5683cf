use Rattle.device.specs.Counter.{meant, service, Stands}
use Rattle.device.proofs.Counted.{serves}
use Rattle.device.proofs.Served.{right}
use Rattle.device.proofs.counter.right.Goals as goal

pub returns : goal.returns
returns c = right meant service Stands serves
