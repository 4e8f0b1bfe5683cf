use Rattle.device.specs.Counter.{meant, service, Stands}
use Rattle.device.proofs.Counted.{serves, darkens}
use Rattle.device.proofs.Served.{runs, runs_fit}
use Rattle.device.proofs.counter.runs_right.Goals as goal

pub returns : goal.returns
returns c = (runs meant service Stands serves darkens, runs_fit meant service Stands serves)
