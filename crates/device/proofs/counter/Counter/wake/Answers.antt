use Rattle.model.specs.Memory.{Memory}
use Rattle.device.specs.Follows.{Ended}
use Rattle.device.specs.Counter.{code, service, mind_of}
use Rattle.device.proofs.Telling.{woken, runs_woken}
use Rattle.device.proofs.counter.Counter.wake.Goals as goal

pub returns : goal.returns
returns g c =
    let m : Memory = g.K.Kept.word c.args.words.now in
    let e : Ended code.wakes m (mind_of c.wake.new.home 0) m = woken service c.wake.new.home m c.wake.ensures.follows in
    record { follows = e; runs = λ r. runs_woken code m (mind_of c.wake.new.home 0) m e r }
