use Rattle.std.proofs.Common.{refl}
use Rattle.jobs.proofs.MachineLaws.{machines_closed}
use Rattle.jobs.proofs.machine_rows.close_machines.Goals as goal

pub returns : goal.returns
returns c =
    let s = c.close.ensures in
    let q = machines_closed c.args.home.now c.requires.words c.args.live.now s.mid c.close.new.flags _ s.to c.requires.flags refl s.closed in
    rw s.counted (record { now = q.0; rows = q.1 })
