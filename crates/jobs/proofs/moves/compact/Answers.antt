use Rattle.std.proofs.Common.{refl}
use Rattle.jobs.proofs.MoveLaws.{compacts, compacts_rows}
use Rattle.jobs.proofs.moves.compact.Goals as goal

pub returns : goal.returns
returns c =
    let s = c.close.ensures in
    rw s.counted (record {
      now = compacts c.args.home.now c.args.live.now s.mid c.close.new.flags _ s.to c.requires.words c.requires.flags refl s.closed;
      rows = compacts_rows c.args.home.now c.args.live.now s.mid c.close.new.flags _ s.to c.requires.words c.requires.flags refl s.closed;
    })
