use Rattle.settling.proofs.Placements.{swept_numbered, stepped_numbered, passed, good_stays, numbered_stays}
use Rattle.settling.proofs.pass.settle.Goals as goal

pub step_jobs-requires-clause-numbered : goal.step_jobs-requires-clause-numbered
step_jobs-requires-clause-numbered c =
    let home = c.args.home.now in
    let live = c.args.live.now in
    let mid = c.end_orphans.new.home in
    swept_numbered home live mid home live home live c.args.time c.requires.words c.requires.numbered (c.end_orphans.ensures live)

pub place_all-requires-clause-numbered : goal.place_all-requires-clause-numbered
place_all-requires-clause-numbered c =
    let home = c.args.home.now in
    let live = c.args.live.now in
    let mid = c.end_orphans.new.home in
    stepped_numbered home live mid c.step_jobs.new.home c.step_jobs.new.live home live c.args.time c.requires.words c.requires.numbered (c.end_orphans.ensures live) c.step_jobs.ensures

pub returns : goal.returns
returns c =
    let home = c.args.home.now in
    let live = c.args.live.now in
    let mid = c.end_orphans.new.home in
    let done = passed home live mid c.step_jobs.new.home c.step_jobs.new.live c.place_all.new.home c.place_all.new.live c.args.time c.requires.words c.requires.numbered (c.end_orphans.ensures live) c.step_jobs.ensures c.place_all.ensures in
    record {
      state = done;
      good = good_stays home live c.place_all.new.home c.place_all.new.live c.args.time done;
      numbered = numbered_stays home live c.place_all.new.home c.place_all.new.live c.args.time c.requires.numbered done;
    }
