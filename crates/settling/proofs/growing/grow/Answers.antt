use Rattle.std.proofs.Common.{◌≡◌, true, rules}
use Rattle.model.specs.Settle.{may_grow_lem}
use Rattle.jobs.specs.Tables.{state_of}
use Rattle.jobs.specs.Values.{job_of}
use Rattle.jobs.proofs.Frames.{frame_then}
use Rattle.settling.proofs.Growth.{grows_so}
use Rattle.settling.proofs.growing.grow.Goals as goal

pub returns : goal.returns
returns c =
    let may : may_grow_lem (job_of c.args.job.now) (state_of c.args.home.now c.args.live.now c.args.time) ≡ true = search rules in
    record {
      state = grows_so (job_of c.args.job.now) c.args.home.now c.args.live.now c.make_room.new.home c.make_room.new.live c.add_task.new.home c.add_task.new.live c.args.time c.args.j
          c.requires.words c.requires.within c.requires.job may c.make_room.ensures.same (c.add_task.ensures.state c.args.time);
      frame = frame_then c.args.home.now c.args.live.now c.make_room.new.home c.make_room.new.live c.add_task.new.home c.add_task.new.live c.make_room.ensures.same.frame c.add_task.ensures.frame;
    }
