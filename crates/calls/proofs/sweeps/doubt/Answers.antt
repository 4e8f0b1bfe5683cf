use Rattle.std.proofs.Common.{List, map, subst, arith}
use Rattle.model.specs.State as s
use Rattle.model.specs.Calls.{unsure}
use Rattle.jobs.specs.Tables.{TaskPut, machines_of, task_at}
use Rattle.jobs.proofs.Frames.{machines_same}
use Rattle.calls.proofs.Doubting.{doubt_each}
use Rattle.calls.proofs.Sweep.{swept_none, swept_more, swept_all}
use Rattle.calls.proofs.sweeps.doubt.Goals as goal

pub loop-i-init : goal.loop-i-init
loop-i-init c = swept_none _ (doubt_each c.args.time (machines_of c.args.home.now c.args.live.now)) c.args.home.now c.args.live.now

pub loop-i-preserved : goal.loop-i-preserved
loop-i-preserved c =
    let e = machines_same c.args.home.now c.args.live.now c.args.home.now c.loop-i.live c.requires.words c.loop-i.invariant.frame in
    let p = subst (λ (ms : List s.Machine). TaskPut c.loop-i.i (map (unsure c.args.time ms) (task_at c.args.home.now c.loop-i.live c.loop-i.i)) c.args.home.now c.loop-i.live c.args.home.now c.doubt_task.new.live) e c.doubt_task.ensures in
    swept_more _ (doubt_each c.args.time (machines_of c.args.home.now c.args.live.now)) c.args.home.now c.args.live.now _ _ _ _ c.loop-i.i (omega arith) c.loop-i.invariant p

pub returns : goal.returns
returns c = swept_all _ (doubt_each c.args.time (machines_of c.args.home.now c.args.live.now)) c.args.home.now c.args.live.now _ _ c.in_use-i-end.result c.loop-i.i c.in_use-i-end.ensures.is (omega arith) (omega arith) c.loop-i.invariant
