use Rattle.std.proofs.Common.{arith}
use Rattle.calls.proofs.Hearing.{hear_each}
use Rattle.calls.proofs.Sweep.{swept_none, swept_more, swept_all}
use Rattle.calls.proofs.sweeps.hear.Goals as goal

pub loop-i-init : goal.loop-i-init
loop-i-init c = swept_none _ (hear_each _ _ _) c.args.home.now c.args.live.now

pub loop-i-preserved : goal.loop-i-preserved
loop-i-preserved c = swept_more _ (hear_each _ _ _) c.args.home.now c.args.live.now _ _ _ _ c.loop-i.i (omega arith) c.loop-i.invariant c.hear_task.ensures

pub returns : goal.returns
returns c = swept_all _ (hear_each _ _ _) c.args.home.now c.args.live.now _ _ c.in_use-i-end.result c.loop-i.i c.in_use-i-end.ensures.is (omega arith) (omega arith) c.loop-i.invariant
