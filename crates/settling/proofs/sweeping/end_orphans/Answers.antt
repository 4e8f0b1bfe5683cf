use Rattle.std.proofs.Common.{arith}
use Rattle.settling.proofs.Sweeps.{sweeping_none, sweeping_more, sweeping_all}
use Rattle.settling.proofs.sweeping.end_orphans.Goals as goal

pub loop-i-init : goal.loop-i-init
loop-i-init c = λ live. sweeping_none c.args.home.now live

pub loop-i-preserved : goal.loop-i-preserved
loop-i-preserved c = λ live. sweeping_more c.args.home.now live c.loop-i.home c.end_orphan.new.home c.loop-i.i c.requires (omega arith) (c.loop-i.invariant live) (c.end_orphan.ensures live)

pub returns : goal.returns
returns c = λ live. sweeping_all c.args.home.now live c.loop-i.home c.in_use-i-end.result c.loop-i.i c.in_use-i-end.ensures.is (omega arith) (c.loop-i.invariant live)
