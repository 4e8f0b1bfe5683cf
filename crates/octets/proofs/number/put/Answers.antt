use Rattle.std.proofs.Common.{◌∙◌, arith}
use Rattle.octets.proofs.Numbers.{put_none, put_more, put_all}
use Rattle.octets.proofs.number.put.Goals as goal

pub loop-i-init : goal.loop-i-init
loop-i-init c = put_none c.args.out.now c.args.number

pub loop-i-preserved : goal.loop-i-preserved
loop-i-preserved c = put_more c.loop-i.out c.loop-i.n c.loop-i.i c.loop-i-test.true (omega arith) ∙ c.loop-i.invariant

pub returns : goal.returns
returns c = put_all c.loop-i.out c.loop-i.n c.loop-i.i c.loop-i-test.false ∙ c.loop-i.invariant
