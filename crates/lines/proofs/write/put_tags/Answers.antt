use Rattle.std.proofs.Common.{arith}
use Rattle.lines.proofs.Writing.{tags_none, tags_more}
use Rattle.lines.proofs.write.put_tags.Goals as goal

pub loop-tag-init : goal.loop-tag-init
loop-tag-init c = (tags_none c.args.tags.now c.args.out.now c.args.at, omega arith)

pub loop-tag-preserved : goal.loop-tag-preserved
loop-tag-preserved c = (tags_more c.args.tags.now _ _ _ c.loop-tag.tag-index _ _ _ c.loop-tag-test.true c.loop-tag.invariant.0 c.put_number-end.ensures.bytes, omega (arith, c.loop-tag.invariant.1, c.put_number-end.ensures.end))
