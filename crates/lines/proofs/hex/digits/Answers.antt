use Rattle.std.proofs.Common.{take, sym, append-nil, arith}
use Rattle.lines.specs.Text.{hex_text}
use Rattle.lines.proofs.Hexing.{hex_more}
use Rattle.lines.proofs.hex.digits.Goals as goal

pub loop-i-init : goal.loop-i-init
unfolding hex_text
loop-i-init c = sym (append-nil (take 4 c.args.text.now))

pub loop-i-preserved : goal.loop-i-preserved
loop-i-preserved c = hex_more c.args.bytes.now c.loop-i.text (take 4 c.args.text.now) c.loop-i.i c.loop-i-test.true (omega arith) c.loop-i.invariant c.digit.result c.digit-in-loop-i.result c.digit.ensures c.digit-in-loop-i.ensures
