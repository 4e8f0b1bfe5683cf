use Rattle.agents.proofs.Texts.{hex_none, hex_more, hex_all}
use Rattle.agents.proofs.text.push_hex.Goals as goal

pub loop-byte-init : goal.loop-byte-init
loop-byte-init c = hex_none _ c.args.bytes.now

pub loop-byte-preserved : goal.loop-byte-preserved
loop-byte-preserved c = hex_more _ c.args.bytes.now c.loop-byte.byte-index _ _ c.loop-byte-test.true c.loop-byte.invariant c.in_ok-push_byte.ensures

pub returns : goal.returns
returns c = hex_all _ c.args.bytes.now c.loop-byte.byte-index _ c.loop-byte-test.false c.loop-byte.invariant
