use Rattle.std.proofs.Common.{arith}
use Rattle.agents.proofs.Texts.{hex_odd, hex_even}
use Rattle.agents.proofs.text.bytes_of.Goals as goal

pub returns-then-text-ne0 : goal.returns-then-text-ne0
returns-then-text-ne0 c = let v = c.loop-pair.invariant in let s = c.in-None.ensures.steps in hex_odd _ _ _ (omega (arith, s, v.two)) v.odd c.if-text-ne0.true v.goes_on

pub returns : goal.returns
returns c = let v = c.loop-pair.invariant in let s = c.in-None.ensures.steps in hex_even _ _ _ (omega (arith, s, v.two)) v.odd c.if-text-ne0.false v.goes_on
