use Rattle.std.proofs.Common.{arith}
use Rattle.std.proofs.lemmas.Bool.{leb-true}
use Rattle.settling.proofs.Numbers.{risen_none, risen_hole, risen_more, risen_all}
use Rattle.settling.proofs.tests.is_numbered.Goals as goal
use Rattle.settling.proofs.tests.is_numbered.Goals.{then-id-ne0+else-id-last, else-id-ne0}

pub loop-i-init : goal.loop-i-init
loop-i-init c = λ live. risen_none c.args.home.now live

pub loop-i-preserved : goal.loop-i-preserved
loop-i-preserved c =
    let home = c.args.home.now in
    let row = c.row.result.words.now in
    elim c.if-id-ne0.branch [
      | then-id-ne0+else-id-last w ↦ rw w.last-is (λ live. risen_more home live row c.loop-i.i c.loop-i.last c.row.ensures w.if-id-ne0.true (omega arith) (c.loop-i.invariant live))
      | else-id-ne0 w ↦ rw w.last-is (λ live. risen_hole home live row c.loop-i.i c.loop-i.last c.row.ensures w.if-id-ne0.false (c.loop-i.invariant live))
    ]

pub returns : goal.returns
returns c = λ e live time. risen_all c.args.home.now live time c.loop-i.i c.loop-i.last (omega arith) (leb-true _ _ e) (c.loop-i.invariant live)
