use Rattle.std.proofs.lemmas.Result.{err_from_is_err_and}
use Rattle.device.proofs.Doings.{leads_store, leads_as, leads_cut, leads_done}
use Rattle.device.proofs.Steps.{copies_same, copies_other, copies_end}
use Rattle.device.proofs.halves.copy.Goals as goal
use Rattle.device.proofs.halves.copy.Goals.{then-load-word+in_ok-store, else-load-word}

pub returns-in_err-store : goal.returns-in_err-store
returns-in_err-store g c =
    let p = err_from_is_err_and c.from_residual.result c.from_residual.ensures.1 in
    rw p.1 (leads_cut (g.K.Kept.word c.store.new.self) c.loop-i.invariant c.in_err-store.ensures.stored)

pub loop-i-preserved : goal.loop-i-preserved
loop-i-preserved g c =
    elim c.if-load-word.branch [
      | then-load-word+in_ok-store w ↦
          simp w.words-is (leads_store _ _ _ _ (g.K.Kept.word w.store.new.self) (copies_other c.args.from c.loop-i.i c.args.home.now (g.K.Kept.word c.loop-i.words) c.load.result c.loop-i.invariant c.loop-i-test.true c.load.ensures w.if-load-word.true) w.in_ok-store.ensures.stored)
      | else-load-word w ↦
          simp w.words-is (copies_same c.args.from c.loop-i.i c.args.home.now (g.K.Kept.word c.loop-i.words) c.load.result c.loop-i.invariant c.loop-i-test.true c.load.ensures w.if-load-word.false)
    ]

pub returns : goal.returns
returns g c = leads_done tt (leads_as _ c.loop-i.invariant (copies_end _ c.loop-i.i c.args.home.now c.loop-i-test.false))
