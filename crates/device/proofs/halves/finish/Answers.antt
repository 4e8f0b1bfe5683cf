use Rattle.std.proofs.lemmas.Result.{err_from_is_err_and}
use Rattle.model.specs.Memory.{Memory, done}
use Rattle.device.specs.Service.{finishing}
use Rattle.device.proofs.Doings.{leads_here, leads_part, leads_part_cut, leads_done}
use Rattle.device.proofs.halves.finish.Goals as goal

pub returns-in_err-keep : goal.returns-in_err-keep
returns-in_err-keep g c =
    let p = err_from_is_err_and c.from_residual.result c.from_residual.ensures.1 in
    let m : Memory = g.K.Kept.word c.args.words.now in
    rw p.1 (leads_part_cut (λ _. done c.args.answer) (leads_here (finishing c.args.changed c.args.home.now c.args.answer) m) c.in_err-keep.ensures)

pub returns : goal.returns
returns g c =
    let m : Memory = g.K.Kept.word c.args.words.now in
    leads_done c.args.answer (leads_part (λ _. done c.args.answer) (leads_here (finishing c.args.changed c.args.home.now c.args.answer) m) c.in_ok-keep.ensures)
