use Rattle.std.proofs.Common.{◌≡◌, length, arith, rules}
use Rattle.jobs.proofs.MachineLaws.{machine_pushed}
use Rattle.jobs.proofs.machine_rows.push_machine.Goals as goal

pub returns : goal.returns
returns c =
    let l : length c.encode_machine.result ≡ 24 = search rules in
    let p = c.push-n.ensures.pushed in
    rw p.counted (machine_pushed c.args.home.now c.requires.words c.args.live.now p.mid c.encode_machine.result c.push-n.result _ c.push-n.ensures.row (omega (arith, c.push-n.ensures.row)) (omega (arith, c.push-n.ensures.row)) l c.encode_machine.ensures.back c.encode_machine.ensures.there p.put)
