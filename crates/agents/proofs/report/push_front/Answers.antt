use Rattle.std.proofs.Common.{arith}
use Rattle.agents.proofs.Reports.{front_pushed}
use Rattle.agents.proofs.report.push_front.Goals as goal

pub returns : goal.returns
returns c =
    let h = c.args.head in
    front_pushed _ _ _ _ _ _ _ _ c.args.tag h.machine.0 h.life.0 h.number.0 c.args.count _ (omega arith) c.in_ok-push_number.ensures.ok c.in_ok-push_number-2.ensures.ok c.in_ok-push.ensures.items c.in_ok-push_number-3.ensures.ok c.in_ok-push_number-4.ensures.ok
    c.in_ok-push_number-5.ensures.ok c.in_ok-push_number-6.ensures.ok
