use Rattle.std.proofs.Common.{◌%◌, ◌++◌, length, sym, ap, ◌∙◌}
use Rattle.std.proofs.lemmas.List.{length-map}
use Rattle.model.specs.Wire.{Bytes}
use Rattle.wire.specs.Replies.{orders_of}
use Rattle.agents.specs.Memory.{seens_of}
use Rattle.agents.specs.Reporting.{front_of, tasks_bytes}
use Rattle.agents.proofs.Reports.{report_parts}
use Rattle.agents.proofs.report.report_bytes.Goals as goal

pub returns : goal.returns
returns c =
    let h = c.args.head in let front = front_of (h.number.0 % 4294967296) h.machine.0 h.life.0 h.number.0 (length c.args.orders.now) in
    c.in_ok-add_tasks.ensures ∙ ap (λ (bs : Bytes). bs ++ tasks_bytes (seens_of c.args.seens.now) (orders_of c.args.orders.now)) (c.in_ok-push_front.ensures ∙ ap (λ (bs : Bytes). bs ++ front) c.in_ok-bytes.ensures.items) ∙
    report_parts _ _ _ _ _ _ _ (sym (length-map c.args.orders.now _))
