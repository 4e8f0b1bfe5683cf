use Rattle.std.proofs.Common.{ℕ, ◌==◌, true, false, List, sym, refl, ap, ◌∙◌}
use Rattle.model.specs.Lists.{some}
use Rattle.model.specs.Settle.{present}
use Rattle.model.specs.State.{is_machine}
use Rattle.jobs.specs.Rows.{at}
use Rattle.jobs.specs.Tables.{machine_slot, machine_from}
use Rattle.settling.specs.Scan.{is_present}
use Rattle.settling.proofs.Scans.{both}
use Rattle.settling.proofs.presence.present_in.Goals as goal

pub returns-then-is_numbered : goal.returns-then-is_numbered
returns-then-is_numbered c =
    let r = c.row.result.words.now in
    let h = at c.args.live.now c.args.i in
    c.heard_lately.ensures ∙ both (is_machine c.args.num.0) (present c.args.time) (at r 0 == 0) true (machine_from r h) (machine_from r 0) refl (sym c.if-is_numbered.true ∙ c.is_numbered.ensures) ∙
    ap (λ (x : List ℕ). some (is_present c.args.time c.args.num.0) (machine_slot x h)) c.row.ensures

pub returns-else-is_numbered : goal.returns-else-is_numbered
returns-else-is_numbered c =
    let r = c.row.result.words.now in
    let h = at c.args.live.now c.args.i in
    c.if-is_numbered.false ∙ both (is_machine c.args.num.0) (present c.args.time) (at r 0 == 0) false (machine_from r h) (machine_from r 0) refl (sym c.if-is_numbered.false ∙ c.is_numbered.ensures) ∙
    ap (λ (x : List ℕ). some (is_present c.args.time c.args.num.0) (machine_slot x h)) c.row.ensures
