use Rattle.std.proofs.Common.{◌≡◌, ℕ, ◌+◌, ◌==◌, true, List, sym, ap, ◌∙◌}
use Rattle.model.specs.State.{is_waiting}
use Rattle.jobs.specs.Rows.{at}
use Rattle.jobs.specs.Tables.{task_row_lem}
use Rattle.jobs.proofs.TaskRows.{waits, waits_not}
use Rattle.settling.specs.Place.{task_in}
use Rattle.settling.proofs.Tallies.{row_full, row_hole}
use Rattle.settling.proofs.Placements.{placed_hole, placed_other, placed_none, placed_some, told_to}
use Rattle.jobs.proofs.Ranges.{hole, no_hole}
use Rattle.settling.proofs.placing.place_row.Goals as goal
use Rattle.settling.proofs.placing.place_row.Goals.{then-is_hole-via-then-is_hole, then-is_hole-via-else-is_hole+then-not-is_waiting}

pub returns-then-is_hole : goal.returns-then-is_hole
returns-then-is_hole c =
    let home = c.args.home.now in
    let live = c.args.live.now in
    let row = c.row-row in
    elim c.then-is_hole.branch [
      | then-is_hole-via-then-is_hole w ↦ placed_hole home live c.args.i c.args.time (row_hole home live row.result.words.now c.args.i row.ensures (hole c.is_hole.ensures w.if-is_hole.true))
      | then-is_hole-via-else-is_hole+then-not-is_waiting w ↦
          placed_other home live c.args.i c.args.time (task_in home live c.args.i) (row_full home live row.result.words.now c.args.i row.ensures (no_hole c.is_hole.ensures w.if-is_hole.false))
          (waits_not (at (task_row_lem home c.args.i) 1) (at live (256 + c.args.i)) (ap (λ (x : List ℕ). at x 1 == 0) (sym row.ensures) ∙ sym w.is_waiting.ensures ∙ w.if-not-is_waiting.true))
    ]

pub returns-in-Some : goal.returns-in-Some
returns-in-Some c =
    let home = c.args.home.now in
    let live = c.args.live.now in
    let t = task_in home live c.args.i in
    let is = row_full home live c.row-row.result.words.now c.args.i c.row-row.ensures (no_hole c.is_hole.ensures c.if-is_hole.false) in
    let w : is_waiting t.phase ≡ true = waits (at (task_row_lem home c.args.i) 1) (at live (256 + c.args.i)) (ap (λ (x : List ℕ). at x 1 == 0) (sym c.row-row.ensures) ∙ sym c.is_waiting.ensures ∙ c.if-not-is_waiting.false) in
    let k = c.in-Some.ensures in
    placed_some home live c.args.i c.args.time t is w c.place_task.new.home c.place_task.new.live k.0 c.requires.words c.requires.within c.requires.numbered k.3
    (told_to home live c.place_task.new.home c.place_task.new.live c.row.result.words.now c.args.i c.in-Some.choice.at k.0 c.place_on-place.result.machine.0 c.place_on-place.result.life.0 c.place_on-place.ensures.machine c.place_on-place.ensures.life c.row.ensures k.2 c.place_task.ensures)

pub returns-in_default : goal.returns-in_default
returns-in_default c =
    let home = c.args.home.now in
    let live = c.args.live.now in
    let t = task_in home live c.args.i in
    let is = row_full home live c.row-row.result.words.now c.args.i c.row-row.ensures (no_hole c.is_hole.ensures c.if-is_hole.false) in
    let w : is_waiting t.phase ≡ true = waits (at (task_row_lem home c.args.i) 1) (at live (256 + c.args.i)) (ap (λ (x : List ℕ). at x 1 == 0) (sym c.row-row.ensures) ∙ sym c.is_waiting.ensures ∙ c.if-not-is_waiting.false) in
    placed_none home live c.args.i c.args.time t is w c.in_default.ensures
