use Rattle.std.proofs.Common.{[], ◌∙◌}
use Rattle.jobs.proofs.Ranges.{hole, no_hole}
use Rattle.calls.proofs.Different.{machine_hole, machine_found}
use Rattle.calls.proofs.sound.first_machine.Goals as goal

pub returns-then-is_hole : goal.returns-then-is_hole
returns-then-is_hole c = machine_hole c.args.home.now c.row-row.result.words.now c.args.i c.row-row.ensures (hole c.is_hole.ensures c.if-is_hole.true)

pub returns : goal.returns
returns c =
    c.eq.ensures ∙
    machine_found c.args.home.now c.row-row.result.words.now c.args.i c.requires.within c.row-row.ensures (no_hole c.is_hole.ensures c.if-is_hole.false) c.num.result.0 c.num.ensures c.find_machine.result (c.find_machine.ensures [])
