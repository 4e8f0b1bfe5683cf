use Rattle.std.proofs.Common.{[], sym, ap, ◌∙◌}
use Rattle.model.specs.Calls.{heard_all}
use Rattle.jobs.specs.Changes.{mark_each}
use Rattle.settling.proofs.Tallies.{row_hole}
use Rattle.calls.specs.Meaning.{seens_of}
use Rattle.calls.proofs.Hearing.{hear_none}
use Rattle.calls.proofs.Sweep.{put_same}
use Rattle.calls.proofs.TaskIn.{changed, put_as}
use Rattle.jobs.proofs.Ranges.{hole, no_hole}
use Rattle.calls.proofs.sweeps.hear_task.Goals as goal

pub returns-then-is_hole : goal.returns-then-is_hole
returns-then-is_hole c =
    let e = row_hole c.args.home.now c.args.live.now c.row-row.result.words.now c.args.i c.row-row.ensures (hole c.is_hole.ensures c.if-is_hole.true) in
    put_same _ _ c.args.i _ (e ∙ sym (ap (heard_all _ _ (seens_of c.args.report.tasks.now)) e ∙ hear_none _ _ _))

pub returns-in-Gone : goal.returns-in-Gone
returns-in-Gone c =
    put_as _ _ _ _ c.args.i _ _
    (changed _ c.args.live.now c.row-row.result.words.now c.args.i c.row-row.ensures c.phase.result c.phase.ensures.phase c.phase.ensures.machine c.phase.ensures.life (no_hole c.is_hole.ensures c.if-is_hole.false) (heard_all _ _ (seens_of c.args.report.tasks.now)) (λ xs. []) (λ t p i m l. c.in-Gone.ensures t p (i ∙ sym c.id.ensures) m l))
    (c.remove_task.ensures c.args.live.now)

pub returns-in-Marked : goal.returns-in-Marked
returns-in-Marked c =
    put_as _ _ _ _ c.args.i _ _
    (changed _ c.args.live.now c.row-row.result.words.now c.args.i c.row-row.ensures c.phase.result c.phase.ensures.phase c.phase.ensures.machine c.phase.ensures.life (no_hole c.is_hole.ensures c.if-is_hole.false) (heard_all _ _ (seens_of c.args.report.tasks.now)) (mark_each c.in-Marked.ready) (λ t p i m l. c.in-Marked.ensures t p (i ∙ sym c.id.ensures) m l))
    (c.mark_task.ensures c.args.home.now c.requires.words)

pub returns-in-Stays : goal.returns-in-Stays
returns-in-Stays c =
    put_same _ _ c.args.i _
    (changed _ c.args.live.now c.row-row.result.words.now c.args.i c.row-row.ensures c.phase.result c.phase.ensures.phase c.phase.ensures.machine c.phase.ensures.life (no_hole c.is_hole.ensures c.if-is_hole.false) (heard_all _ _ (seens_of c.args.report.tasks.now)) (λ xs. xs) (λ t p i m l. c.in-Stays.ensures t p (i ∙ sym c.id.ensures) m l))
