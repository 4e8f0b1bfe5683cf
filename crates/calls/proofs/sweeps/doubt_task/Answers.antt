use Rattle.std.proofs.Common.{false, map, sym, ap, ◌∙◌}
use Rattle.model.specs.Calls.{unsure}
use Rattle.jobs.specs.Tables.{machines_of}
use Rattle.jobs.specs.Changes.{mark_each}
use Rattle.settling.proofs.Tallies.{row_hole}
use Rattle.calls.proofs.Doubting.{doubt_it, doubt_not, same_test}
use Rattle.calls.proofs.Sweep.{put_same}
use Rattle.calls.proofs.TaskIn.{changed, put_as}
use Rattle.jobs.proofs.Ranges.{hole, no_hole}
use Rattle.calls.proofs.sweeps.doubt_task.Goals as goal

pub returns-then-is_hole : goal.returns-then-is_hole
returns-then-is_hole c =
    let e = row_hole c.args.home.now c.args.live.now c.row-row.result.words.now c.args.i c.row-row.ensures (hole c.is_hole.ensures c.if-is_hole.true) in
    put_same _ _ c.args.i _ (e ∙ sym (ap (map (unsure c.args.time (machines_of c.args.home.now c.args.live.now))) e))

pub returns-then-doubtful : goal.returns-then-doubtful
returns-then-doubtful c =
    put_as _ _ _ _ c.args.i _ _
    (changed _ c.args.live.now c.row-row.result.words.now c.args.i c.row-row.ensures c.phase-phase.result c.phase-phase.ensures.phase c.phase-phase.ensures.machine c.phase-phase.ensures.life (no_hole c.is_hole.ensures c.if-is_hole.false)
    (map (unsure c.args.time (machines_of c.args.home.now c.args.live.now))) (mark_each false)
    (λ t p i m l. doubt_it _ _ t (same_test _ _ t _ _ p m ∙ sym c.doubtful.ensures ∙ c.if-doubtful.true)))
    (c.mark_task.ensures c.args.home.now c.requires.words)

pub returns-else-doubtful : goal.returns-else-doubtful
returns-else-doubtful c =
    put_same _ _ c.args.i _
    (changed _ c.args.live.now c.row-row.result.words.now c.args.i c.row-row.ensures c.phase-phase.result c.phase-phase.ensures.phase c.phase-phase.ensures.machine c.phase-phase.ensures.life (no_hole c.is_hole.ensures c.if-is_hole.false)
    (map (unsure c.args.time (machines_of c.args.home.now c.args.live.now))) (λ xs. xs)
    (λ t p i m l. doubt_not _ _ t (same_test _ _ t _ _ p m ∙ sym c.doubtful.ensures ∙ c.if-doubtful.false)))
