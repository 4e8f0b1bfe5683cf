use Rattle.std.proofs.Common.{◌+◌, sym, subst, arith}
use Rattle.calls.proofs.Rises.{SoundFrom, sound_start, sound_end, sound_hole, sound_on, sound_low, sound_high}
use Rattle.calls.proofs.sound.sound_tasks.Goals as goal
use Rattle.calls.proofs.sound.sound_tasks.Goals.{then-id-ne0+else-id-last+else-id-home, else-id-ne0, then-id-last-via-then-id-last, then-id-last-via-else-id-last+then-id-home}

pub loop-i-init : goal.loop-i-init
loop-i-init c = sound_start c.args.home.now

pub loop-i-preserved : goal.loop-i-preserved
loop-i-preserved c =
    let home = c.args.home.now in
    let row = c.row.result.words.now in
    elim c.if-id-ne0.branch [
      | then-id-ne0+else-id-last+else-id-home w ↦ subst (SoundFrom home (c.loop-i.i + 1)) (sym w.last-is) (sound_on home row c.loop-i.i c.loop-i.last (omega arith) c.row.ensures c.loop-i.invariant w.if-id-ne0.true (omega (arith, w.if-id-last.false)) (omega (arith, w.if-id-home.false)))
      | else-id-ne0 w ↦ subst (SoundFrom home (c.loop-i.i + 1)) (sym w.last-is) (sound_hole home row c.loop-i.i c.loop-i.last (omega arith) c.row.ensures c.loop-i.invariant w.if-id-ne0.false)
    ]

pub returns-then-id-last : goal.returns-then-id-last
returns-then-id-last c =
    let home = c.args.home.now in
    let row = c.row.result.words.now in
    elim c.then-id-last.branch [
      | then-id-last-via-then-id-last w ↦ sound_low home row c.loop-i.i c.loop-i.last (omega arith) c.row.ensures c.loop-i.invariant c.if-id-ne0.true (omega (arith, w.if-id-last.true))
      | then-id-last-via-else-id-last+then-id-home w ↦ sound_high home row c.loop-i.i c.loop-i.last (omega arith) c.row.ensures c.loop-i.invariant c.if-id-ne0.true (omega (arith, w.if-id-home.true))
    ]

pub returns : goal.returns
returns c = sound_end c.args.home.now c.loop-i.i c.loop-i.last (omega arith) c.loop-i.invariant
