use Rattle.std.proofs.Common.{◌≡◌, ℕ, min, ap, arith, rules}
use Rattle.jobs.specs.Tables.{task_rows_lem}
use Rattle.settling.proofs.Placements.{placing_none, placing_more, placing_all}
use Rattle.settling.proofs.placing.place_all.Goals as goal

pub loop-i-init : goal.loop-i-init
loop-i-init c = placing_none c.args.home.now c.args.live.now c.args.time c.requires.numbered

pub place_row-requires : goal.place_row-requires
place_row-requires c =
    let e : task_rows_lem c.loop-i.home ≡ task_rows_lem c.args.home.now = ap (λ (k : ℕ). min k 2048) c.loop-i.invariant.rows in
    record { words = search rules; flags = search rules; within = omega arith; size = search rules; numbered = c.loop-i.invariant.numbered }

pub loop-i-preserved : goal.loop-i-preserved
loop-i-preserved c =
    placing_more c.args.home.now c.args.live.now c.args.time c.loop-i.i c.loop-i.home c.loop-i.live c.place_row.new.home c.place_row.new.live c.requires.words (omega arith) c.loop-i.invariant c.place_row.ensures

pub returns : goal.returns
returns c = placing_all c.args.home.now c.args.live.now c.args.time c.loop-i.i c.loop-i.home c.loop-i.live c.requires.words (omega arith) c.loop-i.invariant
