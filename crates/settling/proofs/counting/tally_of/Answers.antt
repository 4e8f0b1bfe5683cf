use Rattle.std.proofs.Common.{◌≡◌, refl, arith, rules}
use Rattle.jobs.specs.Tables.{task_at, state_of}
use Rattle.jobs.specs.Values.{job_of}
use Rattle.settling.proofs.Tallies.{no_tally, tallied_none, tallied_more, tallied_few, row_few}
use Rattle.settling.proofs.counting.tally_of.Goals as goal

pub loop-i-init : goal.loop-i-init
loop-i-init c =
    let none : c.default-tally.result ≡ no_tally = search rules in
    rw none (tallied_none (job_of c.args.job.now) (state_of c.args.home.now c.args.live.now c.args.time) (task_at c.args.home.now c.args.live.now))

pub step-tally-requires : goal.step-tally-requires
step-tally-requires c =
    let f = tallied_few (job_of c.args.job.now) (state_of c.args.home.now c.args.live.now c.args.time) (task_at c.args.home.now c.args.live.now) c.loop-i.i c.loop-i.tally (row_few c.args.home.now c.args.live.now) c.loop-i.invariant in
    record { words = c.requires.words; flags = c.requires.flags; within = omega arith; total = f.0; all = f.1; new = f.2; ready = f.3 }

pub loop-i-preserved : goal.loop-i-preserved
loop-i-preserved c =
    rw c.step-tally.ensures
    (tallied_more (job_of c.args.job.now) (state_of c.args.home.now c.args.live.now c.args.time) (task_at c.args.home.now c.args.live.now) c.loop-i.i c.loop-i.tally (task_at c.args.home.now c.args.live.now c.loop-i.i) refl (row_few c.args.home.now c.args.live.now c.loop-i.i) c.loop-i.invariant)
