use Rattle.std.proofs.Common.{ℕ, ◌+◌, List, ap, arith}
use Rattle.jobs.specs.Rows.{at}
use Rattle.jobs.specs.Tables.{task_at, task_slot}
use Rattle.lines.proofs.Listings.{lists_start, lists_more, lists_as}
use Rattle.lines.proofs.listing.put_rows.Goals as goal

pub loop-i-init : goal.loop-i-init
loop-i-init g c = (lists_start _ _ (task_at c.args.home.now c.args.live.now) c.args.out.now c.args.at, omega arith, omega arith)

pub loop-i-preserved : goal.loop-i-preserved
loop-i-preserved g c = (
  lists_more _ _ (task_at c.args.home.now c.args.live.now) c.loop-i.i c.loop-i.invariant.0 (lists_as _ _ (ap (λ (r : List ℕ). task_slot r (at c.args.live.now (256 + c.loop-i.i))) c.row.ensures) c.put_row-listed.ensures.lists),
  omega (arith, c.loop-i.invariant.1, c.put_row-listed.ensures.room),
  omega (arith, c.loop-i.invariant.2, c.put_row-listed.ensures.few),
)
