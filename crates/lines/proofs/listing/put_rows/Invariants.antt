use Rattle.std.proofs.Common.{◌+◌, ◌*◌, ◌≤◌}
use Rattle.jobs.specs.Rows.{span}
use Rattle.jobs.specs.Tables.{task_at}
use Rattle.lines.specs.Listings.{Lists}
use Rattle.lines.proofs.listing.put_rows.Given as goal

-- the rows so far are listed
abbrev pub invariant-loop-i : goal.invariant-loop-i
invariant-loop-i g l =
    Lists (g.L.Listing.which l.listing) (g.L.Listing.each l.listing) (span (task_at l.home l.live) 0 l.i) l.initial.out l.out l.at 0 l.listed.end l.listed.count ×
    (l.listed.end ≤ l.at + 54 * l.i) × (l.listed.count ≤ l.i)
