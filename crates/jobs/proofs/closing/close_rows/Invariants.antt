use Rattle.jobs.proofs.HoleLaws.{Closing}
use Rattle.jobs.proofs.closing.close_rows.Given as goal

abbrev pub invariant-loop-i : goal.invariant-loop-i
invariant-loop-i l = Closing l.base l.width l.n l.initial.home l.initial.flags l.i l.to l.home l.flags
