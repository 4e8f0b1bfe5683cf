use Rattle.std.proofs.Common.{map}
use Rattle.model.specs.Calls.{unsure}
use Rattle.jobs.specs.Tables.{machines_of}
use Rattle.calls.proofs.Sweep.{Swept}
use Rattle.calls.proofs.sweeps.doubt.Given as goal

abbrev pub invariant-loop-i : goal.invariant-loop-i
invariant-loop-i l = Swept (map (unsure l.time (machines_of l.home l.initial.live))) l.home l.initial.live l.i l.home l.live
