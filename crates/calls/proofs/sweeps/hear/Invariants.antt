use Rattle.model.specs.Calls.{heard_all}
use Rattle.calls.specs.Meaning.{seens_of}
use Rattle.calls.proofs.Sweep.{Swept}
use Rattle.calls.proofs.sweeps.hear.Given as goal

abbrev pub invariant-loop-i : goal.invariant-loop-i
invariant-loop-i l = Swept (heard_all l.report.machine.0 l.report.life.0 (seens_of l.report.tasks.now)) l.initial.home l.initial.live l.i l.home l.live
