use Rattle.wire.proofs.AnswersBack.{no_other_runs_lem, no_report_runs}
use Rattle.wire.proofs.theorems.no_other_runs.Goals as goal

pub returns : goal.returns
returns c = (no_other_runs_lem, no_report_runs)
