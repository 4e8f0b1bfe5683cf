use Rattle.calls.proofs.Outcomes.{acted_no, acted_run}
use Rattle.calls.proofs.report.report.Goals as goal

pub returns-in-Err-clause-acted : goal.returns-in-Err-clause-acted
returns-in-Err-clause-acted c = acted_no _ _ _ _ _ (c.in-Err.ensures c.args.live.now c.args.time)

pub take-requires-clause-there : goal.take-requires-clause-there
take-requires-clause-there c = (c.in-Ok.ensures c.args.live.now c.args.time).0

pub returns-in-Ok-clause-acted : goal.returns-in-Ok-clause-acted
returns-in-Ok-clause-acted c = acted_run c.args.report _ _ _ _ c.args.time _ (c.in-Ok.ensures c.args.live.now c.args.time).1 c.take.ensures
