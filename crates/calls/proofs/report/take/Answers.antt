use Rattle.calls.proofs.Noted.{within, noted_tidy, noted_settled}
use Rattle.calls.proofs.report.take.Goals as goal

pub hear-requires-2-clause-within : goal.hear-requires-2-clause-within
hear-requires-2-clause-within c = within c.args.report.machine.0 c.args.report.life.0 0 c.args.i c.args.time _ c.args.home.now c.args.live.now _ _ c.args.home.now c.args.live.now c.requires.words c.requires.fine c.requires.there c.hear.ensures

pub settle-requires-clause-numbered : goal.settle-requires-clause-numbered
settle-requires-clause-numbered c = noted_tidy _ c.args.report.life.0 c.args.report.number.0 _ c.args.time _ _ _ _ _ _ _ c.requires.words c.requires.fine c.requires.there c.hear.ensures c.hear-2.ensures

pub returns : goal.returns
returns c = noted_settled _ c.args.report.life.0 c.args.report.number.0 _ c.args.time _ _ _ _ _ _ _ c.requires.words c.requires.fine c.requires.there c.hear.ensures c.hear-2.ensures _ _ c.settle.ensures.state
