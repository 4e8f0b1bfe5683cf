use Rattle.calls.proofs.Timed.{timed_tidy, timed_settled}
use Rattle.calls.proofs.clock.go_on.Goals as goal

pub settle-requires-clause-numbered : goal.settle-requires-clause-numbered
settle-requires-clause-numbered c = timed_tidy c.args.time c.args.home.now c.args.live.now _ c.requires.words c.requires.fine c.doubt.ensures

pub returns : goal.returns
returns c = timed_settled c.args.time c.args.home.now c.args.live.now _ c.requires.words c.requires.fine c.doubt.ensures _ _ c.settle.ensures.state
