use Rattle.device.proofs.Steps.{keeps_none}
use Rattle.device.proofs.halves.keep.Goals as goal

pub returns : goal.returns
returns g c = keeps_none c.args.changed c.args.home.now (g.K.Kept.word c.args.words.now) c.if-changed.false
