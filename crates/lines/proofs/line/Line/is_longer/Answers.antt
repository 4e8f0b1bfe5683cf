use Rattle.lines.proofs.Overlong.{longer_as}
use Rattle.lines.proofs.line.Line.is_longer.Goals as goal

pub returns : goal.returns
returns c = λ line h b. longer_as _ _ line h b
