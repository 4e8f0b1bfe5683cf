use Rattle.std.proofs.Common.{arith}
use Rattle.lines.proofs.Holding.{kind_none, kind_first}
use Rattle.lines.proofs.line.Line.kind.Goals as goal

pub returns-in-len1-up : goal.returns-in-len1-up
returns-in-len1-up c = λ line h. kind_first 18452 _ _ (c.call.ensures line h) (omega (arith, c.in-len1-up.len_at_least))

pub returns-in-empty : goal.returns-in-empty
returns-in-empty c = λ line h. kind_none 18452 _ _ (c.call.ensures line h) (omega (arith, c.in-empty.len_below))
