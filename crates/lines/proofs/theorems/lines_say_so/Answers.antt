use Rattle.lines.proofs.Saying.{lines_say_so_lem}
use Rattle.lines.proofs.theorems.lines_say_so.Goals as goal

pub returns : goal.returns
returns c = lines_say_so_lem
