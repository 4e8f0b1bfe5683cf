use Rattle.lines.proofs.Hexing.{hex_back_lem}
use Rattle.lines.proofs.theorems.hex_back.Goals as goal

pub returns : goal.returns
returns c = hex_back_lem
