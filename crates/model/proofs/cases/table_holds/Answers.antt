use Rattle.model.proofs.Worked.{table_holds_lem}
use Rattle.model.proofs.cases.table_holds.Goals as goal

pub returns : goal.returns
returns c = table_holds_lem
