use Rattle.rest.proofs.Bounds.{apart_where_kept}
use Rattle.rest.proofs.apart_where_kept.Goals as goal

pub returns : goal.returns
returns c = apart_where_kept
