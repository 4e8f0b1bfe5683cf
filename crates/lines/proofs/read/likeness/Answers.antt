use Rattle.std.proofs.Common.{refl}
use Rattle.lines.proofs.Parsing.{like_read}
use Rattle.lines.proofs.read.likeness.Goals as goal

pub returns : goal.returns
returns c = like_read c.args.tags c.args.bytes.now _ _ _ _ c.requires c.number_at.ensures c.number_at-2.ensures c.number_at-3.ensures refl
