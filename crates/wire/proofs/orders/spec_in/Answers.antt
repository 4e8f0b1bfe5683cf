use Rattle.std.proofs.Common.{refl, rules}
use Rattle.wire.proofs.Ordered.{spec_read, tags_filled}
use Rattle.wire.proofs.orders.spec_in.Goals as goal

pub returns : goal.returns
returns c =
    record {
      value = spec_read c.args.count c.args.bytes.now _ _ _ _ _ c.number_at.ensures c.number_at-2.ensures c.number_at-3.ensures (search rules) (tags_filled c.args.count c.args.bytes.now _ c.requires.whole (rw c.from.ensures at c.filled.ensures));
      count = refl;
    }
