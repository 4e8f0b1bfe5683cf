use Rattle.std.proofs.Common.{rules}
use Rattle.lines.proofs.Writing.{puts_spec}
use Rattle.lines.proofs.write.put_spec.Goals as goal

pub returns-clause-bytes : goal.returns-clause-bytes
returns-clause-bytes c =
    puts_spec _ _ _ _ c.args.spec.now.tags _ _ _ (search rules) c.from.ensures (search rules) c.put_number-end.ensures.bytes c.put_number-end-2.ensures.bytes c.put_number-end-3.ensures.bytes c.put_u8-end.ensures.bytes c.put_tags-end.ensures.bytes c.put_u8.ensures.bytes
