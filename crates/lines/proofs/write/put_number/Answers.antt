use Rattle.std.proofs.Common.{ℕ, ◌+◌, ap}
use Rattle.lines.proofs.Writing.{puts_number}
use Rattle.lines.proofs.write.put_number.Goals as goal

pub returns-clause-bytes : goal.returns-clause-bytes
returns-clause-bytes g c = puts_number g.T.Number.WIDTH (g.T.Number.num c.args.n) c.args.at c.args.out.now _ _ _ c.requires (ap (λ (w : ℕ). c.args.at + w) c.WIDTH.ensures) c.widen.ensures c.put.ensures
