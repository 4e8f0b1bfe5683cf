use Rattle.std.proofs.Common.{sym, ◌∙◌, arith}
use Rattle.jobs.proofs.Names.{length_bytes, get_d_bytes}
use Rattle.jobs.proofs.naming.NameSpelled.byte.Goals as goal

pub byte_at-requires-clause-within : goal.byte_at-requires-clause-within
byte_at-requires-clause-within c = omega (arith, c.requires, length_bytes c.args.self.now.len c.args.self.now.words, c.args.self.now.short)

pub returns : goal.returns
returns c = c.byte_at.ensures ∙ sym (get_d_bytes c.args.self.now.len c.args.self.now.words c.args.k (omega (arith, c.requires, length_bytes c.args.self.now.len c.args.self.now.words)))
