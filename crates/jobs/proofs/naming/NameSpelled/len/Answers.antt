use Rattle.std.proofs.Common.{sym, ◌∙◌}
use Rattle.jobs.proofs.Names.{length_bytes}
use Rattle.jobs.proofs.naming.NameSpelled.len.Goals as goal

pub returns : goal.returns
returns c = c.from.ensures ∙ sym (length_bytes c.args.self.now.len c.args.self.now.words)
