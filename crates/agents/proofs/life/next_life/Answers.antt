use Rattle.std.proofs.Common.{subst}
use Rattle.agents.specs.LifeFile.{Reads, read_life_lem}
use Rattle.agents.proofs.life.next_life.Goals as goal

pub returns-then-last-ge-LAST : goal.returns-then-last-ge-LAST
returns-then-last-ge-LAST c = (c.in_ok-last.last.0, subst (Reads (read_life_lem c.args.file.now)) c.in_ok-last.ensures.ok_part c.read_life.ensures, c.if-last-ge-LAST.true)
