use Rattle.octets.proofs.Numbers.{bytes_of_eight}
use Rattle.agents.proofs.life.life_bytes.Goals as goal

pub returns : goal.returns
returns c = let e = c.to_be_bytes.ensures in let f = bytes_of_eight c.args.life.0 in rw (e, f)
