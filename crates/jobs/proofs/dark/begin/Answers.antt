use Rattle.jobs.proofs.Darkness.{begins}
use Rattle.jobs.proofs.dark.begin.Goals as goal

pub returns : goal.returns
returns c = begins c.clear.new.words c.clear.ensures
