use Rattle.jobs.proofs.Darkness.{goes_dark_lem}
use Rattle.jobs.proofs.dark.go_dark.Goals as goal

pub returns : goal.returns
returns c = goes_dark_lem c.args.live.now c.clear.new.words c.clear.ensures
