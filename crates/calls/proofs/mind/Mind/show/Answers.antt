use Rattle.calls.proofs.Keeping.{shown}
use Rattle.calls.proofs.mind.Mind.show.Goals as goal

pub returns : goal.returns
returns c = shown c.args.name _ _ _
