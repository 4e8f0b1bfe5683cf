use Rattle.model.proofs.Replies.{refusal_keeps_lem}
use Rattle.model.proofs.state.refusal_keeps.Goals as goal

pub returns : goal.returns
returns c = refusal_keeps_lem
