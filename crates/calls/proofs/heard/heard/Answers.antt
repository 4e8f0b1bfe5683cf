use Rattle.std.proofs.Common.{ap, ◌∙◌}
use Rattle.jobs.specs.Values.{phase_of}
use Rattle.calls.proofs.Hearing.{hear_waits}
use Rattle.calls.proofs.heard.heard.Goals as goal

pub returns-in-Waiting : goal.returns-in-Waiting
returns-in-Waiting c = λ t p i m l. hear_waits _ _ _ t (p ∙ ap phase_of c.in-Waiting.is)
