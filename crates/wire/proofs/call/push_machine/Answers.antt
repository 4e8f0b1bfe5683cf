use Rattle.std.proofs.Common.{arith}
use Rattle.std.proofs.lemmas.Grind.{common_steps}
use Rattle.std.proofs.lemmas.Bool.{lt-ltb}
use Rattle.wire.proofs.call.push_machine.Goals as goal

pub returns : goal.returns
returns c = record { bytes = grind (arith, common_steps); fits = lt-ltb _ _ (omega arith) }
