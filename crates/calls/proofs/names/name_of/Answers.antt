use Rattle.std.proofs.Common.{arith}
use Rattle.std.proofs.lemmas.Bool.Decides.{nat_tests}
use Rattle.calls.proofs.Naming.{named}
use Rattle.calls.proofs.names.name_of.Goals as goal

pub returns : goal.returns
returns c = named c.args.bytes.now c.name_of_bytes.result (λ z. grind (arith, nat_tests)) c.name_of_bytes.ensures
