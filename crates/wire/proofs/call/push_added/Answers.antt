use Rattle.std.proofs.Common.{arith}
use Rattle.std.proofs.lemmas.Grind.{common_steps}
use Rattle.calls.specs.Meaning.{tags_of}
use Rattle.wire.proofs.Pushing.{added_fits}
use Rattle.wire.proofs.call.push_added.Goals as goal

pub returns : goal.returns
returns c = let a = c.args.added.now in record { bytes = grind (arith, common_steps); fits = added_fits a.machine.0 a.cpu a.mem (tags_of a.tags.now) (omega arith) (omega arith) (omega arith) c.in_ok-push_tags.ensures.fits }
