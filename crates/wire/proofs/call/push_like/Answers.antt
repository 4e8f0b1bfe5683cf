use Rattle.std.proofs.Common.{arith}
use Rattle.std.proofs.lemmas.Grind.{common_steps}
use Rattle.calls.specs.Meaning.{like_of}
use Rattle.wire.proofs.Pushing.{like_fits}
use Rattle.wire.proofs.call.push_like.Goals as goal

pub returns : goal.returns
returns c = record { bytes = grind (arith, common_steps); fits = like_fits (like_of c.args.like.now) (omega arith) (omega arith) (omega arith) c.in_ok-push_tags.ensures.fits }
