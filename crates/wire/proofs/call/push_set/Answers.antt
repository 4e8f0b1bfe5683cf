use Rattle.std.proofs.Common.{arith}
use Rattle.std.proofs.lemmas.Grind.{common_steps}
use Rattle.calls.specs.Meaning.{like_of}
use Rattle.wire.proofs.Pushing.{set_fits}
use Rattle.wire.proofs.call.push_set.Goals as goal

pub returns : goal.returns
returns c =
    let w = c.args.wanted.now in
    record { bytes = grind (arith, common_steps); fits = set_fits w.name.now (like_of w.like) w.count w.least w.most c.in_ok-push_like.ensures.fits (omega arith) (omega arith) (omega arith) }
