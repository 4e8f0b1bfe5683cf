use Rattle.std.proofs.Common.{◌++◌, rules, ap, ◌∙◌, arith}
use Rattle.model.specs.Wire.{call_bytes}
use Rattle.calls.specs.Meaning.{call_of}
use Rattle.wire.proofs.Short.{framed_call}
use Rattle.wire.proofs.call.call_frame.Goals as goal

pub returns : goal.returns
returns c =
    let p = c.in_ok-push_call.ensures in
    framed_call _ _ _ _ (omega arith) (search rules) p.fits (c.as_slice.ensures.value ∙ p.bytes ∙ ap (λ xs. xs ++ call_bytes (call_of c.args.call.now)) c.new-body.ensures.items) c.frame.ensures
