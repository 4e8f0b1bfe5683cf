use Rattle.std.proofs.Common.{◌/◌, length, [], ◌∷◌, ◌++◌, sym, ap, ◌∙◌, arith}
use Rattle.calls.proofs.Ranges.{length_tags}
use Rattle.octets.proofs.Numbers.{bytes_under}
use Rattle.wire.proofs.Again.{tags_again}
use Rattle.wire.proofs.Likeness.{tags_small}
use Rattle.wire.proofs.Pushing.{then}
use Rattle.wire.proofs.push.push_tags.Goals as goal

pub returns : goal.returns
returns c =
    let ts = c.args.tags.now in let n = length ts / 4 in let u = bytes_under ts (λ k. let h = c.type_inv.tags k in omega arith) in
    record {
      bytes = then _ _ _ _ _ (c.in_ok-push.ensures.items ∙ ap (λ k. c.args.bytes.now.items ++ (k ∷ [])) (sym (length_tags n ts))) (c.in_ok-extend_from_slice.ensures.items ∙ ap (λ xs. c.push.new.self.items ++ xs) (sym (tags_again n ts (omega arith) u)));
      fits = tags_small n ts u;
    }
