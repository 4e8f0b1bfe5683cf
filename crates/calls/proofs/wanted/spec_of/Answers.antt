use Rattle.std.proofs.Common.{ℕ, ◌/◌, ◌<◌, length, get_or, inl, inr, arith, rules}
use Rattle.calls.specs.Meaning.{like_of, tags_of}
use Rattle.calls.proofs.Ranges.{spec_ok, spec_bad, length_tags, small_tags}
use Rattle.calls.proofs.wanted.spec_of.Goals as goal
use Rattle.calls.proofs.wanted.spec_of.Goals.{then-like-gt1000000-via-then-like-gt1000000, then-like-gt1000000-via-else-like-gt1000000+then-like-gt1000000-2, then-like-gt1000000-via-else-like-gt1000000+else-like-gt1000000-2+then-like-gt8}

pub returns-then-like-gt1000000 : goal.returns-then-like-gt1000000
returns-then-like-gt1000000 c =
    let l = length_tags (length c.args.like.tags.now / 4) c.args.like.tags.now in
    spec_bad (like_of c.args.like) (elim c.then-like-gt1000000.branch [
      | then-like-gt1000000-via-then-like-gt1000000 w ↦ inl w.if-like-gt1000000.true
      | then-like-gt1000000-via-else-like-gt1000000+then-like-gt1000000-2 w ↦ inr (inl w.if-like-gt1000000-2.true)
      | then-like-gt1000000-via-else-like-gt1000000+else-like-gt1000000-2+then-like-gt8 w ↦ inr (inr (let t = w.if-like-gt8.true in omega arith))
    ])

pub returns : goal.returns
returns c =
    let n = length c.args.like.tags.now / 4 in
    let l = length_tags n c.args.like.tags.now in
    let i : c.args.like.image < 4294967296 = search rules in
    let fits : (k : ℕ) → get_or c.filled.result k 0 < 4294967296 = search rules in (
      spec_ok (like_of c.args.like) i c.if-like-gt1000000.false c.if-like-gt1000000-2.false (omega arith) (small_tags n c.filled.result (tags_of c.args.like.tags.now) c.filled.ensures fits),
      λ j. record { image = c.args.like.image; cpu = c.args.like.cpu; mem = c.args.like.mem; tags = c.filled.ensures j; apart = c.args.like.apart },
    )
