use Rattle.std.proofs.Common.{◌≡◌, ◌<◌, ◌⊎◌, inl, inr, arith}
use Rattle.calls.specs.Meaning.{like_of}
use Rattle.calls.proofs.Ranges.{job_ok_lem, bytes_ok}
use Rattle.calls.proofs.wanted.job_of.Goals as goal
use Rattle.calls.proofs.wanted.job_of.Goals.{else-wanted-3-via-then-wanted-3+then-wanted-4+else-wanted-ne0, else-wanted-3-via-then-wanted-3+else-wanted-4, else-wanted-3-via-else-wanted-3}

pub returns : goal.returns
returns c =
    let n = c.in_ok-name.ensures in
    let a = c.in_ok-spec.ensures in
    let lc = c.if-wanted.false in
    let cm = c.if-wanted-2.false in
    let free : (c.args.wanted.least < c.args.wanted.count) ⊎ ((c.args.wanted.count < c.args.wanted.most) ⊎ (c.args.wanted.count ≡ 0)) = elim c.else-wanted-3.branch [
      | else-wanted-3-via-then-wanted-3+then-wanted-4+else-wanted-ne0 w ↦ inr (inr w.if-wanted-ne0.false)
      | else-wanted-3-via-then-wanted-3+else-wanted-4 w ↦ inr (inl (let t = w.if-wanted-4.false in omega arith))
      | else-wanted-3-via-else-wanted-3 w ↦ inl (let t = w.if-wanted-3.false in omega arith)
    ] in (
      job_ok_lem (like_of c.args.wanted.like) c.args.wanted.name.now c.args.wanted.count c.args.wanted.least c.args.wanted.most n.0 (bytes_ok c.in_ok-name.name.len c.in_ok-name.name.words c.args.wanted.name.now n.1) a.0 lc cm c.if-wanted-gt256.false free,
      λ i. record { name = n.1 i; version = 1; spec = a.1 i; count = c.args.wanted.count; least = c.args.wanted.least; most = c.args.wanted.most },
    )
