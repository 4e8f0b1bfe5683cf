use Rattle.std.proofs.Common.{◌≡◌, ◌/◌, Err, is_ok, length, rules, sym, ap, ◌∙◌, subst, arith}
use Rattle.std.specs.Slice.Iter.{chunks_exact_rest, chunks_exact_size}
use Rattle.wire.specs.Answering.{LinesAs}
use Rattle.wire.specs.Replies.{shown_of}
use Rattle.wire.specs.declared.unread.Unread.TheVariants.{NoAnswer}
use Rattle.wire.proofs.Lists.{pushed}
use Rattle.wire.proofs.Showing.{listing_begins, listing_bad, listing_more, listing_ends, listing_all}
use Rattle.wire.proofs.shown.lines.Goals as goal

pub loop-piece-init : goal.loop-piece-init
loop-piece-init c =
    let i = c.into_iter-piece-iterator.ensures.into_iter_gives in
    record {
      listed = rw c.new-lines.ensures.items (listing_begins c.args.bytes.now _ (ap chunks_exact_rest i ∙ c.chunks_exact-piece-items.ensures.rest));
      fifteen = ap chunks_exact_size i ∙ c.chunks_exact-piece-items.ensures.size;
    }

pub returns-in_err-line : goal.returns-in_err-line
returns-in_err-line c =
    let q : c.from_residual.result ≡ Err NoAnswer = grind rules in let o = rw c.in_err-line.ensures.ok_part at c.shown.ensures in let s = c.in-Some.ensures.steps in let v = c.loop-piece.invariant in
    subst (LinesAs (length c.args.bytes.now / 15) c.args.bytes.now) (sym q) (listing_bad _ _ c.in-Some.piece.now _ _ v.listed (s.1.1 ∙ v.fifteen) s.1.0 o)

pub loop-piece-preserved : goal.loop-piece-preserved
loop-piece-preserved c =
    let o = rw c.in_ok-line.ensures.ok_part at c.shown.ensures in let s = c.in-Some.ensures.steps in let v = c.loop-piece.invariant in
    record {
      listed = listing_more _ _ c.in-Some.piece.now _ _ v.listed (s.1.1 ∙ v.fifteen) s.1.0 (shown_of c.in_ok-line.line) o.0 o.1 _ (pushed shown_of _ _ _ c.in_ok-line.line c.push.ensures.items (ap is_ok c.in_ok-push.was));
      fifteen = s.0 ∙ v.fifteen;
    }

pub returns : goal.returns
returns c = let s = c.in-None.ensures.steps in let v = c.loop-piece.invariant in (listing_ends _ _ _ v.listed (omega (arith, s, v.fifteen)), listing_all _ _ _ v.listed (omega (arith, s, v.fifteen)))
