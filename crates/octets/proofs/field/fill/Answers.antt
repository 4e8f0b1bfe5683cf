use Rattle.std.proofs.Common.{◌∙◌, arith, length-append, length-set}
use Rattle.std.specs.Iterator.Adapters.{enumerate_source}
use Rattle.std.specs.Slice.Iter.{chunks_exact_rest}
use Rattle.octets.proofs.Filling.{fill_more, fill_done}
use Rattle.octets.proofs.field.fill.Goals as goal

pub loop-i-preserved : goal.loop-i-preserved
loop-i-preserved c =
    let s = c.in-Some.ensures.steps in let v = c.loop-i.invariant in let r = s.0.1.0 in let long = s.0.1.1 ∙ v.four in let e = rw r at v.many in let a = length-append c.in-Some.piece.now (chunks_exact_rest (enumerate_source c.next.new.self)) in
    record {
      goes_on = fill_more _ _ _ _ _ c.in-Some.piece.now _ _ _ (omega (arith, e, a, long, s.1, v.long, c.requires)) s.1 s.2 long r c.number_at.ensures v.goes_on;
      many = omega (arith, e, a, long, s.2);
      four = s.0.0 ∙ v.four;
      long = length-set _ _ _ ∙ v.long;
    }

pub returns-clause-numbers : goal.returns-clause-numbers
returns-clause-numbers c = let s = c.in-None.ensures.steps in let v = c.loop-i.invariant in fill_done _ _ _ _ _ (omega (arith, s, v.four)) v.many v.goes_on
