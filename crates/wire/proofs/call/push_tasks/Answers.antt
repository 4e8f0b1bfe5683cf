use Rattle.std.proofs.Common.{◌/◌, ◌++◌, length, ◌∙◌, refl, ap, sym, subst, arith}
use Rattle.std.specs.Int.Digits.{AllBelowBase}
use Rattle.std.specs.Slice.Iter.{chunks_exact_rest, chunks_exact_size}
use Rattle.model.specs.Wire.{seen_bytes}
use Rattle.calls.specs.Meaning.{seens_of}
use Rattle.octets.proofs.Numbers.{bytes_under}
use Rattle.wire.proofs.Pushing.{tasks_more, tasks_left, tasks_done}
use Rattle.wire.proofs.CallsAgain.{seens_long}
use Rattle.wire.proofs.call.push_tasks.Goals as goal

pub loop-task-init : goal.loop-task-init
loop-task-init c =
    let r = ap chunks_exact_rest c.into_iter-task-iterator.ensures.into_iter_gives ∙ c.chunks_exact-task-items.ensures.rest in
    record {
      goes_on = ap (λ ts. c.args.bytes.now.items ++ seen_bytes (seens_of ts)) r;
      nine = ap chunks_exact_size c.into_iter-task-iterator.ensures.into_iter_gives ∙ c.chunks_exact-task-items.ensures.size;
      bytes = subst (AllBelowBase 256) (sym r) (bytes_under _ (λ k. let h = c.type_inv.tasks k in omega arith));
    }

pub loop-task-preserved : goal.loop-task-preserved
loop-task-preserved c =
    let s = c.in-Some.ensures.steps in let v = c.loop-task.invariant in
    record {
      goes_on = tasks_more _ _ _ c.in-Some.task.now _ _ _ _ _ c.in_ok-extend_from_slice.ensures.items c.in_ok-push.ensures.items refl c.from.ensures (s.1.1 ∙ v.nine) v.bytes s.1.0 v.goes_on;
      nine = s.0 ∙ v.nine;
      bytes = tasks_left c.in-Some.task.now _ _ (s.1.1 ∙ v.nine) v.bytes s.1.0;
    }

pub returns : goal.returns
returns c =
    let s = c.in-None.ensures.steps in let v = c.loop-task.invariant in let ts = c.args.tasks.now in
    record { bytes = tasks_done _ _ _ (omega (arith, s, v.nine)) v.goes_on; fits = seens_long (length ts / 9) ts (bytes_under ts (λ k. let h = c.type_inv.tasks k in omega arith)) }
