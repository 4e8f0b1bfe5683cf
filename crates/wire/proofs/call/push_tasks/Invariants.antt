use Rattle.std.proofs.Common.{◌≡◌, ◌++◌, vec_items}
use Rattle.std.specs.Slice.Iter.{chunks_exact_rest, chunks_exact_size}
use Rattle.std.specs.Int.Digits.{AllBelowBase}
use Rattle.model.specs.Wire.{seen_bytes}
use Rattle.calls.specs.Meaning.{seens_of}
use Rattle.wire.proofs.call.push_tasks.Given as goal

-- what is left goes on behind the tasks so far
abbrev pub invariant-loop-task : goal.invariant-loop-task
invariant-loop-task l =
    record {
      goes_on : vec_items l.bytes ++ seen_bytes (seens_of (chunks_exact_rest l.task-iterator)) ≡ vec_items l.initial.bytes ++ seen_bytes (seens_of l.tasks);
      bytes : AllBelowBase 256 (chunks_exact_rest l.task-iterator);
      nine : chunks_exact_size l.task-iterator ≡ 9;
    }
