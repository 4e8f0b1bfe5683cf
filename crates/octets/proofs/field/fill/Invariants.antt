use Rattle.std.proofs.Common.{◌≡◌, ◌+◌, ◌/◌, ◌++◌, length, take}
use Rattle.std.specs.Iterator.Adapters.{enumerate_source, enumerate_count}
use Rattle.std.specs.Slice.Iter.{chunks_exact_rest, chunks_exact_size}
use Rattle.model.specs.Wire.{tags_in_lem}
use Rattle.octets.proofs.field.fill.Given as goal

-- what is left goes on behind the numbers so far
abbrev pub invariant-loop-i : goal.invariant-loop-i
invariant-loop-i l =
    record {
      goes_on : take (enumerate_count l.i-iterator) l.out ++ tags_in_lem (length (chunks_exact_rest (enumerate_source l.i-iterator)) / 4) (chunks_exact_rest (enumerate_source l.i-iterator)) ≡ tags_in_lem (length l.bytes / 4) l.bytes;
      many : enumerate_count l.i-iterator + length (chunks_exact_rest (enumerate_source l.i-iterator)) / 4 ≡ length l.bytes / 4;
      four : chunks_exact_size (enumerate_source l.i-iterator) ≡ 4;
      long : length l.out ≡ length l.initial.out;
    }
