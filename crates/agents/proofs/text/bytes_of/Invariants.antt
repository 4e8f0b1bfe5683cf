use Rattle.std.proofs.Common.{◌≡◌, ◌%◌, [], length, vec_items}
use Rattle.std.specs.Slice.Iter.{chunks_exact_rest, chunks_exact_size}
use Rattle.lines.specs.Text.{hex_on, first}
use Rattle.agents.proofs.text.bytes_of.Given as goal

-- what is left goes on behind the bytes so far
abbrev pub invariant-loop-pair : goal.invariant-loop-pair
invariant-loop-pair l =
    record {
      goes_on : hex_on (vec_items l.bytes) first (chunks_exact_rest l.pair-iterator) ≡ hex_on [] first l.text;
      two : chunks_exact_size l.pair-iterator ≡ 2;
      odd : length (chunks_exact_rest l.pair-iterator) % 2 ≡ length l.text % 2;
    }
