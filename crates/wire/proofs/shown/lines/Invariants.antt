use Rattle.std.proofs.Common.{◌≡◌, vec_items}
use Rattle.std.specs.Slice.Iter.{chunks_exact_rest, chunks_exact_size}
use Rattle.wire.specs.Replies.{lines_of}
use Rattle.wire.proofs.Showing.{Listing}
use Rattle.wire.proofs.shown.lines.Given as goal

-- the lines so far, and what is left
abbrev pub invariant-loop-piece : goal.invariant-loop-piece
invariant-loop-piece l = record { listed : Listing l.bytes (chunks_exact_rest l.piece-iterator) (lines_of (vec_items l.lines)); fifteen : chunks_exact_size l.piece-iterator ≡ 15 }
