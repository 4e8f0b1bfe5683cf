use Rattle.std.proofs.Common.{◌≤◌, vec_len}
use Rattle.script.proofs.numbers.tags.Given as goal

abbrev pub invariant-loop-tag : goal.invariant-loop-tag
invariant-loop-tag l = vec_len l.bytes ≤ 1020
