use Rattle.std.proofs.Common.{replicate}
use Rattle.calls.proofs.Soundness.{zeros_blank, zeros_sound}
use Rattle.calls.proofs.mind.Mind.new.Goals as goal

pub invariant_of-result : goal.invariant_of-result
invariant_of-result c = record { sound = zeros_sound 68104 }

pub returns : goal.returns
returns c = zeros_blank 68104 (replicate 2304 0)
