use Rattle.calls.proofs.Rises.{SoundFrom}
use Rattle.calls.proofs.sound.sound_tasks.Given as goal

abbrev pub invariant-loop-i : goal.invariant-loop-i
invariant-loop-i l = SoundFrom l.home l.i l.last
