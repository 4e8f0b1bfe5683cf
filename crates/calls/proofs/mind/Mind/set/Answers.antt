use Rattle.calls.proofs.Keeping.{acted_sound}
use Rattle.calls.proofs.Soundness.{sound_fine}
use Rattle.calls.proofs.mind.Mind.set.Goals as goal

pub set-requires-clause-fine : goal.set-requires-clause-fine
set-requires-clause-fine c = sound_fine c.args.self.now.home c.args.self.now.live c.args.self.now.time c.args.self.now.sound

pub invariant_of-self : goal.invariant_of-self
invariant_of-self c = record { sound = acted_sound _ _ _ _ _ _ _ _ c.set.ensures.acted c.args.self.now.sound }
