use Rattle.calls.proofs.Keeping.{acted_sound}
use Rattle.calls.proofs.Soundness.{sound_fine}
use Rattle.calls.proofs.mind.Mind.add.Goals as goal

pub add-requires-clause-fine : goal.add-requires-clause-fine
add-requires-clause-fine c = sound_fine c.args.self.now.home c.args.self.now.live c.args.self.now.time c.args.self.now.sound

pub invariant_of-self : goal.invariant_of-self
invariant_of-self c = record { sound = acted_sound _ _ _ _ _ _ _ _ c.add.ensures.acted c.args.self.now.sound }
