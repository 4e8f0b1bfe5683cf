use Rattle.calls.proofs.Keeping.{acted_sound}
use Rattle.calls.proofs.Soundness.{sound_fine}
use Rattle.calls.proofs.mind.Mind.report.Goals as goal

pub report-requires-clause-fine : goal.report-requires-clause-fine
report-requires-clause-fine c = sound_fine c.args.self.now.home c.args.self.now.live c.args.self.now.time c.args.self.now.sound

pub invariant_of-self : goal.invariant_of-self
invariant_of-self c = record { sound = acted_sound _ _ _ _ _ _ _ _ c.report.ensures.acted c.args.self.now.sound }
