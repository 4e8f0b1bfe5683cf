use Rattle.calls.proofs.Keeping.{acted_sound}
use Rattle.calls.proofs.Soundness.{sound_fine}
use Rattle.calls.proofs.mind.Mind.tell.Goals as goal
use Rattle.calls.proofs.mind.Mind.tell.Goals.{in-Ok, in_default}

pub tell-told-requires-clause-fine : goal.tell-told-requires-clause-fine
tell-told-requires-clause-fine c = sound_fine c.args.self.now.home c.args.self.now.live c.args.self.now.time c.args.self.now.sound

pub invariant_of-self : goal.invariant_of-self
invariant_of-self c = record { sound = acted_sound _ _ _ _ _ _ _ _ c.in-Ok.ensures.told c.args.self.now.sound }

pub returns : goal.returns
returns c =
    elim c.match-told.branch [
      | in-Ok w ↦ rw (c.from.ensures, w.told-is, w.self-is) w.in-Ok.ensures.told
      | in_default w ↦ rw (c.from.ensures, w.told-is, w.self-is, w.in_default.is) w.in_default.ensures.told
    ]
