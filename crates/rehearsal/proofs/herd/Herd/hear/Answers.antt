use Rattle.std.proofs.Common.{◌≡◌, Ok, sym, ap, subst, slice_index, take}
use Rattle.device.specs.declared.kept.Dark.{Dark}
use Rattle.rehearsal.specs.declared.words.Words.{Words}
use Rattle.device.specs.Service.{Said}
use Rattle.model.specs.Wire.{Bytes}
use Rattle.serving.specs.Herd.{Held, held_by}
use Rattle.serving.specs.Serves.{Serves}
use Rattle.rehearsal.specs.Heard.{memory_of}
use Rattle.rehearsal.proofs.herd.Herd.hear.Goals as goal

pub returns-in-Ok : goal.returns-in-Ok
returns-in-Ok c = λ u.
    let said : Said Bytes Held = record { reply = take c.answer-done.new.reply.len c.answer-done.new.reply.bytes; mind = held_by c.answer-done.new.mind } in
    record {
      said = said;
      serves = subst (λ (k : Words). Serves {V = Unit {0}} {E = Dark} c.args.line.now (held_by c.args.self.now.mind) (memory_of c.args.self.now.words) (Ok (tt {0})) said (slice_index k.words.items)) (sym c.go_on.ensures.words) (c.in-Ok.ensures.serves c.args.line.now c.set.ensures u);
      after = (ap (λ r. take r.len r.bytes) (sym c.go_on.ensures.reply), ap held_by (sym c.go_on.ensures.mind));
    }
