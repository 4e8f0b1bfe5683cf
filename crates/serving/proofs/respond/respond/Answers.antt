use Rattle.std.proofs.Common.{◌≡◌, Bool, false, take, sym, refl, ap, ◌∙◌, subst}
use Rattle.model.specs.Wire.{Bytes, read_call}
use Rattle.model.specs.Lines.{call_in}
use Rattle.calls.specs.Meaning.{call_of}
use Rattle.lines.specs.Held.{call_room}
use Rattle.lines.specs.Overlong.{LongerAs}
use Rattle.serving.specs.Herd.{held_by}
use Rattle.serving.proofs.Barring.{says_barred}
use Rattle.serving.proofs.Responding.{refused, unread, overlong, responded}
use Rattle.serving.proofs.respond.respond.Goals as goal

pub returns-in-Some : goal.returns-in-Some
returns-in-Some c = λ bytes h u.
    refused (call_in bytes) (held_by c.args.mind.now) c.in-Some.why
    (says_barred (call_in bytes) _ c.kind.result c.args.mind.now.time (c.kind.ensures bytes h) refl c.in-Some.why c.in-Some.ensures)

pub returns-then-is_longer : goal.returns-then-is_longer
returns-then-is_longer c = λ bytes h u.
    let b = c.in_default.ensures in
    overlong (call_in bytes) (held_by c.args.mind.now) c.kind.result (c.kind.ensures bytes h) b.0 b.1
    (subst (λ (r : Bool). LongerAs bytes r) c.if-is_longer.true (c.is_longer.ensures bytes h u))

-- all of the call is held
held : (bytes xs : Bytes) (r : Bool) → xs ≡ take call_room (call_in bytes) → LongerAs bytes r → r ≡ false → read_call (call_in bytes) ≡ read_call xs
held bytes xs r e l f = ap read_call (sym (e ∙ subst (LongerAs bytes) f l))

pub returns-in_default-read : goal.returns-in_default-read
returns-in_default-read c = λ bytes h u.
    let b = c.in_default.ensures in
    unread (call_in bytes) (held_by c.args.mind.now) c.kind.result (c.kind.ensures bytes h) b.0 b.1
    (held bytes _ _ (c.call.ensures bytes h) (c.is_longer.ensures bytes h u) c.if-is_longer.false ∙ c.in_default-read.ensures)

pub returns : goal.returns
returns c = λ bytes h u.
    let b = c.in_default.ensures in
    responded (call_in bytes) (held_by c.args.mind.now) c.kind.result (c.kind.ensures bytes h) b.0 b.1 (call_of c.in-Some-read.call)
    (held bytes _ _ (c.call.ensures bytes h) (c.is_longer.ensures bytes h u) c.if-is_longer.false ∙ c.in-Some-read.ensures)
    (held_by c.act.new.self) c.act.result c.act.ensures
