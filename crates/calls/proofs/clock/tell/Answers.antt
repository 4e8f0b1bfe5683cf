use Rattle.std.proofs.Common.{◌≡◌, ℕ, sym, ap, ◌∙◌, inl, inr}
use Rattle.model.specs.Settle.{settle}
use Rattle.model.specs.Calls.{Tick, acts, no, yes', timed}
use Rattle.jobs.specs.Tables.{state_of}
use Rattle.calls.specs.declared.answer.Refusal.TheVariants.{Malformed}
use Rattle.calls.proofs.Outcomes.{acted_no, acted_yes}
use Rattle.calls.proofs.Timed.{fine_then, tick_zero, tick_late, tick_yes}
use Rattle.calls.proofs.clock.tell.Goals as goal

pub go_on-requires-clause-fine : goal.go_on-requires-clause-fine
go_on-requires-clause-fine c = fine_then _ _ c.args.time _ c.requires.fine

pub returns-then-ms-eq0-clause-told : goal.returns-then-ms-eq0-clause-told
returns-then-ms-eq0-clause-told c =
    let s = state_of c.args.home.now c.args.live.now c.args.time in
    let refused : acts (Tick c.args.ms) s ≡ no 1 s = elim c.then-ms-eq0.either [ inl z ↦ tick_zero c.args.ms s z | inr z ↦ tick_late c.args.ms s z.0 z.1 ] in
    acted_no (Tick c.args.ms) c.args.home.now c.args.live.now c.args.time Malformed refused

pub returns-clause-told : goal.returns-clause-told
returns-clause-told c =
    let s = state_of c.args.home.now c.args.live.now c.args.time in
    acted_yes (Tick c.args.ms) c.args.home.now c.args.live.now _ _ c.args.time c.later_of-then.result (settle (timed c.later_of-then.result s))
    (tick_yes c.args.ms _ c.if-ms-eq0.false c.if-ms-gt-LAST.false ∙ ap (λ (t : ℕ). yes' (timed t s)) (sym c.later_of-then.ensures)) c.go_on.ensures
