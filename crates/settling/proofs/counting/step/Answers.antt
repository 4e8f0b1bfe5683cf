use Rattle.std.proofs.Common.{◌≡◌, true, false, sym, ◌∙◌, rules}
use mir.Val.{bool_byte}
use Rattle.std.proofs.lemmas.Bool.{eqb-true, eqb-false}
use Rattle.model.specs.State.{is_ending}
use Rattle.jobs.specs.Values.{job_of, phase_of, machine_of}
use Rattle.settling.proofs.Tallies.{takes_new, takes_old}
use Rattle.jobs.proofs.Ranges.{no_hole}
use Rattle.settling.proofs.counting.step.Goals as goal

pub returns-then-eq : goal.returns-then-eq
returns-then-eq c =
    let y = c.args.tally in
    let ends : is_ending (phase_of c.phase-phase.result) ≡ false = sym c.ending_now.ensures ∙ c.if-ending_now.false in
    let named : c.is_named.result ≡ true = search rules in
    let ready : c.from.result ≡ bool_byte c.ready_now-ready.result = search rules in
    rw (ready, c.pick-next.ensures)
    (takes_new c.args.home.now c.args.live.now c.args.time c.args.i c.row-row.result.words.now c.kind-kind.result.words.now c.row-row.ensures c.kind-kind.ensures (job_of c.args.job.now) y
    c.is_named.result c.is_named.ensures named (phase_of c.phase-phase.result) (machine_of c.phase-phase.result) c.phase-phase.ensures.phase c.phase-phase.ensures.machine
    ends (no_hole c.is_hole.ensures c.if-is_hole.false) c.ready_now-ready.result c.spare-idle.result c.ready_now-ready.ensures c.spare-idle.ensures c.version.result.0 c.version.ensures (eqb-true _ _ (sym c.eq.ensures ∙ c.if-eq.true)))

pub returns-else-eq : goal.returns-else-eq
returns-else-eq c =
    let y = c.args.tally in
    let ends : is_ending (phase_of c.phase-phase.result) ≡ false = sym c.ending_now.ensures ∙ c.if-ending_now.false in
    let named : c.is_named.result ≡ true = search rules in
    let ready : c.from.result ≡ bool_byte c.ready_now-ready.result = search rules in
    rw (ready, c.pick-next-else-eq.ensures)
    (takes_old c.args.home.now c.args.live.now c.args.time c.args.i c.row-row.result.words.now c.kind-kind.result.words.now c.row-row.ensures c.kind-kind.ensures (job_of c.args.job.now) y
    c.is_named.result c.is_named.ensures named (phase_of c.phase-phase.result) (machine_of c.phase-phase.result) c.phase-phase.ensures.phase c.phase-phase.ensures.machine
    ends (no_hole c.is_hole.ensures c.if-is_hole.false) c.ready_now-ready.result c.spare-idle.result c.ready_now-ready.ensures c.spare-idle.ensures c.version.result.0 c.version.ensures (eqb-false _ _ (sym c.eq.ensures ∙ c.if-eq.false)))
