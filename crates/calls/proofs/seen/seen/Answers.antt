use Rattle.std.proofs.Common.{sym, refl, ◌∙◌, arith}
use Rattle.std.proofs.lemmas.Bool.{eqb-true, eqb-false}
use Rattle.calls.proofs.Listed.{task_in, seen_here, seen_on, seen_none}
use Rattle.calls.proofs.seen.seen.Goals as goal

pub loop-task-preserved : goal.loop-task-preserved
loop-task-preserved c =
    let s = c.in-Some.ensures.steps in
    let on = seen_on c.in-Some.task.now c.next.new.self.rest.now _ (s.1.1 ∙ c.loop-task.invariant.nine) s.1.0 c.args.id.0 (λ e. eqb-false _ _ (sym c.eq.ensures ∙ c.if-eq.false) (c.number_at.ensures ∙ e)) in
    record { nine = s.0 ∙ c.loop-task.invariant.nine; rest = sym on ∙ c.loop-task.invariant.rest }

pub returns-then-eq : goal.returns-then-eq
returns-then-eq c =
    let s = c.in-Some.ensures.steps in
    let here = seen_here c.in-Some.task.now c.next.new.self.rest.now _ (s.1.1 ∙ c.loop-task.invariant.nine) s.1.0 c.args.id.0 (sym c.number_at.ensures ∙ eqb-true _ _ (sym c.eq.ensures ∙ c.if-eq.true)) in
    (task_in c.in-Some.task.now, sym c.loop-task.invariant.rest ∙ here, refl)

pub returns : goal.returns
returns c = let s = c.in-None.ensures.steps in sym c.loop-task.invariant.rest ∙ seen_none c.args.id.0 c.loop-task.task-iterator.rest.now (omega arith)
