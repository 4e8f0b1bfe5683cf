use Rattle.std.proofs.Common.{◌≡◌, refl, sym, ap, ◌∙◌, subst, List, [], ◌∷◌, ◌++◌, append_assoc}
use Rattle.agents.specs.declared.agent.Agent.{Agent}
use Rattle.rehearsal.specs.Checks.{NeverTwice, Seeing, NoneRuns}
use Rattle.rehearsal.proofs.check.first_twice.Goals as goal

pub returns-in-Some-shared : goal.returns-in-Some-shared
returns-in-Some-shared c =
    record {
      before = c.loop-agent.invariant.front.0;
      agent = c.in-Some.agent.now;
      behind = c.in-Some.others.now;
      parts = c.loop-agent.invariant.front.1 ∙ ap (λ (r : List Agent). c.loop-agent.invariant.front.0 ++ r) c.in-Some.ensures.cases.0;
      first = ap (λ h. h.machine) (sym c.head.ensures) ∙ sym c.in-Some-shared.ensures.0;
      runs = subst (λ xs. Seeing xs c.in-Some-shared.found.task.0) c.seens.ensures c.in-Some-shared.ensures.1;
      second = c.in-Some-shared.ensures.2;
    }

pub loop-agent-preserved : goal.loop-agent-preserved
loop-agent-preserved c =
    record {
      once = λ h. c.loop-agent.invariant.once (subst NeverTwice (sym c.in-Some.ensures.cases.0) ((λ t s. c.in_default-shared.ensures t (subst (λ xs. Seeing xs t) (sym c.seens.ensures) s)), h));
      front = (c.loop-agent.invariant.front.0 ++ c.in-Some.agent.now ∷ [], c.loop-agent.invariant.front.1 ∙ ap (λ (r : List Agent). c.loop-agent.invariant.front.0 ++ r) c.in-Some.ensures.cases.0 ∙ sym (append_assoc c.loop-agent.invariant.front.0 (c.in-Some.agent.now ∷ []) c.in-Some.others.now));
    }
