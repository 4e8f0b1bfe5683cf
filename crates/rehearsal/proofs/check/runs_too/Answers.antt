use Rattle.std.proofs.Common.{◌≡◌, sym, ap, ◌∙◌, subst, true, false, take, arith}
use Rattle.std.specs.List.{All}
use Rattle.std.proofs.lemmas.List.{take_all}
use Rattle.std.proofs.lemmas.List.Elements.{All-more}
use Rattle.model.specs.Lists.{some}
use Rattle.model.specs.World.{is_seen}
use Rattle.agents.specs.Memory.{seens_of}
use Rattle.rehearsal.specs.Checks.{Idle}
use Rattle.rehearsal.proofs.check.runs_too.Goals as goal

pub returns-then-runs : goal.returns-then-runs
returns-then-runs c =
    record {
      agent = c.agent-item.result;
      there = (c.loop-agent.agent-index, c.loop-agent-test.true, sym c.agent-item.is);
      runs = ap (λ xs. some (is_seen c.args.task.0) (seens_of xs)) (sym c.seens.ensures) ∙ sym c.runs.ensures ∙ c.if-runs.true;
      machine = ap (λ h. h.machine) (sym c.head.ensures);
    }

pub loop-agent-preserved : goal.loop-agent-preserved
loop-agent-preserved c =
    let idle : Idle c.args.task.0 c.agent-item.result = ap (λ xs. some (is_seen c.args.task.0) (seens_of xs)) (sym c.seens.ensures) ∙ sym c.runs.ensures ∙ c.if-runs.false in
    All-more (Idle c.args.task.0) c.args.agents.now c.loop-agent.agent-index c.agent-item.result c.loop-agent-test.true c.loop-agent.invariant (subst (Idle c.args.task.0) c.agent-item.is idle)

pub returns : goal.returns
returns c = subst (All (Idle c.args.task.0)) (take_all c.loop-agent.agent-index c.args.agents.now c.loop-agent-test.false) c.loop-agent.invariant
