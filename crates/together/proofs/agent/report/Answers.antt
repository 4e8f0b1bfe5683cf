use Rattle.std.proofs.Common.{ℕ, ◌<◌, ◌∙◌, ap, subst}
use Rattle.agents.specs.declared.head.Head.{Head}
use Rattle.together.proofs.agent.report.Goals as goal
use Rattle.together.proofs.Contracts.{reports_any}

pub returns-clause-moves : goal.returns-clause-moves
returns-clause-moves c =
    let m = subst (λ (n : ℕ). n < 65536) (ap (λ (h : Head). h.machine.0) c.head.ensures ∙ c.report-sent.ensures.machine) c.in_range.ensures.machine in
    let n = subst (λ (k : ℕ). k < 18446744073709551616) (ap (λ (h : Head). h.number.0) c.head.ensures) c.in_range.ensures.number in
    reports_any _ _ c.report-sent.result _ m n c.report-sent.ensures.agent
