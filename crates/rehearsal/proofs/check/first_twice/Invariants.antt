use Rattle.std.proofs.Common.{◌≡◌, List, ◌++◌, length}
use Rattle.agents.specs.declared.agent.Agent.{Agent}
use Rattle.rehearsal.specs.Checks.{NeverTwice}
use Rattle.rehearsal.proofs.check.first_twice.Given as goal

abbrev pub invariant-loop-agent : goal.invariant-loop-agent
invariant-loop-agent l = record { once : NeverTwice l.rest → NeverTwice l.agents; front : (before : List Agent) × (l.agents ≡ before ++ l.rest) }

abbrev pub decreases-loop-agent : goal.decreases-loop-agent
decreases-loop-agent l = length l.rest
