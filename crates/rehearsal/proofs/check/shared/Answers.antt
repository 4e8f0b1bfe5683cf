use Rattle.std.proofs.Common.{refl, subst}
use Rattle.std.specs.List.{All}
use Rattle.std.proofs.lemmas.List.{take_all}
use Rattle.agents.specs.declared.order.Seen.{Seen}
use Rattle.rehearsal.specs.Checks.{NoneRuns}
use Rattle.rehearsal.proofs.Sights.{of_all, seen_at}
use Rattle.rehearsal.proofs.check.shared.Goals as goal

pub returns-in-Some : goal.returns-in-Some
returns-in-Some c = (refl, seen_at c.args.seens.now c.loop-seen.seen-index _ c.loop-seen-test.true, c.in-Some.ensures)

pub returns : goal.returns
returns c = of_all (NoneRuns c.args.others.now) c.args.seens.now (subst (All (λ (x : Seen). NoneRuns c.args.others.now x.task.0)) (take_all c.loop-seen.seen-index c.args.seens.now c.loop-seen-test.false) c.loop-seen.invariant)
