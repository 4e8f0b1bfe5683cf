use Rattle.std.proofs.Common.{ℕ, ◌<◌, List, [], length, sym, subst, ◌∙◌, arith, rules, tests}
use Rattle.std.proofs.iter.Serving.{serving}
use Rattle.std.proofs.lemmas.Iterator.{YieldsList-from_range}
use Rattle.std.proofs.lemmas.Iterator.Consumers.{YieldsList-at, YieldsList-from_filter_map, YieldsList-end, YieldsList-turn}
use Rattle.std.proofs.lemmas.List.{map-id}
use Rattle.jobs.specs.Rows.{span}
use Rattle.jobs.specs.Tables.{task_at}
use Rattle.jobs.specs.Values.{name_of}
use Rattle.settling.specs.Place.{Loaded, weight_of}
use Rattle.settling.specs.declared.load.Weight.{Weight}
use Rattle.settling.proofs.Weighs.{Weighed, weighed_none, weighed_more, weighed_light, weights_few, weights_of, weighed_all}
use Rattle.settling.proofs.loads.weigh_all.Goals as goal

pub loop-w-init : goal.loop-w-init
loop-w-init c = (grind serving, search rules, weighed_none c.args.home.now c.fill.new.self (search rules))

pub add_to_all-requires-clause-few : goal.add_to_all-requires-clause-few
add_to_all-requires-clause-few c =
    let job = name_of c.args.job.now in
    let home = c.args.home.now in
    let n = c.in_use.result in
    let few : (live : List ℕ) → length c.loop-w.yielded < length (weights_of job home live 0 n) = λ live. (YieldsList-turn (YieldsList-at c.into_iter-w-iterator.ensures.into_iter_gives (YieldsList-from_filter_map _ (λ i. weight_of job (task_at home live i)) (YieldsList-from_range 0 n n c.filter_map-w-items.ensures.source (omega arith)) c.filter_map-w-items.ensures.closure (λ x r q k. search (rules, tests)))) c.loop-w.yielded c.loop-w.w-iterator c.loop-w.yielded_by _ _ _ c.in-Some.is c.next.ensures.steps).0 in
    weighed_light home c.loop-w.yielded c.loop-w.loads (omega (arith, few [], weights_few job home [] 0 n)) c.loop-w.invariant.2

pub loop-w-preserved : goal.loop-w-preserved
loop-w-preserved c = (search rules, search rules, weighed_more c.args.home.now c.loop-w.yielded c.loop-w.loads c.add_to_all.new.loads c.in-Some.w (search rules) (search rules) c.add_to_all.ensures c.loop-w.invariant.2)

pub returns : goal.returns
returns c =
    let job = name_of c.args.job.now in
    let home = c.args.home.now in
    let n = c.in_use.result in
    λ live.
    let all = YieldsList-end (YieldsList-at c.into_iter-w-iterator.ensures.into_iter_gives (YieldsList-from_filter_map _ (λ i. weight_of job (task_at home live i)) (YieldsList-from_range 0 n n c.filter_map-w-items.ensures.source (omega arith)) c.filter_map-w-items.ensures.closure (λ x r q k. search (rules, tests)))) c.loop-w.yielded c.loop-w.w-iterator c.loop-w.yielded_by _ _ c.in-None.is c.next.ensures.steps in
    subst (λ (k : ℕ). Loaded job home (span (task_at home live) 0 k) c.loop-w.loads) c.in_use.ensures.is
    (weighed_all job home live n c.loop-w.loads (subst (λ (ws : List Weight). Weighed home ws c.loop-w.loads) (sym (map-id _) ∙ all.0) c.loop-w.invariant.2))
