use Rattle.std.proofs.Common.{◌+◌, ◌==◌, not, rules}
use Rattle.std.proofs.lemmas.Iterator.{YieldsList-from_slice}
use Rattle.std.proofs.lemmas.Iterator.Consumers.{YieldsList-from_enumerate, YieldsList-from_filter, count_from_yields_List}
use Rattle.device.proofs.Steps.{differs_all}
use Rattle.device.proofs.halves.differ.Goals as goal

pub returns : goal.returns
returns g c =
    let m = g.K.Kept.word c.args.words.now in
    let from = c.args.from in
    let home = c.args.home.now in
    differs_all m from c.count.result home
    (count_from_yields_List c.filter.result _ c.count.ensures.ran (YieldsList-from_filter _ (λ p. not (m (from + p.0) == p.1)) (YieldsList-from_enumerate (YieldsList-from_slice home (cc)) (cc)) c.filter.ensures.closure (λ x r q k. search rules)))
