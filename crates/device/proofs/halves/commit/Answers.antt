use Rattle.std.proofs.Common.{arith}
use Rattle.std.proofs.lemmas.Result.{err_from_is_err_and}
use Rattle.model.specs.Memory.{Memory, Halfway, done, store}
use Rattle.device.specs.Follows.{Follows}
use Rattle.device.specs.Halves.{commits}
use Rattle.device.proofs.Doings.{leads_part, leads_part_cut, follows_store}
use Rattle.device.proofs.Goes.{whole}
use Rattle.device.proofs.Stores.{budget}
use Rattle.device.proofs.Steps.{in_place, turns}
use Rattle.device.proofs.halves.commit.Goals as goal

pub returns-then-differ-le1 : goal.returns-then-differ-le1
returns-then-differ-le1 g c =
    let h = c.args.home.now in
    let m : Memory = g.K.Kept.word c.args.words.now in
    let n : Memory = g.K.Kept.word c.copy.new.words in
    let f : Follows (commits h) m c.copy.result tt n =
    in_place h m c.load.result c.load.ensures c.locate-at.result.held c.locate-at.result.spare c.locate-at.result.turned c.locate-at.ensures.holds c.locate-at.ensures.other c.locate-at.ensures.turns c.differ.result c.differ.ensures n c.copy.result c.if-differ-le1.true c.copy.ensures in
    record { follows = f; whole = whole h m n c.copy.result c.requires (λ i. omega (arith, c.type_inv.home i)) f; budget = budget h m }

pub returns-in_err-copy : goal.returns-in_err-copy
returns-in_err-copy g c =
    let h = c.args.home.now in
    let m : Memory = g.K.Kept.word c.args.words.now in
    let n : Memory = g.K.Kept.word c.copy-2.new.words in
    let p = err_from_is_err_and c.from_residual.result c.from_residual.ensures.1 in
    let k : Halfway (commits h) m n =
    leads_part_cut (λ _. store 0 c.locate-at.result.turned (done tt))
    (turns h m c.load.result c.load.ensures c.locate-at.result.held c.locate-at.result.spare c.locate-at.result.turned c.locate-at.ensures.holds c.locate-at.ensures.other c.locate-at.ensures.turns c.differ.result c.differ.ensures c.if-differ-le1.false)
    c.in_err-copy.ensures in
    let f : Follows (commits h) m c.from_residual.result tt n = rw p.1 k in
    record { follows = f; whole = whole h m n c.from_residual.result c.requires (λ i. omega (arith, c.type_inv.home i)) f; budget = budget h m }

pub returns : goal.returns
returns g c =
    let h = c.args.home.now in
    let m : Memory = g.K.Kept.word c.args.words.now in
    let n : Memory = g.K.Kept.word c.store.new.self in
    let f : Follows (commits h) m c.store.result tt n =
    follows_store 0 c.locate-at.result.turned tt (g.K.Kept.word c.copy-2.new.words) n c.store.result
    (leads_part (λ _. store 0 c.locate-at.result.turned (done tt))
    (turns h m c.load.result c.load.ensures c.locate-at.result.held c.locate-at.result.spare c.locate-at.result.turned c.locate-at.ensures.holds c.locate-at.ensures.other c.locate-at.ensures.turns c.differ.result c.differ.ensures c.if-differ-le1.false)
    c.in_ok-copy.ensures)
    c.store.ensures.stored in
    record { follows = f; whole = whole h m n c.store.result c.requires (λ i. omega (arith, c.type_inv.home i)) f; budget = budget h m }
