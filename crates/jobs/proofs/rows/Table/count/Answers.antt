use Rattle.std.proofs.Common.{ℕ, ◌==◌, not, length, ap, ◌∙◌, arith, rules}
use Rattle.std.proofs.lemmas.Iterator.{YieldsList-from_range}
use Rattle.std.proofs.lemmas.Iterator.Consumers.{YieldsList-from_filter, count_from_yields_List}
use Rattle.jobs.specs.Rows.{at, row_at, span, entry_at}
use Rattle.jobs.proofs.TableLaws.{count_used}
use Rattle.jobs.proofs.rows.Table.count.Goals as goal

pub returns : goal.returns
returns g c =
    let b = g.row.BASE in
    let w = g.row.WIDTH in
    let home = c.args.home.now in
    let n = c.in_use.result in
    λ fs. count_from_yields_List c.filter.result _ c.count.ensures.ran (YieldsList-from_filter _ (λ i. not (at (row_at b w home i) 0 == 0)) (YieldsList-from_range 0 n n c.filter.ensures.source (omega arith)) c.filter.ensures.closure (λ x r q k. search rules))
    ∙ count_used b w home fs 0 n ∙ ap (λ (k : ℕ). length (span (entry_at b w home fs) 0 k)) c.in_use.ensures.is
