use Rattle.std.proofs.Common.{ℕ, ap, ◌∙◌, refl, arith, rules}
use Rattle.std.proofs.lemmas.Iterator.{YieldsList-from_range}
use Rattle.std.proofs.lemmas.Iterator.Search.{any_from_yields_List}
use Rattle.model.specs.Lists.{some}
use Rattle.jobs.specs.Rows.{span}
use Rattle.jobs.specs.Tables.{machine_at}
use Rattle.settling.specs.Scan.{is_present}
use Rattle.settling.proofs.Scans.{some_each}
use Rattle.settling.proofs.presence.heard_of.Goals as goal

pub returns : goal.returns
returns c =
    let p = is_present c.args.time c.args.num.0 in
    let f = machine_at c.args.home.now c.args.live.now in
    let n = c.in_use.result in
    any_from_yields_List (λ i. some p (f i)) _ _ _ c.any.ensures.ran (YieldsList-from_range 0 n n refl (omega arith)) (λ x b q k. search rules) ∙ some_each p f 0 n ∙ ap (λ (k : ℕ). some p (span f 0 k)) c.in_use.ensures.is
