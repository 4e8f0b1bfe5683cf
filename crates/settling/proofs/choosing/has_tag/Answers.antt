use Rattle.std.proofs.Common.{◌≡◌, ℕ, ◌+◌, ◌-◌, min, eqb, take, drop, ap, ◌∙◌, arith, rules}
use Rattle.std.specs.List.{list_any}
use Rattle.std.proofs.lemmas.Iterator.{YieldsList-from_slice}
use Rattle.std.proofs.lemmas.Iterator.Search.{any_from_yields_List}
use Rattle.jobs.specs.Rows.{at}
use Rattle.jobs.specs.Tables.{low}
use Rattle.settling.proofs.Tags.{some_any}
use Rattle.settling.proofs.choosing.has_tag.Goals as goal

pub returns : goal.returns
returns c =
    let row = c.args.row.words.now in
    let n : 8 + c.min-count.result - 8 ≡ min (at row 7) 16 = omega (arith, c.min-count.ensures) in
    any_from_yields_List (λ w. eqb c.args.tag (low w)) _ _ _ c.any.ensures.ran (YieldsList-from_slice _ c.iter.ensures.rest) (λ x b q k. search rules) ∙
    ap (λ (k : ℕ). list_any (λ w. eqb c.args.tag (low w)) (take k (drop 8 row))) n ∙ some_any (eqb c.args.tag) low (min (at row 7) 16) (drop 8 row)
