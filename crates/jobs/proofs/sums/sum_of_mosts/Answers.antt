use Rattle.std.proofs.Common.{ℕ, ap, ◌∙◌, arith, rules, tests}
use Rattle.std.proofs.lemmas.Iterator.{YieldsList-from_range, YieldsList-from_map}
use Rattle.std.proofs.lemmas.Iterator.Adapters.{at_most_from_yields_List, fits_from_length}
use Rattle.std.proofs.lemmas.Iterator.Consumers.{sum_by_from_yields_List}
use Rattle.std.proofs.lemmas.List.FromFn.{length-range_with_len}
use Rattle.std.specs.List.{range_with_len}
use Rattle.model.specs.Calls.{all_most, others}
use Rattle.jobs.specs.Rows.{span}
use Rattle.jobs.specs.Tables.{job_at}
use Rattle.jobs.specs.Values.{name_of}
use Rattle.jobs.proofs.Darkness.{most_sum}
use Rattle.jobs.proofs.sums.sum_of_mosts.Goals as goal

pub sum-requires-clause-fits : goal.sum-requires-clause-fits
sum-requires-clause-fits c =
    let n = c.in_use.result in
    fits_from_length _ _ 256 _ (at_most_from_yields_List (YieldsList-from_range 0 n n c.map.ensures.source (omega arith)) (omega (arith, length-range_with_len 0 n, c.in_use.ensures.few))) c.map.ensures.closure (omega arith) (λ x r q k. search (rules, tests))

pub returns : goal.returns
returns c =
    let n = c.in_use.result in
    let name = name_of c.args.name.now in
    let f = job_at c.args.home.now in
    sum_by_from_yields_List (λ i. all_most (others name (f i))) (range_with_len 0 n) c.map.result _ c.sum.ensures.ran (YieldsList-from_map _ (λ i. all_most (others name (f i))) (YieldsList-from_range 0 n n c.map.ensures.source (omega arith)) c.map.ensures.closure (λ x r q k. search rules))
    ∙ most_sum name f n ∙ ap (λ (k : ℕ). all_most (others name (span f 0 k))) c.in_use.ensures.is
