use Rattle.std.proofs.Common.{◌≡◌, min, take, drop, get_or, sym, ◌∙◌, refl, arith, rules, tests}
use Rattle.std.proofs.lemmas.Bool.{ne_eqb}
use Rattle.std.proofs.lemmas.Iterator.{cases_from_all, YieldsList-from_range}
use Rattle.jobs.specs.Rows.{at}
use Rattle.jobs.specs.Tables.{byte_at}
use Rattle.jobs.proofs.Names.{other_length, same_by}
use Rattle.jobs.proofs.naming.Kind.is_named.Goals as goal

pub returns-then-len-min : goal.returns-then-len-min
returns-then-len-min g c =
    let xs = g.N.Spelled.spelled c.args.name.now in
    let n = min (at c.args.self.words.now 14) 64 in
    let ws = take 8 (drop 15 c.args.self.words.now) in
    same_by xs n ws c.all.result (sym c.len.ensures ∙ c.if-len-min.true ∙ c.min.ensures)
    (cases_from_all _ _ _ (λ k. get_or xs k 0 ≡ byte_at ws k) (λ k. get_or xs k 0 ≡ byte_at ws k → ⊥) c.all.ensures.ran (YieldsList-from_range 0 c.len-then-len-min.result _ refl (omega (arith, c.len-then-len-min.ensures))) (λ x q k. search (rules, tests)) (λ x q k. search (rules, tests)))

pub returns-else-len-min : goal.returns-else-len-min
returns-else-len-min g c =
    let xs = g.N.Spelled.spelled c.args.name.now in
    ne_eqb _ _ c.if-len-min.false ∙ sym (other_length xs (min (at c.args.self.words.now 14) 64) (take 8 (drop 15 c.args.self.words.now)) (λ e. c.if-len-min.false (c.len.ensures ∙ e ∙ sym c.min.ensures)))
