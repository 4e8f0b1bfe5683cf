use Rattle.std.proofs.Common.{true, false, sym, refl, ◌∙◌}
use Rattle.std.proofs.lemmas.Bool.{eqb-true, eqb-false}
use Rattle.model.specs.State.{is_job}
use Rattle.jobs.specs.Tables.{job_from_lem}
use Rattle.jobs.specs.Values.{name_of}
use Rattle.jobs.proofs.Darkness.{most_hole, most_one}
use Rattle.jobs.proofs.Ranges.{passes}
use Rattle.jobs.proofs.sums.most_in.Goals as goal

pub returns-then-is_hole : goal.returns-then-is_hole
returns-then-is_hole c = most_hole (name_of c.args.name.now) c.args.row.words.now (eqb-true _ _ (sym c.is_hole.ensures ∙ c.if-is_hole.true))

pub returns-then-is_named : goal.returns-then-is_named
returns-then-is_named c =
    let n = name_of c.args.name.now in
    let r = c.args.row.words.now in
    let f = sym c.is_hole.ensures ∙ c.if-is_hole.false in
    most_one n r true (eqb-false _ _ f) (passes (is_job n) _ _ (job_from_lem r) f refl ∙ sym c.is_named.ensures ∙ c.if-is_named.true)

pub returns : goal.returns
returns c =
    let n = name_of c.args.name.now in
    let r = c.args.row.words.now in
    let f = sym c.is_hole.ensures ∙ c.if-is_hole.false in
    c.most.ensures ∙ most_one n r false (eqb-false _ _ f) (passes (is_job n) _ _ (job_from_lem r) f refl ∙ sym c.is_named.ensures ∙ c.if-is_named.false)
