use Rattle.std.proofs.Common.{[], sym, ◌∙◌, arith}
use Rattle.std.proofs.lemmas.Result.{err_from_is_err_and}
use Rattle.calls.specs.declared.answer.Refusal.TheVariants.{Unknown}
use Rattle.calls.proofs.Changes.{found_as, row_news}
use Rattle.calls.proofs.Outcomes.{refused_by}
use Rattle.calls.proofs.News.{bad, unknown, stale, news, same_stale}
use Rattle.calls.proofs.report.check.Goals as goal

pub returns-then-out_of_range : goal.returns-then-out_of_range
returns-then-out_of_range c = λ live time. bad c.args.report _ (sym c.out_of_range.ensures ∙ c.if-out_of_range.true)

pub returns-in_err-i : goal.returns-in_err-i
returns-in_err-i c =
    let p = err_from_is_err_and c.from_residual.result c.from_residual.ensures.1 in
    rw (p.1, refused_by c.find_machine.result Unknown _ _ c.in_err-i.ensures.ok_part c.in_err-i.ensures.value p.2)
    (λ live time. unknown c.args.report _ (sym c.out_of_range.ensures ∙ c.if-out_of_range.false) (found_as c.args.report.machine.0 c.args.home.now live _ _ c.in_err-i.ensures.ok_part (c.find_machine.ensures live)))

pub returns-then-stale : goal.returns-then-stale
returns-then-stale c = λ live time.
    let f = found_as c.args.report.machine.0 c.args.home.now live _ _ c.in_ok-i.ensures.ok_part (c.find_machine.ensures live) in let w = row_news c.args.home.now live c.row-row.result.words.now c.in_ok-i.i f.0 c.row-row.ensures f.2 in
    stale c.args.report _ (sym c.out_of_range.ensures ∙ c.if-out_of_range.false) f.0 f.3 (sym (same_stale c.args.report _ _ _ _ (c.life.ensures ∙ w.0) (c.number.ensures ∙ w.1)) ∙ sym c.stale.ensures ∙ c.if-stale.true)

pub returns : goal.returns
returns c = λ live time.
    let f = found_as c.args.report.machine.0 c.args.home.now live _ _ c.in_ok-i.ensures.ok_part (c.find_machine.ensures live) in let w = row_news c.args.home.now live c.row-row.result.words.now c.in_ok-i.i f.0 c.row-row.ensures f.2 in (
      (f.0, f.1, f.2, f.4, f.5),
      news c.args.report _ (sym c.out_of_range.ensures ∙ c.if-out_of_range.false) f.0 f.3 (sym (same_stale c.args.report _ _ _ _ (c.life.ensures ∙ w.0) (c.number.ensures ∙ w.1)) ∙ sym c.stale.ensures ∙ c.if-stale.false),
    )

pub row-row-requires : goal.row-row-requires
row-row-requires c = let f = found_as c.args.report.machine.0 c.args.home.now [] _ _ c.in_ok-i.ensures.ok_part (c.find_machine.ensures []) in (omega arith, (omega arith, (omega (arith, c.requires), omega (arith, f.1))))
