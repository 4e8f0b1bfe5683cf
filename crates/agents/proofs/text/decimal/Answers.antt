use Rattle.std.proofs.Common.{sym, ap, ◌∙◌}
use Rattle.std.proofs.lemmas.List.{drop_more}
use Rattle.lines.specs.Text.{decimal_on}
use Rattle.lines.specs.Resume.{number_in}
use Rattle.agents.proofs.Texts.{decimal_end}
use Rattle.agents.proofs.text.decimal.Goals as goal

pub returns-in_err-more : goal.returns-in_err-more
returns-in_err-more c =
    ap number_in c.from_residual.ensures ∙ sym (sym c.loop-c.invariant ∙ ap (decimal_on (number_in c.loop-c.number)) (drop_more c.args.text.now c.loop-c.c-index 0 c.loop-c-test.true) ∙ c.in_err-more.ensures _)

pub loop-c-preserved : goal.loop-c-preserved
loop-c-preserved c = sym (c.in_ok-more.ensures _) ∙ sym (ap (decimal_on (number_in c.loop-c.number)) (drop_more c.args.text.now c.loop-c.c-index 0 c.loop-c-test.true)) ∙ c.loop-c.invariant

pub returns : goal.returns
returns c = decimal_end c.args.text.now c.loop-c.c-index (number_in c.loop-c.number) c.loop-c-test.false ∙ c.loop-c.invariant
