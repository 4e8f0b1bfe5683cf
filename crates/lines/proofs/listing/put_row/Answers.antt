use Rattle.std.proofs.Common.{[], ◌∷◌, ◌∙◌}
use Rattle.std.proofs.lemmas.Bool.{cond-true, cond-false}
use Rattle.jobs.specs.Tables.{task_from}
use Rattle.lines.proofs.Listings.{lists_nothing, lists_one}
use Rattle.lines.proofs.listing.put_row.Goals as goal

pub returns-then-not-lists-clause-lists : goal.returns-then-not-lists-clause-lists
returns-then-not-lists-clause-lists g c = lists_nothing _ _ _ c.args.out.now _ _ (c.lists.ensures c.args.ready ∙ cond-false c.lists.result (task_from c.args.row.words.now c.args.ready ∷ []) [] c.if-not-lists.true)

pub returns-clause-lists : goal.returns-clause-lists
returns-clause-lists g c = lists_one _ _ c.args.done.count (c.lists.ensures c.args.ready ∙ cond-true c.lists.result (task_from c.args.row.words.now c.args.ready ∷ []) [] c.if-not-lists.false) c.put_task.ensures.bytes
