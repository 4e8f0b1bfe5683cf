use Rattle.std.proofs.Common.{[], ◌∙◌}
use Rattle.jobs.specs.Rows.{entry_at}
use Rattle.jobs.specs.Tables.{machine_at, machine_rows_lem}
use Rattle.jobs.proofs.Ranges.{span_long, one_or_none}
use Rattle.jobs.proofs.machine_rows.count_machines.Goals as goal

pub returns : goal.returns
returns c = λ live. c.count.ensures [] ∙ span_long (entry_at 6664 24 c.args.home.now []) (machine_at c.args.home.now live) (λ k. one_or_none _ _ _) 0 (machine_rows_lem c.args.home.now)
