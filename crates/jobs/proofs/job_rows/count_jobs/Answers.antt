use Rattle.std.proofs.Common.{[], ◌∙◌}
use Rattle.jobs.specs.Rows.{entry_at}
use Rattle.jobs.specs.Tables.{job_at, job_rows_lem}
use Rattle.jobs.proofs.Ranges.{span_long, one_or_none}
use Rattle.jobs.proofs.job_rows.count_jobs.Goals as goal

pub returns : goal.returns
returns c = c.count.ensures [] ∙ span_long (entry_at 8 26 c.args.home.now []) (job_at c.args.home.now) (λ k. one_or_none _ _ _) 0 (job_rows_lem c.args.home.now)
