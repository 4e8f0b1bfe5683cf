use Rattle.std.proofs.Common.{sym}
use Rattle.std.proofs.lemmas.Result.{err_from_is_err_and}
use Rattle.jobs.specs.Values.{job_of}
use Rattle.calls.proofs.Sets.{add_full, adds}
use Rattle.calls.proofs.setting.set_new.Goals as goal

pub returns-in_err-add_job : goal.returns-in_err-add_job
returns-in_err-add_job c =
    let p = err_from_is_err_and c.from_residual.result c.from_residual.ensures.1 in
    rw (p.1, p.2) (record { acts = add_full (job_of c.args.job) c.args.home.now (sym c.in_err-add_job.ensures.answer); same = c.in_err-add_job.ensures.refused })

pub returns : goal.returns
returns c = adds (job_of c.args.job) c.args.home.now (sym c.in_ok-add_job.ensures.answer) c.requires.version c.add_job.new.home c.in_ok-add_job.ensures.added
