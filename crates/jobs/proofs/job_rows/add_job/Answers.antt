use Rattle.std.proofs.Common.{length, sym, arith}
use Rattle.std.proofs.lemmas.Bool.{lt-ltb}
use Rattle.jobs.specs.Tables.{jobs_of}
use Rattle.jobs.specs.Values.{job_of}
use Rattle.jobs.proofs.JobLaws.{jobs_then}
use Rattle.jobs.proofs.job_rows.add_job.Goals as goal

pub returns : goal.returns
returns c = record {
  answer = sym (lt-ltb (length (jobs_of c.args.home.now)) 256 (omega arith));
  refused = tt;
  added = jobs_then c.args.home.now c.make_job_room.new.home c.push_job.new.home (job_of c.args.job) c.make_job_room.ensures.now c.push_job.ensures;
}
