use Rattle.std.proofs.Common.{arith, rules}
use Rattle.settling.proofs.Sweeps.{stepped_none, stepped_more, stepped_all}
use Rattle.settling.proofs.sweeping.step_jobs.Goals as goal

pub loop-j-init : goal.loop-j-init
loop-j-init c = stepped_none c.args.home.now c.args.live.now c.args.time c.requires.numbered

pub step_job-requires : goal.step_job-requires
step_job-requires c = record { words = search rules; flags = search rules; within = omega arith; numbered = c.loop-j.invariant.numbered }

pub loop-j-preserved : goal.loop-j-preserved
loop-j-preserved c = stepped_more c.args.home.now c.args.live.now c.args.time c.loop-j.j c.loop-j.home c.loop-j.live c.step_job.new.home c.step_job.new.live c.requires.words (omega arith) c.loop-j.invariant c.step_job.ensures

pub returns : goal.returns
returns c = stepped_all c.args.home.now c.args.live.now c.args.time c.loop-j.j c.loop-j.home c.loop-j.live (omega arith) c.loop-j.invariant
