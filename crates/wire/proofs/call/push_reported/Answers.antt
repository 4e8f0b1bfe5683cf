use Rattle.std.proofs.Common.{◌/◌, length, arith}
use Rattle.calls.specs.Meaning.{seens_of}
use Rattle.calls.proofs.News.{seens_length}
use Rattle.wire.proofs.Pushing.{report_pushed, reported_fits}
use Rattle.wire.proofs.call.push_reported.Goals as goal

pub returns : goal.returns
returns c =
    let r = c.args.reported.now in let t = r.tasks.now in
    record {
      bytes = report_pushed _ _ _ _ _ _ _ _ r.machine.0 r.life.0 r.number.0 (length t / 9) _ c.in_ok-push.ensures.items c.in_ok-push_number.ensures.ok c.in_ok-push_number-2.ensures.ok c.in_ok-push_number-3.ensures.ok c.in_ok-push_number-4.ensures.ok c.in_ok-push_tasks.ensures.bytes (seens_length (length t / 9) t);
      fits = reported_fits r.machine.0 r.life.0 r.number.0 (seens_of t) (omega arith) (omega arith) (omega arith) c.in_ok-push_tasks.ensures.fits;
    }
