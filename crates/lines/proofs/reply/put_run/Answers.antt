use Rattle.jobs.specs.Tables.{tasks_of}
use Rattle.lines.proofs.Listings.{orders_list}
use Rattle.lines.proofs.Writing.{puts_then, puts_as}
use Rattle.lines.proofs.reply.put_run.Goals as goal

pub returns-clause-bytes : goal.returns-clause-bytes
returns-clause-bytes c =
    puts_then c.put_u8-end.ensures.bytes (puts_then c.put_number-end.ensures.bytes (puts_then c.put_number-end-2.ensures.bytes (puts_then c.put_number-end-3.ensures.bytes
    (puts_as (orders_list c.args.run.machine.0 (tasks_of c.args.home.now c.args.live.now)) c.put_list.ensures.bytes))))
