use Rattle.std.proofs.Common.{length, sym, arith}
use Rattle.std.proofs.lemmas.Bool.{lt-ltb}
use Rattle.jobs.specs.Tables.{machines_of}
use Rattle.jobs.proofs.MachineLaws.{machines_then}
use Rattle.jobs.proofs.machine_rows.add_machine.Goals as goal

pub returns : goal.returns
returns c = record {
  answer = sym (lt-ltb (length (machines_of c.args.home.now c.args.live.now)) 256 (omega (arith, c.count_machines.ensures c.args.live.now)));
  refused = tt;
  added = machines_then c.args.home.now c.args.live.now c.make_machine_room.new.home c.make_machine_room.new.live c.push_machine.new.home c.push_machine.new.live _ c.make_machine_room.ensures.now c.push_machine.ensures;
}
