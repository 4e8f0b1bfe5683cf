use Rattle.std.proofs.Common.{◌≡◌, length, rules}
use Rattle.serving.specs.Herd.{held_by}
use Rattle.serving.proofs.Standing.{herd_right, herd_runs}
use Rattle.serving.proofs.Answering.{serves}
use Rattle.serving.proofs.answer.answer.Goals as goal

pub returns : goal.returns
returns g c =
    let mind = c.respond-said.new.mind in
    let long : length mind.home ≡ 68104 = search rules in
    record {
      right = herd_right;
      runs = herd_runs;
      serves = λ bytes h u. serves bytes (held_by c.args.mind.now) (held_by mind) c.respond-said.result _ c.tag.result c.changes.result _ _ c.keep_home.result
          (c.respond-said.ensures bytes h u) (c.tag.ensures bytes h) (c.write.ensures.bytes mind.time) c.changes.ensures long mind.sound c.keep_home.ensures.small c.keep_home.ensures.follows;
    }
