use Rattle.std.proofs.Common.{◌/◌, length}
use Rattle.std.proofs.lemmas.Bool.{lt-ltb}
use Rattle.calls.proofs.News.{seens_length}
use Rattle.calls.proofs.Ranges.{length_tags}
use Rattle.wire.proofs.call.is_short.Goals as goal

pub returns-then-wanted-lt256 : goal.returns-then-wanted-lt256
returns-then-wanted-lt256 c =
    let w = c.in-Set.wanted in let t = w.like.tags.now in
    rw (c.in-Set.is, lt-ltb (length w.name.now) 256 c.if-wanted-lt256.true, length_tags (length t / 4) t)

pub returns-in-Add : goal.returns-in-Add
returns-in-Add c = let t = c.in-Add.added.tags.now in rw (c.in-Add.is, length_tags (length t / 4) t)

pub returns-in-Report : goal.returns-in-Report
returns-in-Report c = let t = c.in-Report.reported.tasks.now in rw (c.in-Report.is, seens_length (length t / 9) t)
