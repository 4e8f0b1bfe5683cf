use Rattle.std.proofs.Common.{◌≡◌, arith, rules}
use Rattle.jobs.proofs.HoleLaws.{puts_words}
use Rattle.jobs.proofs.closing.put_words.Goals as goal

pub returns : goal.returns
returns c =
    let e : c.copy_from_slice.new.self ≡ c.args.words.now = search rules in
    rw e (puts_words c.args.start _ c.args.home.now c.args.words.now (omega arith) c.requires)
