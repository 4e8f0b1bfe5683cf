use Rattle.std.proofs.Common.{◌≡◌, ◌+◌, ◌-◌, ap, ◌∙◌, arith}
use Rattle.jobs.specs.Rows.{at}
use Rattle.jobs.proofs.HoleLaws.{moved}
use Rattle.jobs.proofs.closing.move_words.Goals as goal

pub returns : goal.returns
returns c =
    let b = c.copy_within.ensures.by_index in
    moved c.args.home.now c.args.from c.args.to c.args.n c.copy_within.new.self c.requires.down c.requires.within
    (λ j h. let e : c.args.from + (c.args.to + j - c.args.to) ≡ c.args.from + j = omega arith in b.0 (c.args.to + j) 0 (omega arith) (omega arith) ∙ ap (at c.args.home.now) e)
    (record { long = c.copy_within.ensures.len; below = λ k h. b.1 k 0 h; above = λ k h. b.2 k 0 (omega arith) })
