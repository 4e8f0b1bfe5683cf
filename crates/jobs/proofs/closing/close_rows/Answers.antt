use Rattle.std.proofs.Common.{sym, ◌∙◌, arith}
use Rattle.std.proofs.lemmas.Nat.{mul-le}
use Rattle.jobs.proofs.Words.{row_before}
use Rattle.jobs.proofs.HoleLaws.{closing_none, closing_hole, closing_move, closing_all, first_word}
use Rattle.jobs.proofs.closing.close_rows.Goals as goal
use Rattle.jobs.proofs.closing.close_rows.Goals.{then-home-base-ne0, else-home-base-ne0}

pub loop-i-init : goal.loop-i-init
loop-i-init c = closing_none c.args.base c.args.width c.args.n c.args.home.now c.args.flags.now

pub overflow_add-base : goal.overflow_add-base
overflow_add-base c = let u = row_before c.args.width c.loop-i.i c.args.n c.loop-i-test.true in omega arith

pub offset_bounds-home-base : goal.offset_bounds-home-base
offset_bounds-home-base c = let u = row_before c.args.width c.loop-i.i c.args.n c.loop-i-test.true in omega arith

pub bounds-home-base : goal.bounds-home-base
bounds-home-base c = let u = row_before c.args.width c.loop-i.i c.args.n c.loop-i-test.true in omega arith

pub overflow_add-base-then-home-base-ne0 : goal.overflow_add-base-then-home-base-ne0
overflow_add-base-then-home-base-ne0 c = let u = row_before c.args.width c.loop-i.i c.args.n c.loop-i-test.true in omega arith

pub overflow_mul-to : goal.overflow_mul-to
overflow_mul-to c =
    let u = row_before c.args.width c.loop-i.i c.args.n c.loop-i-test.true in
    let v = mul-le c.loop-i.to c.args.width c.loop-i.i c.args.width c.loop-i.invariant.low (omega arith) in omega arith

pub overflow_add-base-then-home-base-ne0-2 : goal.overflow_add-base-then-home-base-ne0-2
overflow_add-base-then-home-base-ne0-2 c =
    let u = row_before c.args.width c.loop-i.i c.args.n c.loop-i-test.true in
    let v = mul-le c.loop-i.to c.args.width c.loop-i.i c.args.width c.loop-i.invariant.low (omega arith) in omega arith

pub move_words-requires : goal.move_words-requires
move_words-requires c =
    let u = row_before c.args.width c.loop-i.i c.args.n c.loop-i-test.true in
    let v = mul-le c.loop-i.to c.args.width c.loop-i.i c.args.width c.loop-i.invariant.low (omega arith) in record { down = omega arith; within = omega arith }

pub loop-i-preserved : goal.loop-i-preserved
loop-i-preserved c =
    let h0 = c.args.home.now in
    let f0 = c.args.flags.now in
    let f = first_word c.args.base c.args.width c.loop-i.home c.loop-i.i c.requires.wide in
    elim c.if-home-base-ne0.branch [
      | then-home-base-ne0 w ↦ rw (w.to-is, w.home-is, w.flags-is) (closing_move c.args.base c.args.width c.args.n h0 f0 c.loop-i.i c.loop-i.to c.loop-i.home c.loop-i.flags c.loop-i-test.true c.loop-i.invariant w.move_words.new.home (omega arith) (omega arith) (λ e. w.if-home-base-ne0.true (sym f ∙ e)) w.move_words.ensures)
      | else-home-base-ne0 w ↦ rw (w.to-is, w.home-is, w.flags-is) (closing_hole c.args.base c.args.width c.args.n h0 f0 c.loop-i.i c.loop-i.to c.loop-i.home c.loop-i.flags c.loop-i-test.true c.loop-i.invariant (f ∙ w.if-home-base-ne0.false))
    ]

pub returns : goal.returns
returns c = closing_all c.args.base c.args.width c.args.n c.args.home.now c.args.flags.now c.loop-i.i c.loop-i.to c.loop-i.home c.loop-i.flags (omega arith) c.loop-i.invariant
