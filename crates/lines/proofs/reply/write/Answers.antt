use Rattle.std.proofs.Common.{refl, arith, rules}
use Rattle.model.specs.Wire.{answer_bytes}
use Rattle.model.specs.Lines.{framed}
use Rattle.jobs.specs.Tables.{state_of}
use Rattle.calls.specs.Answers.{answer_of}
use Rattle.lines.specs.Puts.{Puts}
use Rattle.lines.proofs.Writing.{puts_framed}
use Rattle.lines.proofs.reply.write.Goals as goal

pub overflow_sub-end : goal.overflow_sub-end
overflow_sub-end c = omega (arith, (c.put_answer-end.ensures.bytes 0).end)

pub returns-clause-bytes : goal.returns-clause-bytes
returns-clause-bytes c = λ time.
    let f : Puts (framed c.args.tag (answer_bytes (answer_of c.args.answer.now (state_of c.args.home.now c.args.live.now time)))) c.args.reply.now.bytes c.put_number-2.new.out 0 c.put_answer-end.result =
    puts_framed c.args.tag _ (search rules) (c.put_answer-end.ensures.bytes time) c.put_number.ensures.bytes c.put_number.ensures.end c.put_number-2.ensures.bytes c.put_number-2.ensures.end refl in
    f.bytes
