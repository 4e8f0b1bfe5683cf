use Rattle.std.proofs.Common.{sym, ap, ◌∙◌, arith}
use Rattle.model.specs.Answers.{read_answer_lem}
use Rattle.octets.proofs.Numbers.{bytes_under}
use Rattle.wire.specs.Replies.{reply_of}
use Rattle.wire.proofs.Framing.{answer_again, tag_at}
use Rattle.wire.proofs.read.read_reply.Goals as goal

pub returns : goal.returns
returns c =
    let line = c.args.line.now in let a = reply_of c.in_ok-reply.reply in let e = ap read_answer_lem (sym c.unframed.ensures) ∙ c.in_ok-reply.ensures in let t = c.number_at.ensures ∙ tag_at line a e in
    record { says = e; tag = t; again = answer_again line a _ (bytes_under line (λ k. let h = c.type_inv.line k in omega arith)) t e }
