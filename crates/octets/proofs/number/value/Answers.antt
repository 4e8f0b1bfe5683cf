use Rattle.std.proofs.Common.{length, ap, ◌∙◌, arith}
use Rattle.std.proofs.lemmas.Int.Digits.{number_more}
use Rattle.std.proofs.lemmas.List.{take_all}
use Rattle.model.specs.Wire.{value_of}
use Rattle.octets.proofs.Numbers.{value_room, value_lt, bytes_under}
use Rattle.octets.proofs.number.value.Goals as goal

pub overflow_mul-n : goal.overflow_mul-n
overflow_mul-n c = let r = value_room c.args.bytes.now c.loop-b.b-index c.loop-b-test.true c.requires (λ k. let h = c.type_inv.bytes k in omega arith) in omega (arith, r, c.loop-b.invariant)

pub overflow_add-n : goal.overflow_add-n
overflow_add-n c =
    let r = value_room c.args.bytes.now c.loop-b.b-index c.loop-b-test.true c.requires (λ k. let h = c.type_inv.bytes k in omega arith) in
    let b = c.type_inv.bytes c.loop-b.b-index in omega (arith, r, b, c.loop-b.invariant, c.from.ensures)

pub loop-b-preserved : goal.loop-b-preserved
loop-b-preserved c =
    let e = number_more 256 c.args.bytes.now c.loop-b.b-index c.loop-b-test.true in omega (arith, e, c.loop-b.invariant, c.from.ensures)

pub returns : goal.returns
returns c =
    let e = take_all c.loop-b.b-index c.args.bytes.now c.loop-b-test.false in let v = c.loop-b.invariant ∙ ap value_of e in
    record { value = v; bound = let h = value_lt c.args.bytes.now (length c.args.bytes.now) (omega arith) (bytes_under c.args.bytes.now (λ k. let b = c.type_inv.bytes k in omega arith)) in omega (arith, h, v) }
