use Rattle.std.proofs.Common.{ℕ, ◌-◌, length, sym, ap, ◌∙◌, arith}
use Rattle.octets.proofs.Numbers.{bytes_of_eight, length_bytes_of}
use Rattle.wire.proofs.Pushing.{number_pushed}
use Rattle.wire.proofs.push.push_number.Goals as goal

pub returns-clause-ok : goal.returns-clause-ok
returns-clause-ok g c =
    let few = g.met.T.Number.few in let w = c.WIDTH.ensures in let e = c.to_be_bytes-all.ensures ∙ sym (bytes_of_eight c.widen.result) in let l = ap length e ∙ length_bytes_of 8 c.widen.result in
    number_pushed c.extend_from_slice.result g.T.Number.WIDTH (g.T.Number.num c.args.n) c.widen.result _ _ _ _ _ few (ap (λ (k : ℕ). 8 - k) w) (omega (arith, w, few, l)) c.widen.ensures e c.extend_from_slice.ensures.items
