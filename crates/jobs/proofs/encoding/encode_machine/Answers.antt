use Rattle.std.proofs.Common.{◌≡◌, refl, sym, ◌∙◌, arith, rules, tests}
use Rattle.std.proofs.lemmas.List.{append-nil, ext_get_or}
use Rattle.jobs.proofs.Back.{SizedMachine, machine_back}
use Rattle.jobs.proofs.encoding.encode_machine.Goals as goal

pub returns : goal.returns
returns c =
    let m = c.args.m in
    let s : SizedMachine m = search rules in
    let a : c.map.result ≡ m.tags = ext_get_or 0 _ _ (c.map.ensures.items.long ∙ sym s.tags) (λ k h. let u = c.map.ensures.items.at k 0 0 (omega (arith, c.map.ensures.items.long)) in let v = u.2 in search (rules, tests)) in
    rw (c.copy_from_slice.ensures.after, c.copy_from_slice-2.ensures.after ∙ a, c.from.ensures, c.from-2.ensures, c.from-3.ensures, c.from-4.ensures, append-nil) (record { there = refl; back = machine_back m s })
