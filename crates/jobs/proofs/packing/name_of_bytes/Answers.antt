use Rattle.std.proofs.Common.{◌≡◌, ℕ, ◌*◌, ◌<◌, length, refl, sym, ap, ◌∙◌, arith, rules, tests}
use Rattle.std.proofs.lemmas.List.{ext_get_or}
use Rattle.jobs.specs.Rows.{at}
use Rattle.jobs.specs.Tables.{bytes_of}
use Rattle.jobs.specs.Values.{packed}
use Rattle.jobs.proofs.Packs.{name_back, word_at, words}
use Rattle.jobs.proofs.packing.name_of_bytes.Goals as goal

pub returns : goal.returns
returns c =
    let bs = c.args.bytes.now in
    let low : (k : ℕ) → at bs k < 256 = λ k. (let f = c.type_inv.bytes k in omega arith) in
    let e : c.from_fn.result ≡ words bs low = ext_get_or 0 _ _ c.from_fn.ensures.items.long (λ k h. let l : k < 8 = omega (arith, c.from_fn.ensures.items.long) in let u = c.from_fn.ensures.items.at k 0 l in let v = u.2 in let w : at c.from_fn.result k ≡ packed bs (8 * k) = search (rules, tests) in w ∙ sym (word_at bs low k l)) in
    ap (bytes_of (length bs)) e ∙ name_back bs low (length bs) refl (omega arith)
