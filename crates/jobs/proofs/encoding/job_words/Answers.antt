use Rattle.std.proofs.Common.{◌≡◌, length, refl, sym, ◌∙◌, arith, rules, tests}
use Rattle.std.proofs.lemmas.List.{ext_get_or}
use Rattle.jobs.proofs.Back.{byte_cond}
use Rattle.jobs.proofs.Names.{eight}
use Rattle.jobs.proofs.encoding.job_words.Goals as goal

pub returns : goal.returns
returns c =
    let ts = c.args.job.spec.tags in
    let l : length ts ≡ 8 = search rules in
    let a : c.map.result ≡ ts = ext_get_or 0 _ _ (c.map.ensures.items.long ∙ sym l) (λ k h. let u = c.map.ensures.items.at k 0 0 (omega (arith, c.map.ensures.items.long)) in let v = u.2 in search (rules, tests)) in
    let m : length c.args.job.name.words ≡ 8 = search rules in
    rw (c.copy_from_slice.ensures.after, c.copy_from_slice-2.ensures.after ∙ a ∙ sym (eight ts l), c.copy_from_slice-3.ensures.after ∙ sym (eight c.args.job.name.words m), c.version_word.ensures, c.from.ensures, c.from-2.ensures, c.from-3.ensures, c.from-4.ensures ∙ byte_cond c.args.job.spec.apart, c.from-5.ensures, c.from-6.ensures, c.from-7.ensures, c.from-8.ensures, c.from-9.ensures) refl
