use Rattle.std.proofs.Common.{◌≡◌, ℕ, ◌+◌, ◌*◌, List, ◌∷◌, length, take, drop, set, sym, ap, ◌∙◌, subst, arith, rules}
use Rattle.std.proofs.lemmas.List.{set_comm}
use Rattle.jobs.specs.Rows.{at, Only}
use Rattle.jobs.specs.Tables.{job_row_lem, task_row_lem}
use Rattle.jobs.proofs.MoveLaws.{adds, adds_frame}
use Rattle.jobs.proofs.moves.add_task.Goals as goal

pub returns : goal.returns
returns c =
    let home = c.args.home.now in
    let live = c.args.live.now in
    let n = c.push-n.result in
    let p = c.push-n.ensures.pushed in
    let row : c.fresh_row-words.result ≡ (at home 0 + 1) ∷ 0 ∷ 0 ∷ 0 ∷ take 23 (job_row_lem home c.args.j) = c.fresh_row-words.ensures ∙ ap (λ (k : List ℕ). (at home 0 + 1) ∷ 0 ∷ 0 ∷ 0 ∷ k) (c.kind.ensures ∙ ap (take 23) c.row.ensures) in
    let long : length c.fresh_row-words.result ≡ 27 = search rules in
    let here : task_row_lem p.mid n ≡ c.fresh_row-words.result = ap (λ (k : ℕ). take k (drop (12808 + n * 27) p.mid)) (sym long) ∙ p.put.here in
    let only : Only (12808 + n * 27) (12808 + n * 27 + 27) p.mid home = subst (λ (k : ℕ). Only (12808 + n * 27) (12808 + n * 27 + k) p.mid home) long p.put.only in
    let order : set (set p.mid 3 (n + 1)) 0 (at home 0 + 1) ≡ set (set p.mid 0 (at home 0 + 1)) 3 (n + 1) = set_comm p.mid 3 0 (n + 1) (at home 0 + 1) (λ e. omega arith) in
    rw (p.counted, order) (record {
      state = adds home live p.mid c.args.j n c.requires.words c.requires.flags (omega arith) c.push-n.ensures.row (here ∙ row) only;
      frame = adds_frame home live p.mid c.args.j n c.requires.words c.requires.flags (omega arith) c.push-n.ensures.row (here ∙ row) only;
    })
