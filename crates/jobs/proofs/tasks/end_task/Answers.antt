use Rattle.std.proofs.Common.{ℕ, List, sym, ap, ◌∙◌, inl, inr}
use Rattle.jobs.specs.Rows.{at}
use Rattle.jobs.specs.Values.{mark_of}
use Rattle.jobs.proofs.Marks.{waits, waits_not}
use Rattle.jobs.proofs.TaskRows.{ends, ends_gone}
use Rattle.jobs.proofs.tasks.end_task.Goals as goal

pub returns-in-Waiting : goal.returns-in-Waiting
returns-in-Waiting c = rw c.remove.ensures (ends_gone c.args.home.now c.args.i c.requires.words c.requires.within (waits _ (ap (λ (r : List ℕ). mark_of (at r 1)) (sym c.row.ensures) ∙ sym c.mark.ensures ∙ c.in-Waiting.is)))

pub returns-in-Placed : goal.returns-in-Placed
returns-in-Placed c =
    let m = ap (λ (r : List ℕ). mark_of (at r 1)) (sym c.row.ensures) ∙ sym c.mark.ensures in
    ends c.args.home.now c.args.i c.requires.words c.requires.within (waits_not _ (elim c.in-Placed.is [ inl e ↦ inl (m ∙ e) | inr e ↦ inr (m ∙ e) ]))
