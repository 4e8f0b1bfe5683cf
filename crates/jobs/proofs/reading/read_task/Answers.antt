use Rattle.std.proofs.Common.{ℕ, ◌+◌, List, sym, ap, ◌∙◌}
use Rattle.jobs.specs.Rows.{at}
use Rattle.jobs.specs.Tables.{task_from, task_slot, version_from_lem, spec_from_lem}
use Rattle.jobs.proofs.Ranges.{slot_gone, slot_there}
use Rattle.jobs.proofs.reading.read_task.Goals as goal

pub returns-then-is_hole : goal.returns-then-is_hole
returns-then-is_hole c =
    let v = at c.args.live.now (256 + c.args.i) in
    ap (λ (x : List ℕ). task_slot x v) (sym c.row-row.ensures) ∙ slot_gone _ (task_from c.row-row.result.words.now v) (sym c.is_hole.ensures ∙ c.if-is_hole.true)

pub returns : goal.returns
returns c =
    let r = c.row-row.result.words.now in
    let v = at c.args.live.now (256 + c.args.i) in
    let k = c.kind-kind.ensures in
    record {
      it = task_from r v;
      only = ap (λ (x : List ℕ). task_slot x v) (sym c.row-row.ensures) ∙ slot_there _ (task_from r v) (sym c.is_hole.ensures ∙ c.if-is_hole.false);
      id = sym c.id.ensures;
      version = ap version_from_lem (sym k) ∙ sym c.version.ensures;
      spec = ap spec_from_lem (sym k) ∙ sym c.spec.ensures;
      phase = sym c.phase.ensures.phase;
      machine = sym c.phase.ensures.machine;
      life = sym c.phase.ensures.life;
    }
