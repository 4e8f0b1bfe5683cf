use Rattle.std.proofs.Common.{not, eqb, sym, ap, ◌∙◌}
use Rattle.model.specs.State.{is_machine}
use Rattle.jobs.specs.Tables.{machine_from}
use Rattle.jobs.proofs.Ranges.{passes, passes_none}
use Rattle.jobs.proofs.machine_row.MachineRow.is_numbered.Goals as goal

pub returns-then-not-is_hole : goal.returns-then-not-is_hole
returns-then-not-is_hole c = passes (is_machine c.args.num.0) _ _ (machine_from c.args.self.words.now 0) (sym c.is_hole.ensures ∙ c.if-not-is_hole.true) (c.eq.ensures ∙ ap (eqb c.args.num.0) c.num.ensures)

pub returns-else-not-is_hole : goal.returns-else-not-is_hole
returns-else-not-is_hole c = ap not c.if-not-is_hole.false ∙ passes_none (is_machine c.args.num.0) _ (machine_from c.args.self.words.now 0) (sym c.is_hole.ensures ∙ c.if-not-is_hole.false)
