use Rattle.std.proofs.Common.{List, ℕ, not, sym, ap, ◌∙◌}
use Rattle.model.specs.Lists.{same}
use Rattle.model.specs.State.{is_job}
use Rattle.jobs.specs.Tables.{job_from_lem, name_from_lem}
use Rattle.jobs.specs.Values.{name_of}
use Rattle.jobs.proofs.Ranges.{passes, passes_none}
use Rattle.jobs.proofs.naming.JobRow.is_named.Goals as goal

pub returns-then-not-is_hole : goal.returns-then-not-is_hole
returns-then-not-is_hole c =
    let n = name_of c.args.name.now in
    passes (is_job n) _ _ (job_from_lem c.args.self.words.now) (sym c.is_hole.ensures ∙ c.if-not-is_hole.true) (c.is_named.ensures ∙ ap (λ (k : List ℕ). same n (name_from_lem k)) c.kind.ensures)

pub returns-else-not-is_hole : goal.returns-else-not-is_hole
returns-else-not-is_hole c = ap not c.if-not-is_hole.false ∙ passes_none (is_job (name_of c.args.name.now)) _ (job_from_lem c.args.self.words.now) (sym c.is_hole.ensures ∙ c.if-not-is_hole.false)
