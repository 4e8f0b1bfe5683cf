use Rattle.std.proofs.Common.{ap, ◌∙◌}
use Rattle.model.specs.Calls.{same_spec_lem}
use Rattle.jobs.specs.Values.{spec_of}
use Rattle.calls.proofs.Alike.{specs_alike}
use Rattle.calls.proofs.versions.same_spec.Goals as goal

pub returns : goal.returns
returns c =
    c.eq.ensures ∙ specs_alike c.args.spec.now c.spec-there.result _ _ c.tags.ensures c.tags-2.ensures ∙ ap (same_spec_lem (spec_of c.args.spec.now)) c.spec-there.ensures
