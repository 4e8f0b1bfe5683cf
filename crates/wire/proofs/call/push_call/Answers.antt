use Rattle.std.proofs.Common.{ap, sym, ◌∙◌}
use Rattle.calls.specs.Meaning.{call_of}
use Rattle.wire.specs.Short.{is_short_lem}
use Rattle.wire.proofs.Short.{few_set, few_added, few_reported}
use Rattle.wire.proofs.call.push_call.Goals as goal

pub push_set-requires-clause-tags : goal.push_set-requires-clause-tags
push_set-requires-clause-tags c = few_set c.in-Set.wanted (ap (λ x. is_short_lem (call_of x)) (sym c.in-Set.is) ∙ c.requires)

pub push_added-requires : goal.push_added-requires
push_added-requires c = few_added c.in-Add.added (ap (λ x. is_short_lem (call_of x)) (sym c.in-Add.is) ∙ c.requires)

pub push_reported-requires : goal.push_reported-requires
push_reported-requires c = few_reported c.in-Report.reported (ap (λ x. is_short_lem (call_of x)) (sym c.in-Report.is) ∙ c.requires)
