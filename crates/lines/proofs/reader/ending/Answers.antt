use Rattle.std.proofs.Common.{◌≡◌, ℕ, [], None, Some, Option, MatchOption, IsSomeAnd, sym, ap, ◌∙◌, subst, rules, tests}
use Rattle.lines.specs.declared.stage.Stage.{Stage}
use Rattle.lines.specs.declared.stage.Stage.TheVariants.{Clock}
use Rattle.lines.specs.declared.reader.End.{End}
use Rattle.lines.specs.declared.reader.End.TheVariants.{Time}
use Rattle.lines.specs.Ends.{Ends}
use Rattle.lines.specs.Resume.{resume}
use Rattle.lines.proofs.Reading.{ends_rest, ends_high, ends_clock}
use Rattle.lines.proofs.reader.ending.Goals as goal

pub returns-in-High : goal.returns-in-High
returns-in-High c = λ bs. ap (λ (s : Stage). resume s bs []) c.in-High.is ∙ ends_high bs

-- a time, where there is one
timed : (P : ℕ → End → Type 0) → ((t : ℕ) (e : End) → P t e → e ≡ Time t) → (o : Option ℕ) (r : Option End) → MatchOption o (r ≡ None) (λ t. IsSomeAnd r (P t)) → Ends (Clock o) r
timed P f None r e = subst (Ends (Clock None)) (sym e) (ends_clock None)
timed P f (Some t) None e = absurd e
timed P f (Some t) (Some x) e = subst (λ (y : End). Ends (Clock (Some t)) (Some y)) (sym (f t x e)) (ends_clock (Some t))

pub returns-in-Clock : goal.returns-in-Clock
returns-in-Clock c = subst (λ (s : Stage). Ends s c.map.result) (sym c.in-Clock.is) (timed _ (λ t e k. search (rules, tests)) c.in-Clock.time c.map.result c.map.ensures.cases)

pub returns-in_default : goal.returns-in_default
returns-in_default c = ends_rest c.args.stage c.in_default.not-High c.in_default.not-Clock
