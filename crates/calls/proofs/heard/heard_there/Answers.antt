use Rattle.std.proofs.Common.{ℕ, sym, ap, ◌∙◌}
use Rattle.model.specs.Calls.{seen_as}
use Rattle.calls.specs.Meaning.{seens_of}
use Rattle.calls.proofs.Hearing.{told_same, told_other, hear_other, hear_late, hear_gone, hear_ends, hear_told, hear_marked}
use Rattle.calls.proofs.heard.heard_there.Goals as goal

pub returns-then-ne : goal.returns-then-ne
returns-then-ne c = λ t w n i m l. hear_other _ _ _ t w (λ e. told_other _ _ _ c.ne.ensures c.if-ne.true (e ∙ m))

pub returns-then-ne-2 : goal.returns-then-ne-2
returns-then-ne-2 c = λ t w n i m l. hear_late _ _ _ t w (told_same _ _ _ c.ne.ensures c.if-ne.false ∙ sym m) (λ e. told_other _ _ _ c.ne-2.ensures c.if-ne-2.true (e ∙ l))

pub returns-in-None : goal.returns-in-None
returns-in-None c = λ t w n i m l. hear_gone _ _ _ t w (told_same _ _ _ c.ne.ensures c.if-ne.false ∙ sym m) (told_same _ _ _ c.ne-2.ensures c.if-ne-2.false ∙ sym l) (n ∙ c.if-ending.true) (ap (λ (x : ℕ). seen_as x (seens_of c.args.report.tasks.now)) i ∙ c.in-None.ensures)

pub returns-in-None-2 : goal.returns-in-None-2
returns-in-None-2 c = λ t w n i m l. hear_told _ _ _ t w (told_same _ _ _ c.ne.ensures c.if-ne.false ∙ sym m) (told_same _ _ _ c.ne-2.ensures c.if-ne-2.false ∙ sym l) (n ∙ c.if-ending.false) (ap (λ (x : ℕ). seen_as x (seens_of c.args.report.tasks.now)) i ∙ c.in-None.ensures)

pub returns-in-Some : goal.returns-in-Some
returns-in-Some c = λ t w n i m l.
    let x = c.in-Some.ensures in hear_ends _ _ _ t w (told_same _ _ _ c.ne.ensures c.if-ne.false ∙ sym m) (told_same _ _ _ c.ne-2.ensures c.if-ne-2.false ∙ sym l) x.0 (n ∙ c.if-ending-2.true) (ap (λ (y : ℕ). seen_as y (seens_of c.args.report.tasks.now)) i ∙ x.1)

pub returns-in-Some-2 : goal.returns-in-Some-2
returns-in-Some-2 c = λ t w n i m l.
    let x = c.in-Some.ensures in hear_marked _ _ _ t w (told_same _ _ _ c.ne.ensures c.if-ne.false ∙ sym m) (told_same _ _ _ c.ne-2.ensures c.if-ne-2.false ∙ sym l) x.0 _ (n ∙ c.if-ending-2.false) (ap (λ (y : ℕ). seen_as y (seens_of c.args.report.tasks.now)) i ∙ x.1) x.2
