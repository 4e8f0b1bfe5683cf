use Rattle.std.proofs.Common.{◌≡◌, length, sym, ◌∙◌, rules}
use Rattle.std.proofs.lemmas.Bool.{cond-false}
use Rattle.serving.proofs.Waking.{cleared}
use Rattle.serving.proofs.wake.clear_unsound.Goals as goal

pub returns-then-not-sound-clause-words : goal.returns-then-not-sound-clause-words
returns-then-not-sound-clause-words c =
    let long : length c.clear.new.words ≡ 68104 = search rules in
    cleared 68104 c.clear.new.words long c.clear.ensures ∙ sym (cond-false _ _ _ (sym c.is_sound-sound.ensures ∙ c.if-not-sound.true))
