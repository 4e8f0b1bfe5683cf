use Rattle.std.proofs.Common.{◌≡◌, ℕ, List, length, sym, ap, ◌∙◌, subst, rules}
use Rattle.model.specs.Lines.{core_kind, herd_on_lines}
use Rattle.model.specs.Memory.{Memory}
use Rattle.device.specs.Follows.{Ended}
use Rattle.device.specs.Halves.{wakening}
use Rattle.serving.proofs.Telling.{runs_woken, awakes}
use Rattle.calls.specs.Sound.{sound_words}
use Rattle.serving.specs.Herd.{Held, herd_code, Tells, Awake}
use Rattle.serving.proofs.Standing.{herd_right}
use Rattle.serving.proofs.Waking.{cleared, mended_sound, wakes, stored_sound}
use Rattle.serving.proofs.wake.wake.Goals as goal

pub invariant_of-mind : goal.invariant_of-mind
invariant_of-mind g c = record { sound = ap sound_words c.clear_unsound-sound.ensures.words ∙ mended_sound c.wake.new.home }

pub returns : goal.returns
returns g c =
    let m : Memory = g.K.Kept.word c.args.words.now in
    let home : List ℕ = c.clear_unsound-sound.new.home in
    let live : List ℕ = c.clear.new.words in
    let long : length live ≡ 2304 = search rules in
    let size : length c.args.mind.now.home ≡ 68104 = search rules in
    let read : Ended (wakening 68104) m c.wake.new.home m = subst (λ (n : ℕ). Ended (wakening n) m c.wake.new.home m) size c.wake.ensures.follows in
    let x : Held = record { home = home; live = live; time = 0 } in
    let e : Ended herd_code.wakes m x m = wakes c.wake.new.home home live m read c.clear_unsound-sound.ensures.words (cleared 2304 live long c.clear.ensures) in
    record {
      follows = e;
      runs = λ es r. runs_woken herd_code m x m e es r;
      tells = λ s t. awakes herd_code (herd_on_lines core_kind) Tells Awake herd_right m x m e s t;
      sound = λ s t. c.clear_unsound-sound.ensures.sound ∙ stored_sound m s c.wake.new.home t (λ h l. c.wake.ensures.whole h (l ∙ sym size));
    }
