-- Waking: what the words become in memory.
-- Assumes nothing.
use Rattle.std.proofs.Common.{◌≡◌, ℕ, Bool, true, false, cond, List, length, get_or, sym, refl, ap, ◌∙◌, subst}
use Rattle.std.proofs.lemmas.List.{ext_get_or}
use Rattle.model.specs.Memory.{Memory}
use Rattle.model.specs.State.{State}
use Rattle.device.specs.Follows.{Ended}
use Rattle.device.specs.Halves.{wakening, Holds}
use Rattle.device.specs.Service.{zeros}
use Rattle.device.proofs.Allowed.{length_zeros, zeros_zero}
use Rattle.serving.proofs.Telling.{woken}
use Rattle.jobs.specs.Layout.{home_words_lem, live_words}
use Rattle.calls.specs.Sound.{sound_words}
use Rattle.calls.proofs.Soundness.{zeros_sound}
use Rattle.serving.specs.Herd.{Held, herd_server, herd_code, Tells}

-- words that are all 0
pub cleared : (n : ℕ) (ws : List ℕ) → length ws ≡ n → ((k : ℕ) → get_or ws k 0 ≡ 0) → ws ≡ zeros n
cleared n ws l z = ext_get_or 0 ws (zeros n) (l ∙ sym (length_zeros n)) (λ k h. z k ∙ sym (zeros_zero n k))

-- what is sound stays, and zeros are sound
pub mended_sound : (h : List ℕ) → sound_words (cond (sound_words h) h (zeros home_words_lem)) ≡ true
mended_sound h = pick (sound_words h) refl
  where
    pick : (b : Bool) → sound_words h ≡ b → sound_words (cond b h (zeros home_words_lem)) ≡ true
    pick true e = e
    pick false e = zeros_sound home_words_lem

pub wakes : (h home live : List ℕ) (m : Memory) → Ended (wakening home_words_lem) m h m → home ≡ cond (sound_words h) h (zeros home_words_lem) → live ≡ zeros live_words → Ended herd_code.wakes m (record { home = home; live = live; time = 0 }) m
wakes h home live m e p q = subst (λ (x : Held). Ended herd_code.wakes m x m) (λ i. record { home = sym p i; live = sym q i; time = 0 }) (woken herd_server h m e)

-- the words that a herd stored are sound
pub stored_sound : (m : Memory) (s : State) (h : List ℕ) → Tells m s → ((g : List ℕ) → length g ≡ home_words_lem → Holds g m → h ≡ g) → sound_words h ≡ true
stored_sound m s h t f = ap sound_words (f t.home t.sized t.held) ∙ ap sound_words (sym t.back) ∙ t.stands.0.sound
