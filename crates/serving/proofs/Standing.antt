-- The herd's code is right for the meaning of lines.
-- Assumes nothing.
use Rattle.std.proofs.Common.{◌≡◌, ℕ, true, List, sym, refl, ap, ◌∙◌, subst, arith}
use Rattle.std.proofs.lemmas.Bool.{cond-true}
use Rattle.model.specs.State.{blank}
use Rattle.model.specs.Calls.{core, down}
use Rattle.model.specs.Ways.{RightWays, WaysRunRight}
use Rattle.model.specs.Right.{Darkens}
use Rattle.model.specs.Lines.{core_kind, herd_on_lines, line_leaves, answer_line}
use Rattle.model.proofs.Rights.{dark_once_lem}
use Rattle.jobs.specs.Layout.{home_words_lem, live_words}
use Rattle.jobs.proofs.Darkness.{goes_dark_lem}
use Rattle.calls.specs.Sound.{sound_words}
use Rattle.calls.proofs.Soundness.{zeros_at, zeros_blank, zeros_sound}
use Rattle.device.specs.Service.{zeros}
use Rattle.device.specs.Server.{Allows}
use Rattle.device.proofs.Allowed.{right, runs, length_zeros, zeros_zero}
use Rattle.serving.specs.Herd.{Held, state_in, Whole, wakes_as, herd_server, herd_code, Stands, Tells, Awake}

-- sound words wake as themselves
pub wakes_sound : (h : List ℕ) → sound_words h ≡ true → wakes_as h ≡ record { home = h; live = zeros live_words; time = 0 }
wakes_sound h e = λ i. record { home = cond-true (sound_words h) h (zeros home_words_lem) e i; live = zeros live_words; time = 0 }

abbrev woken : List ℕ → Held
woken h = record { home = h; live = zeros live_words; time = 0 }

-- what wakes stands for what the dark leaves
dark_state : (x : Held) → state_in (woken x.home) ≡ down (state_in x)
dark_state x = goes_dark_lem x.live (zeros live_words) (zeros_at live_words) x.home x.time

whole_woken : (x : Held) → Whole x → Whole (woken x.home)
whole_woken x w = record { long = w.long; small = w.small; sound = w.sound }

first_whole : Whole (woken (zeros home_words_lem))
first_whole = record { long = length_zeros home_words_lem; small = λ i. let z = zeros_zero home_words_lem i in omega arith; sound = zeros_sound home_words_lem }

pub allows : Allows (herd_on_lines core_kind) herd_server Stands
allows =
    record {
      room = omega arith;
      sized = λ x s a. a.0.long;
      small = λ x s a. a.0.small;
      first = subst (λ (y : Held). Stands y blank) (sym (wakes_sound (zeros home_words_lem) (zeros_sound home_words_lem))) (first_whole, sym (zeros_blank home_words_lem (zeros live_words)));
      blank = ap (λ (y : Held). y.home) (wakes_sound (zeros home_words_lem) (zeros_sound home_words_lem));
      answers = λ c x y b s a says. (
        line_leaves core_kind c s,
        (says.reply ∙ ap (answer_line core_kind c) (sym a.1), refl),
        (says.whole a.0, ap (line_leaves core_kind c) a.1 ∙ sym says.state),
      );
      still = λ c x y s a says. says.still refl;
      wakes = λ x s a. subst (λ (y : Held). Stands y (down s)) (sym (wakes_sound x.home a.0.sound)) (whole_woken x a.0, ap down a.1 ∙ sym (dark_state x));
      again = λ x s a. ap (λ (y : Held). y.home) (wakes_sound x.home a.0.sound);
    }

pub herd_right : RightWays (herd_on_lines core_kind) herd_code Tells Awake
herd_right = right (herd_on_lines core_kind) herd_server Stands allows

-- and so is every run of it
herd_darkens : Darkens (herd_on_lines core_kind)
herd_darkens = let d = dark_once_lem core in record { twice = d.twice; first = d.first }

pub herd_runs : WaysRunRight (herd_on_lines core_kind) herd_code
herd_runs = runs (herd_on_lines core_kind) herd_server Stands allows herd_darkens
