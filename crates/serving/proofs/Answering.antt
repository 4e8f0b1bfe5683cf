-- A line is served: what the code says, keeps and stores.
-- Assumes nothing.
use Rattle.std.proofs.Common.{◌≡◌, ℕ, ◌<◌, Bool, true, false, not, length, get_or, Result, sym, refl, ap, ◌∙◌}
use Rattle.model.specs.State.{State}
use Rattle.model.specs.Memory.{Memory}
use Rattle.model.specs.Wire as w
use Rattle.model.specs.Wire.{Bytes, answer_bytes}
use Rattle.model.specs.Lines.{core_kind, framed, tag_in, call_in, herd_on_lines}
use Rattle.jobs.specs.Layout.{home_words_lem}
use Rattle.calls.specs.declared.answer.Answer.{Answer}
use Rattle.calls.specs.declared.answer.Answer.TheVariants.{TurnedAway, Yes, Run, Lines}
use Rattle.calls.specs.Handled as acted
use Rattle.calls.specs.Answers.{answer_of}
use Rattle.calls.specs.Sound.{sound_words}
use Rattle.device.specs.Follows.{Follows}
use Rattle.device.specs.Service.{Said, keeping, finishing}
use Rattle.device.proofs.Calls.{call_budget}
use Rattle.serving.specs.Herd.{Held, state_in, is_quiet, SaysTo, saying, herd_code, Tells, Awake}
use Rattle.serving.specs.Responds.{Responds}
use Rattle.serving.specs.Serves.{Serves}
use Rattle.serving.proofs.Standing.{herd_right}
use Rattle.serving.proofs.Telling.{finished, goes_on, does_so}

-- the two ways of asking whether an answer is quiet
same_quiet : (a : Answer) (s : State) → is_quiet (answer_of a s) ≡ acted.is_quiet a
same_quiet (TurnedAway r) s = refl
same_quiet Yes s = refl
same_quiet (Run a) s = refl
same_quiet (Lines n) s = refl

module _ {E : Type 0} (line : Bytes) (x y : Held) (a : Answer) (reply : Bytes) (tag : ℕ) (changed : Bool) (m n : Memory) (r : Result (Unit {0}) E)
    (said : Responds (call_in line) x a y) (tagged : tag ≡ tag_in line) (written : reply ≡ framed tag (answer_bytes (answer_of a (state_in y)))) (is : changed ≡ not (acted.is_quiet a))
    (long : length y.home ≡ home_words_lem) (sound : sound_words y.home ≡ true) (small : (i : ℕ) → get_or y.home i 0 < 18446744073709551616)
    (follows : Follows (keeping changed y.home) m r (tt {0}) n) where
  abbrev out : Said Bytes Held
  out = record { reply = reply; mind = y }

  quiet_is : changed ≡ false → acted.is_quiet a ≡ true
  quiet_is e = pick (acted.is_quiet a) (sym is ∙ e)
    where
      pick : (b : Bool) → not b ≡ false → b ≡ true
      pick true h = refl
      pick false h = sym h

  says : SaysTo line x out changed
  says =
      record {
        reply = written ∙ ap (λ (t : ℕ). framed t (answer_bytes (answer_of a (state_in y)))) tagged ∙ ap (λ (b : w.Answer). framed (tag_in line) (answer_bytes b)) said.answer;
        state = said.state;
        whole = λ _. record { long = long; small = small; sound = sound };
        still = λ e. ap (λ (z : Held). z.home) (said.quiet (quiet_is e));
        quiet = λ q. is ∙ ap not (sym (same_quiet a (state_in y)) ∙ ap is_quiet said.answer ∙ q);
      }

  pub serves : Serves line x m r out n
  serves =
      let f = finished changed y.home out m n r follows in
      let way : herd_code.Does line x (finishing changed y.home out) = (out, changed, says, refl) in
      let b = call_budget (saying changed out) (tt {0}) x m in
      record {
        changed = changed;
        says = says;
        follows = f;
        runs = goes_on herd_code line x m r out n (finishing changed y.home out) way f;
        tells = does_so herd_code line x m r out n (finishing changed y.home out) way f (herd_on_lines core_kind) Tells Awake herd_right;
        silent = λ q. b.shows (says.quiet q);
        budget = b;
      }
