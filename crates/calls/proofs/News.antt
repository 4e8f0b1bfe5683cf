-- A report is refused, or is news.
-- Assumes nothing.
use Rattle.std.proofs.Common.{◌≡◌, ℕ, zero, suc, ◌/◌, true, false, cond, [], ◌∷◌, length, drop, refl, ap, ◌∙◌}
use Rattle.model.specs.Lists.{find}
use Rattle.model.specs.State.{Machine, State, is_machine}
use Rattle.model.specs.Settle.{settle}
use Rattle.model.specs.Calls.{acts, reports, answers_report, heard, no}
use Rattle.model.specs.Wire.{Bytes, seens_in}
use Rattle.calls.specs.declared.call.Call.TheVariants.{Report}
use Rattle.calls.specs.declared.call.Reported.{Reported}
use Rattle.calls.specs.Meaning.{call_of, seens_of}
use Rattle.calls.specs.Reports.{out_of_range_lem, stale_for}

pub seens_length : (n : ℕ) (bs : Bytes) → length (seens_in n bs) ≡ n
unfolding seens_in
seens_length zero bs = refl
seens_length (suc n) bs = ap suc (seens_length n (drop 9 bs))

module _ (r : Reported) (s : State) where
  acts_is : acts (call_of (Report r)) s ≡ cond (out_of_range_lem r) (no 1 s) (reports r.machine.0 r.life.0 r.number.0 (seens_of r.tasks.now) (find (is_machine r.machine.0) s.machines) s)
  unfolding acts
  acts_is = rw (seens_length (length r.tasks.now / 9) r.tasks.now)

  pub bad : out_of_range_lem r ≡ true → acts (call_of (Report r)) s ≡ no 1 s
  bad e = acts_is ∙ rw e

  module _ (e : out_of_range_lem r ≡ false) where
    pub unknown : find (is_machine r.machine.0) s.machines ≡ [] → acts (call_of (Report r)) s ≡ no 2 s
    unfolding reports
    unknown f = acts_is ∙ rw (e, f)

    pub stale : (m : Machine) → find (is_machine r.machine.0) s.machines ≡ m ∷ [] → stale_for r m.life m.number ≡ true → acts (call_of (Report r)) s ≡ no 5 s
    unfolding reports
    stale m f g = acts_is ∙ rw (e, f, g)

    pub news : (m : Machine) → find (is_machine r.machine.0) s.machines ≡ m ∷ [] → stale_for r m.life m.number ≡ false →
        acts (call_of (Report r)) s ≡ answers_report r.machine.0 r.number.0 (settle (heard r.machine.0 r.life.0 r.number.0 (seens_of r.tasks.now) s))
    unfolding reports
    news m f g = acts_is ∙ rw (e, f, g)

pub same_stale : (r : Reported) (a b c d : ℕ) → a ≡ b → c ≡ d → stale_for r a c ≡ stale_for r b d
same_stale r a b c d e f = rw (e, f)
