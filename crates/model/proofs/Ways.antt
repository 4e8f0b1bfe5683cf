-- Of every run of code that is free in how it does a call: what happened may happen; and each code that is one of its ways is right.
-- Assumes nothing.
use Rattle.std.proofs.Common.{◌≡◌, ◌⊎◌, List, ◌∷◌, sym, subst, inl, inr}
use Rattle.model.specs.Memory.{Memory, Meant, Happens, cut_in, Stand, asleep, awake, MayHappen}
use Rattle.model.specs.Ways.{Ways, RightWays, WaysRun, WaysRunRight, PicksRight}

module _ {C R : Type 0} (j : Meant C R) (e : Ways C R) (Tells : Memory → j.State → Type 0) (Awake : e.Mind → Memory → j.State → Type 0) (r : RightWays j e Tells Awake) where
  pub picks_right : PicksRight j e Tells Awake
  picks_right f ok =
      record {
        at_first_lem = r.at_first_lem;
        wakes = r.wakes;
        cut_waking = r.cut_waking;
        answers = λ x m s c a. r.answers x m s c (f c x) a (ok c x);
        cut_answering = λ x m n s c a h. r.cut_answering x m n s c (f c x) a (ok c x) h;
        goes_dark = r.goes_dark;
      }

  module _ (twice : (s : j.State) → j.dark (j.dark s) ≡ j.dark s) (first : j.dark j.start ≡ j.start) where
    abbrev Known : List (Happens C R) → Stand e.Mind → Type 0
    Known es (asleep m) = (s : j.State) × MayHappen j es s × Tells m s × (j.dark s ≡ s)
    Known es (awake x m) = (s : j.State) × MayHappen j es s × Awake x m s

    was_cut : {es : List (Happens C R)} {c : C} {s : j.State} {n : Memory} → MayHappen j es s → Tells n (j.dark s) ⊎ ((a : R) × (t : j.State) × j.May c s a t × Tells n (j.dark t)) → Known (cut_in c ∷ es) (asleep n)
    was_cut {s = s} h (inl t) = (j.dark s, MayHappen.wasnt h, t, twice s)
    was_cut h (inr w) = (j.dark w.1, MayHappen.was h w.2, w.3, twice w.1)

    known : {es : List (Happens C R)} {x : Stand e.Mind} → WaysRun e es x → Known es x
    known WaysRun.blank = (j.start, MayHappen.nothing, r.at_first_lem, first)
    known (WaysRun.wakes {m = m} q) = let h = known q in (h.0, h.1, (r.wakes m h.0 h.2).1)
    known (WaysRun.is_cut_waking {m = m} {n = n} q w) =
        let h = known q in (j.dark h.0, MayHappen.got_dark h.1, subst (λ (s : j.State). Tells n s) (sym h.3) (r.cut_waking m n h.0 h.2 w), twice h.0)
    known (WaysRun.does {x = x} {m = m} c d o q) = let h = known q in let a = (r.answers x m h.0 c d h.2 o).1 in (a.0, MayHappen.is_answered h.1 a.1, a.2)
    known (WaysRun.is_cut {x = x} {m = m} {n = n} c d o q w) = let h = known q in was_cut h.1 (r.cut_answering x m n h.0 c d h.2 o w)
    known (WaysRun.darkens {x = x} {m = m} q) = let h = known q in (j.dark h.0, MayHappen.got_dark h.1, r.goes_dark x m h.0 h.2, twice h.0)

    pub ways_run_right : WaysRunRight j e
    ways_run_right es x q = pick x (known q)
      where
        pick : (y : Stand e.Mind) → Known es y → (s : j.State) × MayHappen j es s
        pick (asleep m) h = (h.0, h.1)
        pick (awake z m) h = (h.0, h.1)
