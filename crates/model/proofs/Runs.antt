-- Of every run of right code: what happened may happen, and only words that there are were used.
-- Assumes nothing.
use Rattle.std.proofs.Common.{◌≡◌, ◌⊎◌, List, ◌∷◌, sym, subst, inl, inr}
use Rattle.model.specs.Memory.{Memory, Fits, Code, Meant, Right, Happens, cut_in, Stand, asleep, awake, Run, MayHappen, RightIsRight}

module _ (C R : Type 0) (j : Meant C R) (e : Code C R) (r : Right j e) (twice : (s : j.State) → j.dark (j.dark s) ≡ j.dark s) (first : j.dark j.start ≡ j.start) where
  abbrev Holds : List (Happens C R) → Stand e.Mind → Type 0
  Holds es (asleep m) = (s : j.State) × MayHappen j es s × r.Tells m s × (j.dark s ≡ s)
  Holds es (awake x m) = (s : j.State) × MayHappen j es s × r.Awake x m s

  was_cut : {es : List (Happens C R)} {c : C} {s : j.State} {n : Memory} → MayHappen j es s → r.Tells n (j.dark s) ⊎ ((a : R) × (t : j.State) × j.May c s a t × r.Tells n (j.dark t)) → Holds (cut_in c ∷ es) (asleep n)
  was_cut {s = s} h (inl t) = (j.dark s, MayHappen.wasnt h, t, twice s)
  was_cut h (inr w) = (j.dark w.1, MayHappen.was h w.2, w.3, twice w.1)

  holds : {es : List (Happens C R)} {x : Stand e.Mind} → Run e es x → Holds es x
  holds Run.blank = (j.start, MayHappen.nothing, r.at_first_lem, first)
  holds (Run.wakes {m = m} q) = let h = holds q in (h.0, h.1, (r.wakes m h.0 h.2).1)
  holds (Run.is_cut_waking {m = m} {n = n} q w) =
      let h = holds q in (j.dark h.0, MayHappen.got_dark h.1, subst (λ (s : j.State). r.Tells n s) (sym h.3) (r.cut_waking m n h.0 h.2 w), twice h.0)
  holds (Run.does {x = x} {m = m} c q) =
      let h = holds q in let a = (r.answers x m h.0 c h.2).1 in (a.0, MayHappen.is_answered h.1 a.1, a.2)
  holds (Run.is_cut {x = x} {m = m} {n = n} c q w) = let h = holds q in was_cut h.1 (r.cut_answering x m n h.0 c h.2 w)
  holds (Run.darkens {x = x} {m = m} q) = let h = holds q in (j.dark h.0, MayHappen.got_dark h.1, r.goes_dark x m h.0 h.2, twice h.0)

pub right_is_right_lem : RightIsRight
right_is_right_lem C R j e r twice first es x q = pick x (holds C R j e r twice first q)
  where
    pick : (y : Stand e.Mind) → Holds C R j e r twice first es y → (s : j.State) × MayHappen j es s
    pick (asleep m) h = (h.0, h.1)
    pick (awake z m) h = (h.0, h.1)

-- wherever a run has come, the next call uses only words that there are
pub right_fits : (C R : Type 0) (j : Meant C R) (e : Code C R) → Right j e → ((s : j.State) → j.dark (j.dark s) ≡ j.dark s) → (j.dark j.start ≡ j.start) → (es : List (Happens C R)) (x : e.Mind) (m : Memory) (c : C) → Run e es (awake x m) → Fits (e.does c x) m
right_fits C R j e r twice first es x m c q = let h = holds C R j e r twice first q in (r.answers x m h.0 c h.2).0
