-- What a report makes of one task, case by case.
-- Assumes nothing.
use Rattle.std.proofs.Common.{◌≡◌, ℕ, Bool, true, false, cond, not, ◌&&◌, eqb, List, [], ◌∷◌, ◌++◌, sym, refl, ◌∙◌, inl, inr, append_assoc}
use Rattle.std.proofs.lemmas.Bool.{eq-eqb, ne_eqb, eqb-true, eqb-false, not-true, not-false, true≢false, cases_Bool}
use Rattle.model.specs.State.{Task, Phase, Waiting, Told, Ready, Ending, is_waiting, is_ending}
use Rattle.model.specs.Calls.{Seen, seen_as, heard_of_lem, heard_all}
use Rattle.jobs.specs.Changes.{mark_each, marked_phase}
use Rattle.calls.proofs.Sweep.{Each}

-- what a test of two numbers told
pub told_same : (a b : ℕ) (r : Bool) → r ≡ not (eqb a b) → r ≡ false → a ≡ b
told_same a b r e f = eqb-true a b (not-false _ (sym e ∙ f))

pub told_other : (a b : ℕ) (r : Bool) → r ≡ not (eqb a b) → r ≡ true → a ≡ b → ⊥
told_other a b r e t = eqb-false a b (not-true _ (sym e ∙ t))

-- a task that waits is on no machine
pub hear_waits : (k l : ℕ) (xs : List Seen) (t : Task) → t.phase ≡ Waiting → heard_all k l xs (t ∷ []) ≡ t ∷ []
unfolding heard_all
hear_waits k l xs t e = rw e

-- a task that is told or ready is marked
marks : (b : Bool) (p : Phase) → is_waiting p ≡ false → is_ending p ≡ false → cond b Ready Told ≡ marked_phase b p
marks b Waiting w n = absurd (true≢false w)
marks b Told w n = refl
marks b Ready w n = refl
marks b Ending w n = absurd (true≢false n)

module _ (k l : ℕ) (xs : List Seen) (t : Task) (w : is_waiting t.phase ≡ false) where
  pub hear_other : (k ≡ t.machine → ⊥) → heard_all k l xs (t ∷ []) ≡ t ∷ []
  unfolding heard_all
  hear_other f = rw (w, ne_eqb k t.machine f)

  pub hear_late : k ≡ t.machine → (l ≡ t.life → ⊥) → heard_all k l xs (t ∷ []) ≡ []
  unfolding heard_all
  hear_late e f = rw (w, eq-eqb k t.machine e, ne_eqb l t.life f)

  module _ (e : k ≡ t.machine) (f : l ≡ t.life) where
    pub hear_gone : is_ending t.phase ≡ true → seen_as t.id xs ≡ [] → heard_all k l xs (t ∷ []) ≡ []
    unfolding heard_all heard_of_lem
    hear_gone n s = rw (w, eq-eqb k t.machine e, eq-eqb l t.life f, s, n)

    pub hear_ends : (x : Seen) → is_ending t.phase ≡ true → seen_as t.id xs ≡ x ∷ [] → heard_all k l xs (t ∷ []) ≡ t ∷ []
    unfolding heard_all heard_of_lem
    hear_ends x n s = rw (w, eq-eqb k t.machine e, eq-eqb l t.life f, s, n)

    pub hear_told : is_ending t.phase ≡ false → seen_as t.id xs ≡ [] → heard_all k l xs (t ∷ []) ≡ mark_each false (t ∷ [])
    unfolding heard_all heard_of_lem
    hear_told n s = rw (w, eq-eqb k t.machine e, eq-eqb l t.life f, s, n, ← marks false t.phase w n)

    pub hear_marked : (x : Seen) (b : Bool) → is_ending t.phase ≡ false → seen_as t.id xs ≡ x ∷ [] → x.ready ≡ b → heard_all k l xs (t ∷ []) ≡ mark_each b (t ∷ [])
    unfolding heard_all heard_of_lem
    hear_marked x b n s r = rw (w, eq-eqb k t.machine e, eq-eqb l t.life f, s, n, r, ← marks b t.phase w n)

pub hear_none : (k l : ℕ) (xs : List Seen) → heard_all k l xs [] ≡ []
unfolding heard_all
hear_none k l xs = refl

-- a report goes task by task
hear_both : (k l : ℕ) (xs : List Seen) (ts us : List Task) → heard_all k l xs (ts ++ us) ≡ heard_all k l xs ts ++ heard_all k l xs us
unfolding heard_all
hear_both k l xs [] us = refl
hear_both k l xs (t ∷ ts) us =
    elim (cases_Bool (not (is_waiting t.phase) && eqb k t.machine)) [
      | inl a ↦ elim (cases_Bool (eqb l t.life)) [ inl b ↦ rw (a, b, hear_both k l xs ts us) (sym (append_assoc (heard_of_lem (seen_as t.id xs) t) (heard_all k l xs ts) (heard_all k l xs us))) | inr b ↦ rw (a, b, hear_both k l xs ts us) ]
      | inr a ↦ rw (a, hear_both k l xs ts us)
    ]

pub hear_each : (k l : ℕ) (xs : List Seen) → Each (heard_all k l xs)
hear_each k l xs = record { none = hear_none k l xs; both = hear_both k l xs }
