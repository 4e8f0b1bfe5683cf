-- What a report does to tasks, as a pass.
-- Assumes nothing.
use Rattle.std.proofs.Common.{◌≡◌, ℕ, Bool, true, false, cond, not, eqb, ◌⊎◌, List, [], ◌∷◌, ◌++◌, refl, ap, inl, inr}
use Rattle.std.proofs.lemmas.Bool.{and_parts, not-true}
use Rattle.model.specs.State.{Phase, Told, Ready, Task, is_waiting, is_ending, on_machine, phased}
use Rattle.model.specs.Calls.{Seen, seen_as, heard_of_lem, heard_all}
use Rattle.model.proofs.Lists.{Pass, done, gone, goes}

-- what is on the machine and is gone: of another life, or to end and not heard of
abbrev pub HeardGone : ℕ → ℕ → List Seen → Task → Type 0
HeardGone k l xs x = (on_machine k x ≡ true) × ((eqb l x.life ≡ false) ⊎ ((is_ending x.phase ≡ true) × (seen_as x.id xs ≡ [])))

abbrev pub HeardAs : ℕ → ℕ → Task → Task → Type 0
HeardAs k l x y = ((on_machine k x ≡ false) × (y ≡ x)) ⊎ ((on_machine k x ≡ true) × (eqb l x.life ≡ true) × (p : Phase) × (is_waiting p ≡ false) × (y ≡ phased p x))

told : (b : Bool) → is_waiting (cond b Ready Told) ≡ false
told true = refl
told false = refl

-- what a report does to tasks is a pass
pub heard_pass : (k l : ℕ) (xs : List Seen) (ts : List Task) → Pass (HeardGone k l xs) (HeardAs k l) ts (heard_all k l xs ts)
unfolding heard_all heard_of_lem
heard_pass k l xs [] = done
heard_pass k l xs (t ∷ ts) = pick (on_machine k t) (eqb l t.life) refl refl (heard_pass k l xs ts)
  where
    P : List Task → List Task → Type 0
    P = Pass (HeardGone k l xs) (HeardAs k l)

    seen : (ss : List Seen) (b : Bool) → seen_as t.id xs ≡ ss → is_ending t.phase ≡ b → on_machine k t ≡ true → eqb l t.life ≡ true → P ts (heard_all k l xs ts) → P (t ∷ ts) (heard_of_lem ss t ++ heard_all k l xs ts)
    seen [] true e f g h r = rw f (gone (g, inr (f, e)) r)
    seen [] false e f g h r = rw f (goes (inr (g, h, Told, told false, refl)) r)
    seen (x ∷ ss) true e f g h r = rw f (goes (inr (g, h, t.phase, not-true _ (and_parts (not (is_waiting t.phase)) (eqb k t.machine) g).0, refl)) r)
    seen (x ∷ ss) false e f g h r = rw f (goes (inr (g, h, cond x.ready Ready Told, told x.ready, refl)) r)

    pick : (a b : Bool) → on_machine k t ≡ a → eqb l t.life ≡ b → P ts (heard_all k l xs ts) → P (t ∷ ts) (cond a (cond b (heard_of_lem (seen_as t.id xs) t ++ heard_all k l xs ts) (heard_all k l xs ts)) (t ∷ heard_all k l xs ts))
    pick true true g h r = seen (seen_as t.id xs) (is_ending t.phase) refl refl g h r
    pick true false g h r = gone (g, inl h) r
    pick false b g h r = goes (inl (g, refl)) r

pub heard_id : (k l : ℕ) (x y : Task) → HeardAs k l x y → y.id ≡ x.id
heard_id k l x y (inl h) = ap (λ (t : Task). t.id) h.1
heard_id k l x y (inr h) = ap (λ (t : Task). t.id) h.4

pub heard_job : (k l : ℕ) (x y : Task) → HeardAs k l x y → y.job ≡ x.job
heard_job k l x y (inl h) = ap (λ (t : Task). t.job) h.1
heard_job k l x y (inr h) = ap (λ (t : Task). t.job) h.4
