-- A list by rising numbers, and one task in the midst of it.
-- Assumes nothing.
use Rattle.std.proofs.Common.{◌≡◌, ℕ, suc, ◌≤◌, true, false, eqb, List, [], ◌∷◌, ◌++◌, refl, inl, inr, arith}
use Rattle.std.proofs.lemmas.Bool.{cases_Bool, eq-eqb, ne_eqb}
use Rattle.model.specs.Lists.{some}
use Rattle.model.specs.State as s
use Rattle.model.specs.State.{is_task, is_waiting, phased, placed}
use Rattle.model.specs.Settle.{ended, place}
use Rattle.model.proofs.Lists.Members.{In}
use Rattle.model.proofs.Lists.Chosen.{not_some}
use Rattle.model.proofs.Tasks.ByNumber.{Rising, rising_over}
use Rattle.jobs.specs.Changes.{end_each}
use Rattle.jobs.proofs.FoundLaws.{change_mid, keep_mid}

in_mid : (a : List s.Task) (t : s.Task) (b : List s.Task) → In t (a ++ (t ∷ b))
in_mid [] t b = inl refl
in_mid (x ∷ a) t b = inr (in_mid a t b)

pub none_before : (n : ℕ) (a : List s.Task) (t : s.Task) (b : List s.Task) → Rising n (a ++ (t ∷ b)) → some (is_task t.id) a ≡ false
unfolding some
none_before n [] t b r = refl
none_before n (x ∷ a) t b r =
    let over : suc x.id ≤ t.id = rising_over (suc x.id) (a ++ (t ∷ b)) r.1 t (in_mid a t b) in
    let e : eqb t.id x.id ≡ false = ne_eqb t.id x.id (λ q. omega arith) in
    rw e (none_before (suc x.id) a t b r.1)

rising_behind : (n : ℕ) (a : List s.Task) (t : s.Task) (b : List s.Task) → Rising n (a ++ (t ∷ b)) → Rising (suc t.id) b
rising_behind n [] t b r = r.1
rising_behind n (x ∷ a) t b r = rising_behind (suc x.id) a t b r.1

pub none_behind : (n : ℕ) (a : List s.Task) (t : s.Task) (b : List s.Task) → Rising n (a ++ (t ∷ b)) → some (is_task t.id) b ≡ false
none_behind n a t b r = not_some (is_task t.id) b (λ x i. let over : suc t.id ≤ x.id = rising_over (suc t.id) b (rising_behind n a t b r) x i in ne_eqb t.id x.id (λ q. omega arith))

-- one ends
pub ended_mid : (a : List s.Task) (t : s.Task) (b more : List s.Task) → Rising 0 (a ++ (t ∷ b)) → ended (t ∷ more) (a ++ (t ∷ b)) ≡ a ++ (end_each (t ∷ []) ++ b)
unfolding ended
ended_mid a t b more r =
    let here : is_task t.id t ≡ true = eq-eqb t.id t.id refl in
    let before = none_before 0 a t b r in
    elim (cases_Bool (is_waiting t.phase)) [
      | inl y ↦ rw y (keep_mid (is_task t.id) a t b before here (none_behind 0 a t b r))
      | inr y ↦ rw y (change_mid (is_task t.id) (phased s.Ending) a t b before here)
    ]

-- one is placed
pub place_mid : (a : List s.Task) (t : s.Task) (b : List s.Task) (m : s.Machine) (ms : List s.Machine) → Rising 0 (a ++ (t ∷ b)) → place t (m ∷ ms) (a ++ (t ∷ b)) ≡ a ++ (placed m.num m.life t ∷ b)
unfolding place
place_mid a t b m ms r = change_mid (is_task t.id) (placed m.num m.life) a t b (none_before 0 a t b r) (eq-eqb t.id t.id refl)
