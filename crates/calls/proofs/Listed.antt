-- Looking through the tasks of a report.
-- Assumes nothing.
use Rattle.std.proofs.Common.{◌≡◌, ℕ, suc, ◌/◌, ◌<◌, eqb, [], ◌∷◌, ◌++◌, length, get_or, drop, sym, ap, ◌∙◌, arith, length-append}
use Rattle.std.proofs.lemmas.Bool.{eq-eqb, ne_eqb}
use Rattle.std.proofs.lemmas.List.{take-append-le, get_or_append_left}
use Rattle.std.proofs.Math.Seq.{drop-append_seam}
use Rattle.model.specs.Lists.{find}
use Rattle.model.specs.Calls.{Seen, seen_as}
use Rattle.model.specs.Wire.{Bytes, field, seens_in}
use Rattle.calls.specs.Meaning.{seens_of}

-- the task that nine bytes are
abbrev pub task_in : Bytes → Seen
task_in task = record { id = field 8 0 task; ready = eqb (get_or task 8 0) 1 }

module _ (task rest ts : Bytes) (nine : length task ≡ 9) (e : ts ≡ task ++ rest) where
  seens_step : seens_of ts ≡ task_in task ∷ seens_of rest
  unfolding seens_in
  seens_step =
      let n : length (task ++ rest) / 9 ≡ suc (length rest / 9) = omega (arith, length-append task rest) in
      let d : drop 9 (task ++ rest) ≡ rest = ap (λ (k : ℕ). drop k (task ++ rest)) (sym nine) ∙ drop-append_seam task rest in
      rw (e, n, d, take-append-le 8 task rest (omega arith), get_or_append_left task rest 0 8 (omega arith))

  pub seen_here : (id : ℕ) → field 8 0 task ≡ id → seen_as id (seens_of ts) ≡ task_in task ∷ []
  unfolding seen_as find
  seen_here id h = rw (seens_step, eq-eqb id (field 8 0 task) (sym h))

  pub seen_on : (id : ℕ) → (field 8 0 task ≡ id → ⊥) → seen_as id (seens_of ts) ≡ seen_as id (seens_of rest)
  unfolding seen_as find
  seen_on id f = rw (seens_step, ne_eqb id (field 8 0 task) (λ (e : id ≡ field 8 0 task). f (sym e)))

pub seen_none : (id : ℕ) (ts : Bytes) → length ts < 9 → seen_as id (seens_of ts) ≡ []
unfolding seen_as find seens_in
seen_none id ts h = let n : length ts / 9 ≡ 0 = omega arith in rw n
