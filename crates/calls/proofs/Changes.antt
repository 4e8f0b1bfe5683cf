-- The one that is found in its row is changed there.
-- Assumes nothing.
use Rattle.std.proofs.Common.{◌≡◌, ℕ, ◌+◌, ◌-◌, ◌<◌, Bool, true, false, cond, eqb, List, [], ◌∷◌, ◌++◌, map, Option, sym, ap, ◌∙◌, subst, arith}
use Rattle.model.specs.Lists.{find, change}
use Rattle.model.specs.State as s
use Rattle.jobs.specs.Rows.{at, span}
use Rattle.jobs.specs.Tables.{FoundAt, span_with, machine_from, machine_slot, machine_at, machine_row_lem, machine_rows_lem}
use Rattle.jobs.proofs.Spans.{span_at}

module _ {A : Type 0} (p : A → Bool) (g : A → A) where
  change_behind : (xs : List A) (x : A) (ys : List A) → find p xs ≡ [] → p x ≡ true → change p g (xs ++ (x ∷ ys)) ≡ xs ++ (g x ∷ ys)
  unfolding find change
  change_behind [] x ys f t = rw t
  change_behind (z ∷ xs) x ys f t = pick (p z) f (λ h. change_behind xs x ys h t)
    where
      pick : (b : Bool) → cond b (z ∷ []) (find p xs) ≡ [] → (find p xs ≡ [] → change p g (xs ++ (x ∷ ys)) ≡ xs ++ (g x ∷ ys)) → cond b (g z ∷ (xs ++ (x ∷ ys))) (z ∷ change p g (xs ++ (x ∷ ys))) ≡ z ∷ (xs ++ (g x ∷ ys))
      pick true h r = absurd (let q : ◌≡◌ {A = ℕ} 0 1 = cc in omega arith)
      pick false h r = ap (λ (us : List A). z ∷ us) (r h)

  pub change_found : (f : ℕ → List A) (n i : ℕ) (x : A) → i < n → f i ≡ x ∷ [] → p x ≡ true → find p (span f 0 i) ≡ [] → span_with f n i (map g (f i)) ≡ change p g (span f 0 n)
  change_found f n i x h e t q =
      let old : span f 0 n ≡ span f 0 i ++ (x ∷ span f (i + 1) (n - (i + 1))) = span_at f i n h ∙ ap (λ (xs : List A). span f 0 i ++ (xs ++ span f (i + 1) (n - (i + 1)))) e in
      ap (λ (xs : List A). span f 0 i ++ (map g xs ++ span f (i + 1) (n - (i + 1)))) e ∙ sym (ap (change p g) old ∙ change_behind (span f 0 i) x (span f (i + 1) (n - (i + 1))) q t)

-- what was found of a machine, as another term
pub found_as : (k : ℕ) (home live : List ℕ) (o q : Option ℕ) → o ≡ q → FoundAt (s.is_machine k) (machine_at home live) (machine_rows_lem home) o → FoundAt (s.is_machine k) (machine_at home live) (machine_rows_lem home) q
found_as k home live o q e w = subst (FoundAt (s.is_machine k) (machine_at home live) (machine_rows_lem home)) e w

-- the machine in a slot that isn't a hole
slot_some : (r : List ℕ) (h : ℕ) (m : s.Machine) → machine_slot r h ≡ m ∷ [] → machine_from r h ≡ m
slot_some r h m = pick (eqb (at r 0) 0)
  where
    pick : (b : Bool) → cond b [] (machine_from r h ∷ []) ≡ m ∷ [] → machine_from r h ≡ m
    pick true e = absurd (let z : ◌≡◌ {A = ℕ} 0 1 = cc in omega arith)
    pick false e = cc

-- the life and the number in its row
pub row_news : (home live row : List ℕ) (i : ℕ) (m : s.Machine) → row ≡ machine_row_lem home i → machine_at home live i ≡ m ∷ [] → (at row 5 ≡ m.life) × (at row 6 ≡ m.number)
row_news home live row i m r e =
    let p = slot_some (machine_row_lem home i) (at live i) m e in
    (ap (λ (x : List ℕ). at x 5) r ∙ ap (λ (x : s.Machine). x.life) p, ap (λ (x : List ℕ). at x 6) r ∙ ap (λ (x : s.Machine). x.number) p)
