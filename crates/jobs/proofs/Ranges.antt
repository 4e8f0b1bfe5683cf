-- Chains over `0..n` and counts, said of the rows with these numbers.
-- Assumes nothing.
use Rattle.std.proofs.Common.{◌≡◌, ℕ, zero, suc, ◌+◌, ◌<◌, ◌≤◌, Bool, true, false, cond, List, [], ◌∷◌, length, Option, None, Some, MatchOption, not, ◌&&◌, ◌||◌, ◌==◌, sym, refl, ◌∙◌, inl, inr, arith}
use Rattle.std.proofs.lemmas.List.{length-append}
use Rattle.std.proofs.lemmas.Bool.{cases_Bool, eqb-true, eqb-false, true≢false}
use Rattle.model.specs.Lists.{find, some}
use Rattle.jobs.specs.Rows.{span}
use Rattle.jobs.specs.Tables.{FoundAt}
use Rattle.jobs.proofs.Finds.{find_start, find_hole, find_other, find_this}

-- spans of rows that stand for as many are as long
pub span_long : {X Y : Type 0} (f : ℕ → List X) (g : ℕ → List Y) → ((k : ℕ) → length (f k) ≡ length (g k)) → (a n : ℕ) → length (span f a n) ≡ length (span g a n)
unfolding span
span_long f g e a zero = refl
span_long f g e a (suc n) = length-append (f a) (span f (suc a) n) ∙ (let p = e a in let q = span_long f g e (suc a) n in omega arith) ∙ sym (length-append (g a) (span g (suc a) n))

-- a row that begins with 0 stands for nothing, another for one, whatever that is
pub one_or_none : {X Y : Type 0} (h : Bool) (x : X) (y : Y) → length (cond h [] (x ∷ [])) ≡ length (cond h [] (y ∷ []))
one_or_none true x y = refl
one_or_none false x y = refl

-- what asking whether a row is a hole says of its first word
pub hole : {a : ℕ} {b : Bool} → b ≡ (a == 0) → b ≡ true → a ≡ 0
hole {a} e t = eqb-true a 0 (sym e ∙ t)

pub no_hole : {a : ℕ} {b : Bool} → b ≡ (a == 0) → b ≡ false → a ≡ 0 → ⊥
no_hole {a} e f = eqb-false a 0 (sym e ∙ f)

-- the same, where that is known
pub slot_gone : {X : Type 0} (h : Bool) (x : X) → h ≡ true → cond h [] (x ∷ []) ≡ []
slot_gone h x e = rw e

pub slot_there : {X : Type 0} (h : Bool) (x : X) → h ≡ false → cond h [] (x ∷ []) ≡ x ∷ []
slot_there h x e = rw e

-- whether the one in a row passes
pub some_slot : {X : Type 0} (p : X → Bool) (h b : Bool) (x : X) → b ≡ p x → (not h && b) ≡ some p (cond h [] (x ∷ []))
unfolding some
some_slot p true b x e = refl
some_slot p false b x e = e ∙ sym (or_false (p x))
  where
    or_false : (c : Bool) → (c || false) ≡ c
    or_false true = refl
    or_false false = refl

pub passes : {X : Type 0} (p : X → Bool) (h b : Bool) (x : X) → h ≡ false → b ≡ p x → b ≡ some p (cond h [] (x ∷ []))
passes p h b x f e = (let z : (not h && b) ≡ b = rw f in sym z) ∙ some_slot p h b x e

pub passes_none : {X : Type 0} (p : X → Bool) (h : Bool) (x : X) → h ≡ true → false ≡ some p (cond h [] (x ∷ []))
passes_none p h x t = (let z : (not h && p x) ≡ false = rw t in sym z) ∙ some_slot p h (p x) x refl

-- a test passes as another does, where it says the same of what stands there
pub some_as : {X : Type 0} (p : X → Bool) (h : Bool) (x y : X) → p x ≡ p y → some p (cond h [] (x ∷ [])) ≡ some p (cond h [] (y ∷ []))
some_as p h x y e = sym (some_slot p h (p x) x refl) ∙ some_slot p h (p x) y e

-- what is found in a range by a test is so by another that says the same
pub found_as : {a b : ℕ → Bool} (n : ℕ) → ((i : ℕ) → a i ≡ b i) → (o : Option ℕ) → MatchOption o ((k : ℕ) → 0 ≤ k → k < n → b k ≡ false) (λ i. (0 ≤ i) × (i < n) × (b i ≡ true) × ((k : ℕ) → 0 ≤ k → k < i → b k ≡ false)) → MatchOption o ((k : ℕ) → 0 ≤ k → k < n → a k ≡ false) (λ i. (0 ≤ i) × (i < n) × (a i ≡ true) × ((k : ℕ) → 0 ≤ k → k < i → a k ≡ false))
found_as n e None y = λ k l m. e k ∙ y k l m
found_as n e (Some i) y = (y.0, y.1, e i ∙ y.2, λ k l m. e k ∙ y.3 k l m)

-- the first row that passes is found, where rows stand for one or none
module _ {X : Type 0} (p : X → Bool) (h : ℕ → Bool) (x : ℕ → X) where
  abbrev pub row : ℕ → List X
  row i = cond (h i) [] (x i ∷ [])

  here : (i : ℕ) → some p (row i) ≡ true → (row i ≡ x i ∷ []) × (p (x i) ≡ true)
  here i e = elim (cases_Bool (h i)) [
    | inl t ↦ absurd (true≢false (sym e ∙ sym (some_slot p (h i) (p (x i)) (x i) refl) ∙ rw t))
    | inr f ↦ (slot_there (h i) (x i) f, (let q : p (x i) ≡ some p (row i) = (let z : (not (h i) && p (x i)) ≡ p (x i) = rw f in sym z ∙ some_slot p (h i) (p (x i)) (x i) refl) in q ∙ e))
  ]

  not_here : (i : ℕ) → find p (span row 0 i) ≡ [] → some p (row i) ≡ false → find p (span row 0 (i + 1)) ≡ []
  not_here i b e = elim (cases_Bool (h i)) [
    | inl t ↦ find_hole p row i b (slot_gone (h i) (x i) t)
    | inr f ↦ find_other p row i b (x i) (slot_there (h i) (x i) f) (let z : (not (h i) && p (x i)) ≡ p (x i) = rw f in sym z ∙ some_slot p (h i) (p (x i)) (x i) refl ∙ e)
  ]

  none_before : (n : ℕ) → ((k : ℕ) → k < n → some p (row k) ≡ false) → find p (span row 0 n) ≡ []
  none_before zero miss = find_start p row
  none_before (suc n) miss = let e : suc n ≡ n + 1 = omega arith in rw e (not_here n (none_before n (λ k l. miss k (omega arith))) (miss n (omega arith)))

  pub found_in_range : (n : ℕ) (o : Option ℕ) → MatchOption o ((k : ℕ) → 0 ≤ k → k < n → some p (row k) ≡ false) (λ i. (0 ≤ i) × (i < n) × (some p (row i) ≡ true) × ((k : ℕ) → 0 ≤ k → k < i → some p (row k) ≡ false)) → FoundAt p row n o
  found_in_range n None miss = none_before n (λ k l. miss k (omega arith) l)
  found_in_range n (Some i) y = let t = here i y.2 in find_this p row i (none_before i (λ k l. y.3 k (omega arith) l)) n (x i) y.1 t.0 t.1
