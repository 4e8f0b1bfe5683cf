-- Rows in a row: laws of `span`, whatever the rows stand for.
-- Assumes nothing.
use Rattle.std.proofs.Common.{◌≡◌, ℕ, zero, suc, ◌+◌, ◌-◌, ◌<◌, ◌≤◌, List, [], ◌++◌, sym, refl, ap, ◌∙◌, arith}
use Rattle.std.proofs.lemmas.List.{append-nil, append_assoc}
use Rattle.jobs.specs.Rows.{span}

module _ {X : Type 0} (f : ℕ → List X) where
  pub span_split : (a m n : ℕ) → span f a (m + n) ≡ span f a m ++ span f (a + m) n
  unfolding span
  span_split a zero n = let e : zero + n ≡ n = omega arith in let g : a + zero ≡ a = omega arith in rw (e, g)
  span_split a (suc m) n =
      let e : suc m + n ≡ suc (m + n) = omega arith in
      let g : suc a + m ≡ a + suc m = omega arith in
      rw e (ap (λ (xs : List X). f a ++ xs) (span_split (suc a) m n) ∙ sym (append_assoc (f a) (span f (suc a) m) (span f (suc a + m) n)) ∙ ap (λ (k : ℕ). (f a ++ span f (suc a) m) ++ span f k n) g)

  pub span_none : (a : ℕ) → span f a 0 ≡ []
  unfolding span
  span_none a = refl

  pub span_one : (a : ℕ) → span f a 1 ≡ f a
  unfolding span
  span_one a = append-nil (f a)

  -- one row more at the end
  pub span_more : (n : ℕ) → span f 0 (n + 1) ≡ span f 0 n ++ f n
  span_more n = span_split 0 n 1 ∙ ap (λ (xs : List X). span f 0 n ++ xs) (span_one (0 + n) ∙ (let e : 0 + n ≡ n = omega arith in ap f e))

  -- what is left, from row i on
  pub span_rest : (i n : ℕ) → i < n → span f i (n - i) ≡ f i ++ span f (i + 1) (n - (i + 1))
  unfolding span
  span_rest i n h = let e : n - i ≡ suc (n - (i + 1)) = omega arith in let g : suc i ≡ i + 1 = omega arith in rw e (ap (λ (k : ℕ). f i ++ span f k (n - (i + 1))) g)

  pub span_end : (i n : ℕ) → n ≤ i → span f i (n - i) ≡ []
  span_end i n h = let e : n - i ≡ 0 = omega arith in rw e (span_none i)

  -- row i, and all before and behind it
  pub span_at : (i n : ℕ) → i < n → span f 0 n ≡ span f 0 i ++ (f i ++ span f (i + 1) (n - (i + 1)))
  span_at i n h =
      let e : n ≡ i + (n - i) = omega arith in
      let z : 0 + i ≡ i = omega arith in
      ap (span f 0) e ∙ span_split 0 i (n - i) ∙ ap (λ (k : ℕ). span f 0 i ++ span f k (n - i)) z ∙ ap (λ (xs : List X). span f 0 i ++ xs) (span_rest i n h)

pub span_same : {X : Type 0} (f g : ℕ → List X) (a n : ℕ) → ((k : ℕ) → a ≤ k → k < a + n → f k ≡ g k) → span f a n ≡ span g a n
unfolding span
span_same f g a zero e = refl
span_same {X} f g a (suc n) e =
    let p : f a ≡ g a = e a (omega arith) (omega arith) in
    let q : span f (suc a) n ≡ span g (suc a) n = span_same f g (suc a) n (λ k l h. e k (omega arith) (omega arith)) in
    ap (λ (xs : List X). xs ++ span f (suc a) n) p ∙ ap (λ (xs : List X). g a ++ xs) q
