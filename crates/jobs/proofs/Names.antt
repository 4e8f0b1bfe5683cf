-- Names, byte by byte.
-- Assumes nothing.
use Rattle.std.proofs.Common.{◌≡◌, ℕ, suc, ◌+◌, ◌<◌, Bool, true, false, List, [], ◌∷◌, length, get_or, take, drop, sym, refl, ap, subst, ◌∙◌, inl, inr, arith}
use Rattle.std.proofs.lemmas.List.FromFn.{get_or-range_with_len, length-range_with_len, length-map-range_with_len, get_or-map-range_with_len}
use Rattle.std.proofs.lemmas.List.{ext_get_or, get_or-drop, length-drop, take_all}
use Rattle.std.specs.Bool.{MatchBool}
use Rattle.std.specs.List.{AllWithin, HoldsAt, range_with_len}
use Rattle.model.specs.Lists.{same}
use Rattle.model.proofs.Lists.Tests.{bool}
use Rattle.model.proofs.Tasks.Names.{same_eq, eq_same}
use Rattle.jobs.specs.Rows.{at}
use Rattle.jobs.specs.Tables.{byte_at, bytes_of}

pub not_same : (xs ys : List ℕ) → (xs ≡ ys → ⊥) → same xs ys ≡ false
not_same xs ys ne = elim (bool (same xs ys)) [ inl t ↦ absurd (ne (same_eq xs ys t)) | inr f ↦ f ]

module _ (n : ℕ) (ws : List ℕ) where
  pub length_bytes : length (bytes_of n ws) ≡ n
  unfolding bytes_of
  length_bytes = length-map-range_with_len _ 0 n

  pub get_d_bytes : (k : ℕ) → k < n → get_or (bytes_of n ws) k 0 ≡ byte_at ws k
  unfolding bytes_of
  get_d_bytes k h = get_or-map-range_with_len (byte_at ws) 0 n k k 0 h (omega arith)

module _ (xs : List ℕ) (n : ℕ) (ws : List ℕ) where
  pub other_length : (length xs ≡ n → ⊥) → same xs (bytes_of n ws) ≡ false
  other_length ne = not_same _ _ (λ e. ne (ap length e ∙ length_bytes n ws))

  pub other_byte : (k : ℕ) → length xs ≡ n → k < length xs → (get_or xs k 0 ≡ byte_at ws k → ⊥) → same xs (bytes_of n ws) ≡ false
  other_byte k l h ne = not_same _ _ (λ e. ne (ap (λ (x : List ℕ). get_or x k 0) e ∙ get_d_bytes n ws k (omega arith)))

  pub same_bytes : length xs ≡ n → ((k : ℕ) → k < length xs → get_or xs k 0 ≡ byte_at ws k) → same xs (bytes_of n ws) ≡ true
  same_bytes l e = eq_same _ _ (ext_get_or 0 _ _ (l ∙ sym (length_bytes n ws)) (λ k h. e k h ∙ sym (get_d_bytes n ws k (omega arith))))

  place : (k : ℕ) → k < length xs → get_or (range_with_len 0 (length xs)) k 0 ≡ k
  place k b = let e : 0 + k ≡ k = omega arith in get_or-range_with_len 0 (length xs) k 0 b ∙ e

  -- as `all` answers of each byte
  pub same_by : (r : Bool) → length xs ≡ n → MatchBool r (AllWithin (λ k. get_or xs k 0 ≡ byte_at ws k) (range_with_len 0 (length xs)) 0 (length (range_with_len 0 (length xs)))) ((i : ℕ) × (i < length (range_with_len 0 (length xs))) × HoldsAt (λ k. get_or xs k 0 ≡ byte_at ws k → ⊥) (range_with_len 0 (length xs)) i) → r ≡ same xs (bytes_of n ws)
  same_by true l h = sym (same_bytes l (λ k b. subst (λ (j : ℕ). get_or xs j 0 ≡ byte_at ws j) (place k b) (h k 0 (omega arith) (omega (arith, length-range_with_len 0 (length xs))))))
  same_by false l h = let b : h.0 < length xs = omega (arith, h.1, length-range_with_len 0 (length xs)) in sym (other_byte h.0 l b (subst (λ (j : ℕ). get_or xs j 0 ≡ byte_at ws j → ⊥) (place h.0 b) (h.2 0)))

pub eight : (xs : List ℕ) → length xs ≡ 8 → at xs 0 ∷ at xs 1 ∷ at xs 2 ∷ at xs 3 ∷ at xs 4 ∷ at xs 5 ∷ at xs 6 ∷ at xs 7 ∷ [] ≡ xs
eight [] h = absurd (omega (arith, h))
eight (a ∷ []) h = absurd (omega (arith, h))
eight (a ∷ b ∷ []) h = absurd (omega (arith, h))
eight (a ∷ b ∷ c ∷ []) h = absurd (omega (arith, h))
eight (a ∷ b ∷ c ∷ d ∷ []) h = absurd (omega (arith, h))
eight (a ∷ b ∷ c ∷ d ∷ e ∷ []) h = absurd (omega (arith, h))
eight (a ∷ b ∷ c ∷ d ∷ e ∷ f ∷ []) h = absurd (omega (arith, h))
eight (a ∷ b ∷ c ∷ d ∷ e ∷ f ∷ g ∷ []) h = absurd (omega (arith, h))
eight (a ∷ b ∷ c ∷ d ∷ e ∷ f ∷ g ∷ i ∷ []) h = refl
eight (a ∷ b ∷ c ∷ d ∷ e ∷ f ∷ g ∷ i ∷ j ∷ js) h = let z : suc (suc (suc (suc (suc (suc (suc (suc (suc (length js))))))))) ≡ 8 = h in absurd (omega arith)

-- the last eight words of a kind
pub name_words : (p : List ℕ) → length p ≡ 23 → at p 15 ∷ at p 16 ∷ at p 17 ∷ at p 18 ∷ at p 19 ∷ at p 20 ∷ at p 21 ∷ at p 22 ∷ [] ≡ take 8 (drop 15 p)
name_words p h =
    let l : length (drop 15 p) ≡ 8 = simp length-drop (omega arith) in
    let e = simp get_or-drop at (eight (drop 15 p) l) in e ∙ sym (take_all 8 (drop 15 p) (omega arith))
