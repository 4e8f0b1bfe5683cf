-- Bytes in words, and back.
-- Assumes nothing.
use Rattle.std.proofs.Common.{◌≡◌, ℕ, zero, suc, ◌+◌, ◌-◌, ◌*◌, ◌/◌, ◌%◌, ◌^◌, ◌<◌, ◌≤◌, List, [], ◌∷◌, length, refl, ap, ◌∙◌, arith}
use Rattle.std.proofs.lemmas.List.{ext_get_or}
use Rattle.jobs.specs.Rows.{at}
use Rattle.jobs.specs.Tables.{byte_at, bytes_of}
use Rattle.jobs.specs.Values.{packed}
use Rattle.jobs.proofs.Names.{length_bytes, get_d_bytes}

-- what holds of 0 to 7 holds below 8
below8 : (P : ℕ → Type 0) → P 0 → P 1 → P 2 → P 3 → P 4 → P 5 → P 6 → P 7 → (q : ℕ) → q < 8 → P q
below8 P a b c d e f g h zero l = a
below8 P a b c d e f g h (suc zero) l = b
below8 P a b c d e f g h (suc (suc zero)) l = c
below8 P a b c d e f g h (suc (suc (suc zero))) l = d
below8 P a b c d e f g h (suc (suc (suc (suc zero)))) l = e
below8 P a b c d e f g h (suc (suc (suc (suc (suc zero))))) l = f
below8 P a b c d e f g h (suc (suc (suc (suc (suc (suc zero)))))) l = g
below8 P a b c d e f g h (suc (suc (suc (suc (suc (suc (suc zero))))))) l = h
below8 P a b c d e f g h (suc (suc (suc (suc (suc (suc (suc (suc q)))))))) l = absurd (omega arith)

-- byte j of a word
digit : (bs : List ℕ) (o : ℕ) → ((k : ℕ) → at bs k < 256) → (j : ℕ) → j < 8 → packed bs o / 2 ^ (56 - 8 * j) % 256 ≡ at bs (o + j)
digit bs o low =
    let z : at bs (o + 0) ≡ at bs o = (let e : o + 0 ≡ o = omega arith in ap (at bs) e) in
    let a = low o in let b = low (o + 1) in let c = low (o + 2) in let d = low (o + 3) in let e = low (o + 4) in let f = low (o + 5) in let g = low (o + 6) in let h = low (o + 7) in
    below8 (λ j. packed bs o / 2 ^ (56 - 8 * j) % 256 ≡ at bs (o + j)) (omega arith) (omega arith) (omega arith) (omega arith) (omega arith) (omega arith) (omega arith) (omega arith)

module _ (bs : List ℕ) (low : (k : ℕ) → at bs k < 256) where
  abbrev pub words : List ℕ
  words = packed bs 0 ∷ packed bs 8 ∷ packed bs 16 ∷ packed bs 24 ∷ packed bs 32 ∷ packed bs 40 ∷ packed bs 48 ∷ packed bs 56 ∷ []

  pub word_at : (q : ℕ) → q < 8 → at words q ≡ packed bs (8 * q)
  word_at = below8 (λ q. at words q ≡ packed bs (8 * q)) refl refl refl refl refl refl refl refl

  byte_back : (k : ℕ) → k < 64 → byte_at words k ≡ at bs k
  byte_back k h =
      let q : k / 8 < 8 = omega arith in
      let j : k % 8 < 8 = omega arith in
      let e : 8 * (k / 8) + k % 8 ≡ k = omega arith in
      ap (λ (w : ℕ). w / 2 ^ (56 - 8 * (k % 8)) % 256) (word_at (k / 8) q) ∙ digit bs (8 * (k / 8)) low (k % 8) j ∙ ap (at bs) e

  pub name_back : (n : ℕ) → n ≡ length bs → n ≤ 64 → bytes_of n words ≡ bs
  name_back n e l = ext_get_or 0 (bytes_of n words) bs (length_bytes n words ∙ e) (λ k h. let m : k < n = omega (arith, length_bytes n words) in get_d_bytes n words k m ∙ byte_back k (omega arith))
