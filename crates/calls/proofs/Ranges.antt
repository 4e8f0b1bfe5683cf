-- The tests of what is wanted, part by part.
-- Assumes nothing.
use Rattle.std.proofs.Common.{◌≡◌, ℕ, zero, suc, ◌<◌, ◌≤◌, Bool, true, false, ◌&&◌, ltb, leb, ◌⊎◌, List, [], ◌∷◌, length, get_or, take, drop, sym, refl, ap, ◌∙◌, subst, inl, inr, arith}
use Rattle.std.proofs.lemmas.Bool.{lt-ltb, le-leb}
use Rattle.std.proofs.lemmas.Bool.Decides.{nat_tests}
use Rattle.model.specs.Lists.{every}
use Rattle.model.specs.State as s
use Rattle.model.specs.Calls.{small, spec_ok_lem, job_ok}
use Rattle.model.specs.Wire.{Bytes, tags_in_lem}
use Rattle.jobs.specs.Tables.{bytes_of}
use Rattle.jobs.proofs.Names.{length_bytes, get_d_bytes}
use Rattle.calls.specs.Wanted.{name_ok}

pub name_ok_lem : (n : ℕ) → (n ≡ 0 → ⊥) → n ≤ 64 → (ltb 0 n && leb n 64) ≡ true
name_ok_lem n a b = rw (lt-ltb 0 n (omega arith), le-leb n 64 b)

-- what holds of each place
pub every_from : (p : ℕ → Bool) (xs : List ℕ) → ((k : ℕ) → k < length xs → p (get_or xs k 0) ≡ true) → every p xs ≡ true
unfolding every
every_from p [] h = refl
every_from p (x ∷ xs) h = rw (h 0 (omega arith)) (every_from p xs (λ k l. h (suc k) (omega arith)))

-- the bytes of a name are bytes
pub bytes_ok : (n : ℕ) (ws bs : List ℕ) → bytes_of n ws ≡ bs → every (λ (b : ℕ). ltb b 256) bs ≡ true
bytes_ok n ws bs e =
    ap (every (λ (b : ℕ). ltb b 256)) (sym e) ∙ every_from (λ (b : ℕ). ltb b 256) (bytes_of n ws) (λ k l. let o : k < n = omega (arith, length_bytes n ws) in
    lt-ltb (get_or (bytes_of n ws) k 0) 256 (let g = get_d_bytes n ws k o in omega arith))

pub length_tags : (n : ℕ) (bs : Bytes) → length (tags_in_lem n bs) ≡ n
unfolding tags_in_lem
length_tags zero bs = refl
length_tags (suc n) bs = ap suc (length_tags n (drop 4 bs))

module _ (a : s.Spec) where
  pub spec_ok : a.image < 4294967296 → a.cpu ≤ 1000000 → a.mem ≤ 1000000 → length a.tags ≤ 8 → ((k : ℕ) → get_or a.tags k 0 < 4294967296) → spec_ok_lem a ≡ true
  spec_ok i c m t e =
      rw (lt-ltb a.image 4294967296 i, lt-ltb a.cpu 1000001 (omega arith), lt-ltb a.mem 1000001 (omega arith), le-leb (length a.tags) 8 t)
      (every_from small a.tags (λ k l. lt-ltb (get_or a.tags k 0) 4294967296 (e k)))

  pub spec_bad : ((1000000 < a.cpu) ⊎ ((1000000 < a.mem) ⊎ (8 < length a.tags))) → spec_ok_lem a ≡ false
  spec_bad (inl h) = grind (arith, nat_tests)
  spec_bad (inr (inl h)) = grind (arith, nat_tests)
  spec_bad (inr (inr h)) = grind (arith, nat_tests)

  -- of jobs
  module _ (n : List ℕ) (c l m : ℕ) where
    pub job_ok_lem : name_ok n ≡ true → every (λ (b : ℕ). ltb b 256) n ≡ true → spec_ok_lem a ≡ true → l ≤ c → c ≤ m → m ≤ 256 → ((l < c) ⊎ ((c < m) ⊎ (c ≡ 0))) → job_ok n a c l m ≡ true
    job_ok_lem p b q x y z d = rw (p, b, q, le-leb l c x, le-leb c m y, le-leb m 256 z) (grind (arith, nat_tests))

-- the front of an array of small numbers
pub small_tags : (n : ℕ) (us ts : List ℕ) → take n us ≡ ts → ((k : ℕ) → get_or us k 0 < 4294967296) → (k : ℕ) → get_or ts k 0 < 4294967296
small_tags n us ts e h k = subst (λ (xs : List ℕ). get_or xs k 0 < 4294967296) e (front n us k h)
  where
    front : (n : ℕ) (us : List ℕ) (k : ℕ) → ((k : ℕ) → get_or us k 0 < 4294967296) → get_or (take n us) k 0 < 4294967296
    front zero us k h = omega arith
    front (suc n) [] k h = omega arith
    front (suc n) (u ∷ us) zero h = h 0
    front (suc n) (u ∷ us) (suc k) h = front n us k (λ j. h (suc j))
