-- The life file: read back, torn, and mixed.
-- Assumes nothing.
use Rattle.std.proofs.Common.{◌≡◌, ℕ, ◌+◌, ◌-◌, ◌≤◌, Bool, true, false, cond, ◌&&◌, eqb, ltb, leb, ◌⊎◌, [], ◌++◌, length, take, drop, sym, refl, ap, ◌∙◌, inl, inr, append-nil, arith, length-append, length-take, take-take, drop-drop, leb-false, leb-true}
use lib.Seq.{take-append-le}
use Rattle.std.proofs.lemmas.List.{drop_at}
use Rattle.std.proofs.lemmas.Bool.{eq-eqb, ne_eqb, lt-ltb, le-leb, eqb-true}
use Rattle.model.specs.Wire.{Bytes, Read, garbled, meant, bytes_of, value_of, field}
use Rattle.octets.proofs.Numbers.{length_bytes_of}
use Rattle.agents.specs.LifeFile.{last_life, life_bytes_lem, read_life_lem, Fits, LifeBack, TornIsNone, MixedIsEither}
use Rattle.wire.proofs.Fields.{field_front, field_at, drop_front}

long : (n : ℕ) → length (life_bytes_lem n) ≡ 16
long n = let a = length-append (bytes_of 8 n) (bytes_of 8 n) in let b = length_bytes_of 8 n in omega arith

first : (n : ℕ) → Fits n → field 8 0 (life_bytes_lem n) ≡ n
first n f = field_front 8 n (bytes_of 8 n) (let h = f.1 in omega arith)

second : (n : ℕ) → Fits n → field 8 8 (life_bytes_lem n) ≡ n
second n f = field_at 8 8 n (life_bytes_lem n) [] (drop_front 8 n (bytes_of 8 n) ∙ sym (append-nil (bytes_of 8 n))) (let h = f.1 in omega arith)

pub life_back_lem : LifeBack
life_back_lem n f = rw (eq-eqb _ _ (long n), first n f, second n f, eq-eqb n n refl, lt-ltb 0 n f.0, le-leb n last_life f.1)

pub torn_is_none_lem : TornIsNone
torn_is_none_lem n k l = let a = length-take k (life_bytes_lem n) in let b = long n in rw (ne_eqb (length (take k (life_bytes_lem n))) 16 (λ (e : length (take k (life_bytes_lem n)) ≡ 16). omega arith))

-- what is read stands in both halves
same_twice : (bs : Bytes) (v : ℕ) → read_life_lem bs ≡ meant v → (field 8 0 bs ≡ v) × (field 8 8 bs ≡ v)
same_twice bs v = pick (eqb (length bs) 16) (eqb (field 8 0 bs) (field 8 8 bs)) (ltb 0 (field 8 0 bs)) (leb (field 8 0 bs) last_life) refl
  where
    no : {C : Type 0} → ◌≡◌ {A = Read ℕ} garbled (meant v) → C
    no e = absurd (let z : ◌≡◌ {A = ℕ} 0 1 = cc in omega arith)

    pick : (a b c d : Bool) → eqb (field 8 0 bs) (field 8 8 bs) ≡ b → cond (a && b && c && d) (meant (field 8 0 bs)) garbled ≡ meant v → (field 8 0 bs ≡ v) × (field 8 8 bs ≡ v)
    pick false b c d s e = no e
    pick true false c d s e = no e
    pick true true false d s e = no e
    pick true true true false s e = no e
    pick true true true true s e = let p : field 8 0 bs ≡ v = cc in let q = eqb-true (field 8 0 bs) (field 8 8 bs) s in (p, sym q ∙ p)

pub mixed_is_either_lem : MixedIsEither
mixed_is_either_lem m n k v f g l e = pick (leb k 8) refl
  where
    both : (field 8 0 (take k (life_bytes_lem m) ++ drop k (life_bytes_lem n)) ≡ v) × (field 8 8 (take k (life_bytes_lem m) ++ drop k (life_bytes_lem n)) ≡ v)
    both = same_twice (take k (life_bytes_lem m) ++ drop k (life_bytes_lem n)) v e

    front : length (take k (life_bytes_lem m)) ≡ k
    front = let a = length-take k (life_bytes_lem m) in let b = long m in omega arith

    -- the second half is the later writing's
    late : k ≤ 8 → drop 8 (take k (life_bytes_lem m) ++ drop k (life_bytes_lem n)) ≡ drop 8 (life_bytes_lem n)
    late h =
        let s : k + (8 - k) ≡ 8 = omega arith in
        ap (λ (x : ℕ). drop x (take k (life_bytes_lem m) ++ drop k (life_bytes_lem n))) (sym s) ∙ sym (drop-drop (8 - k) k (take k (life_bytes_lem m) ++ drop k (life_bytes_lem n))) ∙
        ap (drop (8 - k)) (drop_at (take k (life_bytes_lem m)) (drop k (life_bytes_lem n)) k front) ∙ drop-drop (8 - k) k (life_bytes_lem n) ∙ ap (λ (x : ℕ). drop x (life_bytes_lem n)) s

    -- the first half is the earlier one's
    early : 8 ≤ k → take 8 (take k (life_bytes_lem m) ++ drop k (life_bytes_lem n)) ≡ take 8 (life_bytes_lem m)
    early h = take-append-le 8 (take k (life_bytes_lem m)) (drop k (life_bytes_lem n)) (omega (arith, front)) ∙ take-take 8 k (life_bytes_lem m) h

    pick : (b : Bool) → leb k 8 ≡ b → (v ≡ m) ⊎ (v ≡ n)
    pick true q = inr (sym both.1 ∙ ap (λ (xs : Bytes). value_of (take 8 xs)) (late (leb-true k 8 q)) ∙ second n g)
    pick false q = inl (sym both.0 ∙ ap value_of (early (let h = leb-false k 8 q in omega arith)) ∙ first m f)
