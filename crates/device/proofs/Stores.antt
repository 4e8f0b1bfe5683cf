-- How often a change stores.
-- Assumes nothing.
use Rattle.std.proofs.Common.{◌≡◌, ℕ, ◌+◌, ◌%◌, ◌<◌, ◌≤◌, Bool, true, false, cond, eqb, leb, List, [], ◌∷◌, length, sym, refl, ap, ◌∙◌, inl, inr, arith}
use Rattle.std.proofs.lemmas.Bool.{eqb-true, eqb-false, leb-true, leb-false, ne_eqb, le-leb, lt-leb, cond-true, cond-false, cases_Bool, cases_eq}
use Rattle.model.specs.Memory.{Memory, stored, Doing, done, load, store, comes_to, leaves}
use Rattle.device.specs.Follows.{and_then}
use Rattle.device.specs.Halves.{held_at, spare_at, turned, differs, copies, turning, deciding, commits}
use Rattle.device.specs.Budget.{tally, unless, stores_of, differing_of, differing, changing, Budget}
use Rattle.device.proofs.Doings.{stored_same, stored_other, leaves_then}

pub stores_then : {A B : Type 0} (f : ℕ → Bool) (p : Doing A) (k : A → Doing B) (m : Memory) → stores_of f (and_then p k) m ≡ stores_of f p m + stores_of f (k (comes_to p m)) (leaves p m)
unfolding and_then comes_to leaves stores_of
stores_then f (done a) k m = omega arith
stores_then f (load a g) k m = stores_then f (g (m a)) k m
stores_then f (store a w p) k m = let ih = stores_then f p k (stored a w m) in omega (arith, ih)

-- what differs depends on the words from there on
pub differing_same : (f : ℕ → Bool) (a : ℕ) (ws : List ℕ) (m n : Memory) → ((b : ℕ) → a ≤ b → n b ≡ m b) → differing_of f a ws n ≡ differing_of f a ws m
unfolding differing_of
differing_same f a [] m n h = refl
differing_same f a (w ∷ ws) m n h =
    let t = differing_same f (a + 1) ws m n (λ b le. h b (omega arith)) in
    let s : unless (eqb (n a) w) (tally (f a)) ≡ unless (eqb (m a) w) (tally (f a)) = ap (λ (v : ℕ). unless (eqb v w) (tally (f a))) (h a (omega arith)) in
    omega (arith, s, t)

-- LOOKING
pub differs_leaves : (a n : ℕ) (ws : List ℕ) (m : Memory) → leaves (differs a n ws) m ≡ m
unfolding differs leaves
differs_leaves a n [] m = refl
differs_leaves a n (w ∷ ws) m =
    elim (eqb (m a) w) as (λ b. leaves (cond b (differs (a + 1) n ws) (differs (a + 1) (n + 1) ws)) m ≡ m) [
      | true ↦ differs_leaves (a + 1) n ws m
      | false ↦ differs_leaves (a + 1) (n + 1) ws m
    ]

pub differs_comes : (a n : ℕ) (ws : List ℕ) (m : Memory) → comes_to (differs a n ws) m ≡ n + differing a ws m
unfolding differs comes_to differing_of
differs_comes a n [] m = omega arith
differs_comes a n (w ∷ ws) m =
    elim (eqb (m a) w) as (λ b. comes_to (cond b (differs (a + 1) n ws) (differs (a + 1) (n + 1) ws)) m ≡ n + (unless b 1 + differing (a + 1) ws m)) [
      | true ↦ let ih = differs_comes (a + 1) n ws m in omega (arith, ih)
      | false ↦ let ih = differs_comes (a + 1) (n + 1) ws m in omega (arith, ih)
    ]

pub differs_stores : (f : ℕ → Bool) (a n : ℕ) (ws : List ℕ) (m : Memory) → stores_of f (differs a n ws) m ≡ 0
unfolding differs stores_of
differs_stores f a n [] m = refl
differs_stores f a n (w ∷ ws) m =
    elim (eqb (m a) w) as (λ b. stores_of f (cond b (differs (a + 1) n ws) (differs (a + 1) (n + 1) ws)) m ≡ 0) [
      | true ↦ differs_stores f (a + 1) n ws m
      | false ↦ differs_stores f (a + 1) (n + 1) ws m
    ]

-- COPYING
pub copies_stores : (f : ℕ → Bool) (a : ℕ) (ws : List ℕ) (m : Memory) → stores_of f (copies a ws) m ≡ differing_of f a ws m
unfolding copies stores_of differing_of
copies_stores f a [] m = refl
copies_stores f a (w ∷ ws) m =
    elim (eqb (m a) w) as (λ b. stores_of f (cond b (copies (a + 1) ws) (store a w (copies (a + 1) ws))) m ≡ unless b (tally (f a)) + differing_of f (a + 1) ws m) [
      | true ↦ let ih = copies_stores f (a + 1) ws m in omega (arith, ih)
      | false ↦
          let ih = copies_stores f (a + 1) ws (stored a w m) in
          let s = differing_same f (a + 1) ws m (stored a w m) (λ b le. stored_other a w m b (λ is. omega arith)) in
          omega (arith, ih, s)
    ]

apart : (t : Bool) (b a : ℕ) → (b ≡ a → ⊥) → unless t (tally (eqb b a)) ≡ 0
apart true b a ne = refl
apart false b a ne = cond-false _ _ _ (ne_eqb b a ne)

small : (t u : Bool) → unless t (tally u) ≤ 1
small true u = omega arith
small false true = omega arith
small false false = omega arith

below_none : (b a : ℕ) (ws : List ℕ) (m : Memory) → b < a → differing_of (eqb b) a ws m ≡ 0
unfolding differing_of
below_none b a [] m lt = refl
below_none b a (w ∷ ws) m lt =
    let ih = below_none b (a + 1) ws m (omega arith) in
    let s = apart (eqb (m a) w) b a (λ is. omega arith) in
    omega (arith, ih, s)

at_most_once : (b a : ℕ) (ws : List ℕ) (m : Memory) → differing_of (eqb b) a ws m ≤ 1
unfolding differing_of
at_most_once b a [] m = omega arith
at_most_once b a (w ∷ ws) m =
    elim (cases_eq b a) [
      | inl is ↦ let z = below_none b (a + 1) ws m (omega arith) in let s = small (eqb (m a) w) (eqb b a) in omega (arith, z, s)
      | inr ne ↦ let ih = at_most_once b (a + 1) ws m in let s = apart (eqb (m a) w) b a ne in omega (arith, ih, s)
    ]

copies_below : (a : ℕ) (ws : List ℕ) (m : Memory) (b : ℕ) → b < a → leaves (copies a ws) m b ≡ m b
unfolding copies leaves
copies_below a [] m b lt = refl
copies_below a (w ∷ ws) m b lt =
    elim (eqb (m a) w) as (λ t. leaves (cond t (copies (a + 1) ws) (store a w (copies (a + 1) ws))) m b ≡ m b) [
      | true ↦ copies_below (a + 1) ws m b (omega arith)
      | false ↦ copies_below (a + 1) ws (stored a w m) b (omega arith) ∙ stored_other a w m b (λ is. omega arith)
    ]

-- a word that is as it was in the end did not differ
copies_needed : (a : ℕ) (ws : List ℕ) (m : Memory) (b : ℕ) → leaves (copies a ws) m b ≡ m b → differing_of (eqb b) a ws m ≡ 0
unfolding copies leaves differing_of
copies_needed a [] m b h = refl
copies_needed a (w ∷ ws) m b h = pick (eqb (m a) w) refl h (copies_needed (a + 1) ws m b) (copies_needed (a + 1) ws (stored a w m) b)
  where
    n : Memory
    n = stored a w m

    pick : (t : Bool) → eqb (m a) w ≡ t → leaves (cond t (copies (a + 1) ws) (store a w (copies (a + 1) ws))) m b ≡ m b →
        (leaves (copies (a + 1) ws) m b ≡ m b → differing_of (eqb b) (a + 1) ws m ≡ 0) → (leaves (copies (a + 1) ws) (stored a w m) b ≡ stored a w m b → differing_of (eqb b) (a + 1) ws (stored a w m) ≡ 0) →
        unless t (tally (eqb b a)) + differing_of (eqb b) (a + 1) ws m ≡ 0
    pick true e h ih jh = let i = ih h in omega (arith, i)
    pick false e h ih jh =
        elim (cases_eq a b) [
          | inl is ↦ let v : w ≡ m a = sym (copies_below (a + 1) ws (stored a w m) b (omega arith) ∙ stored_same a w m b is) ∙ h ∙ ap m (sym is) in absurd (eqb-false (m a) w e (sym v))
          | inr ne ↦
              let i = jh (h ∙ sym (stored_other a w m b ne)) in
              let s = differing_same (eqb b) (a + 1) ws m (stored a w m) (λ c le. stored_other a w m c (λ is. omega arith)) in
              let z = apart false b a (λ is. ne (sym is)) in
              omega (arith, i, s, z)
        ]

-- A CHANGE
module _ (new : List ℕ) (m : Memory) where
  abbrev H : ℕ
  H = held_at (length new) (m 0)

  abbrev S : ℕ
  S = spare_at (length new) (m 0)

  -- what is done once it is known how many differ
  abbrev rest : Doing (Unit {0})
  rest = deciding (m 0) new (changing new m)

  found : comes_to (differs H 0 new) m ≡ changing new m
  found = let c = differs_comes H 0 new m in omega (arith, c)

  rest_stores : (f : ℕ → Bool) → stores_of f (commits new) m ≡ stores_of f rest m
  unfolding stores_of
  rest_stores f =
      let a = stores_then f (differs H 0 new) (deciding (m 0) new) m in
      let z = differs_stores f H 0 new m in
      let e : stores_of f (deciding (m 0) new (comes_to (differs H 0 new) m)) (leaves (differs H 0 new) m) ≡ stores_of f rest m =
      ap (λ (n : Memory). stores_of f (deciding (m 0) new (comes_to (differs H 0 new) m)) n) (differs_leaves H 0 new m) ∙ ap (λ (k : ℕ). stores_of f (deciding (m 0) new k) m) found in
      omega (arith, a, z, e)

  rest_leaves : leaves (commits new) m ≡ leaves rest m
  unfolding leaves
  rest_leaves =
      leaves_then (differs H 0 new) (deciding (m 0) new) m ∙
      ap (λ (n : Memory). leaves (deciding (m 0) new (comes_to (differs H 0 new) m)) n) (differs_leaves H 0 new m) ∙ ap (λ (k : ℕ). leaves (deciding (m 0) new k) m) found

  spare_past : 0 < S
  spare_past = elim (cases_Bool (eqb (m 0 % 2) 0)) [ inl t ↦ let e : S ≡ 1 + length new = cond-true _ _ _ t in omega (arith, e) | inr t ↦ let e : S ≡ 1 = cond-false _ _ _ t in omega (arith, e) ]

  turned_other : turned (m 0) ≡ m 0 → ⊥
  turned_other h = elim (cases_Bool (eqb (m 0 % 2) 0)) [ inl t ↦ let e : turned (m 0) ≡ 1 = cond-true _ _ _ t in let v = eqb-true _ _ t in omega (arith, e, v) | inr t ↦ let e : turned (m 0) ≡ 0 = cond-false _ _ _ t in let v : m 0 % 2 ≡ 0 → ⊥ = eqb-false _ _ t in v (omega (arith, e)) ]

  module _ (few : changing new m ≤ 1) where
    is_few : rest ≡ copies H new
    is_few = cond-true _ _ _ (le-leb _ _ few)

    few_stores : (f : ℕ → Bool) → stores_of f (commits new) m ≡ differing_of f H new m
    few_stores f = rest_stores f ∙ ap (λ (p : Doing (Unit {0})). stores_of f p m) is_few ∙ copies_stores f H new m

    few_needed : (b : ℕ) → leaves (commits new) m b ≡ m b → stores_of (eqb b) (commits new) m ≡ 0
    few_needed b h = few_stores (eqb b) ∙ copies_needed H new m b (ap (λ (p : Doing (Unit {0})). leaves p m b) (sym is_few) ∙ ap (λ (n : Memory). n b) (sym rest_leaves) ∙ h)

  module _ (many : 1 < changing new m) where
    is_many : rest ≡ turning (m 0) new
    is_many = cond-false _ _ _ (lt-leb _ _ many)

    many_stores : (f : ℕ → Bool) → stores_of f (commits new) m ≡ differing_of f S new m + tally (f 0)
    unfolding stores_of
    many_stores f =
        let a = stores_then f (copies S new) (λ _. store 0 (turned (m 0)) (done (tt {0}))) m in
        let c = copies_stores f S new m in
        let r : stores_of f (commits new) m ≡ stores_of f (turning (m 0) new) m = rest_stores f ∙ ap (λ (p : Doing (Unit {0})). stores_of f p m) is_many in
        omega (arith, a, c, r)

    many_leaves : leaves (commits new) m ≡ stored 0 (turned (m 0)) (leaves (copies S new) m)
    unfolding leaves
    many_leaves = rest_leaves ∙ ap (λ (p : Doing (Unit {0})). leaves p m) is_many ∙ leaves_then (copies S new) (λ _. store 0 (turned (m 0)) (done (tt {0}))) m

    many_once : (b : ℕ) → stores_of (eqb b) (commits new) m ≤ 1
    many_once b =
        let e = many_stores (eqb b) in
        elim (cases_eq b 0) [
          | inl is ↦ let z = below_none b S new m (let p = spare_past in omega (arith, p)) in let s = small false (eqb b 0) in omega (arith, e, z, s)
          | inr ne ↦ let o = at_most_once b S new m in let z = apart false b 0 ne in omega (arith, e, o, z)
        ]

    many_needed : (b : ℕ) → leaves (commits new) m b ≡ m b → stores_of (eqb b) (commits new) m ≡ 0
    many_needed b h =
        let at : stored 0 (turned (m 0)) (leaves (copies S new) m) b ≡ m b = ap (λ (n : Memory). n b) (sym many_leaves) ∙ h in
        elim (cases_eq 0 b) [
          | inl is ↦ absurd (turned_other (sym (stored_same 0 (turned (m 0)) (leaves (copies S new) m) b is) ∙ at ∙ ap m (sym is)))
          | inr ne ↦
              let n = copies_needed S new m b (sym (stored_other 0 (turned (m 0)) (leaves (copies S new) m) b ne) ∙ at) in
              let z = apart false b 0 (λ is. ne (sym is)) in
              let e = many_stores (eqb b) in
              omega (arith, e, n, z)
        ]

  pub budget : Budget new m
  budget =
      record {
        none = λ z. few_stores (omega (arith, z)) (λ _. true) ∙ z;
        one = λ z. few_stores (omega (arith, z)) (λ _. true) ∙ z;
        more = λ gt. many_stores gt (λ _. true);
        once = λ b. elim (cases_Bool (leb (changing new m) 1)) [ inl t ↦ let e = few_stores (leb-true _ _ t) (eqb b) in let o = at_most_once b H new m in omega (arith, e, o) | inr t ↦ many_once (leb-false _ _ t) b ];
        needed = λ b h. elim (cases_Bool (leb (changing new m) 1)) [ inl t ↦ few_needed (leb-true _ _ t) b h | inr t ↦ many_needed (leb-false _ _ t) b h ];
      }
