-- Tasks by rising numbers: a number stands for one task, and what drops or changes tasks, or adds one at the end, keeps the order.
-- Assumes nothing.
use Rattle.std.proofs.Common.{◌≡◌, ℕ, suc, ◌<◌, ◌≤◌, true, leb, List, [], ◌∷◌, ◌++◌, sym, refl, ap, ◌∙◌, inl, inr, le_trans, arith}
use Rattle.std.proofs.lemmas.Bool.{and_parts, and_from, leb-true, le-leb}
use Rattle.model.specs.State.{Task}
use Rattle.model.specs.Promise.{rising_tasks}
use Rattle.model.proofs.Lists.{In, Pass, done, gone, goes}

abbrev pub Rising : ℕ → List Task → Type 0
Rising n [] = Unit {0}
Rising n (t ∷ ts) = (n ≤ t.id) × Rising (suc t.id) ts

pub rising_from : (n : ℕ) (ts : List Task) → rising_tasks n ts ≡ true → Rising n ts
unfolding rising_tasks
rising_from n [] e = tt
rising_from n (t ∷ ts) e = let p = and_parts (leb n t.id) (rising_tasks (suc t.id) ts) e in (leb-true n t.id p.0, rising_from (suc t.id) ts p.1)

pub rising_to : (n : ℕ) (ts : List Task) → Rising n ts → rising_tasks n ts ≡ true
unfolding rising_tasks
rising_to n [] r = refl
rising_to n (t ∷ ts) r = and_from (leb n t.id) (rising_tasks (suc t.id) ts) (le-leb n t.id r.0) (rising_to (suc t.id) ts r.1)

pub rising_low : (m n : ℕ) (ts : List Task) → m ≤ n → Rising n ts → Rising m ts
rising_low m n [] l r = tt
rising_low m n (t ∷ ts) l r = (le_trans l r.0, r.1)

-- all numbers are at least the first
pub rising_over : (n : ℕ) (ts : List Task) → Rising n ts → (t : Task) → In t ts → n ≤ t.id
rising_over n [] r t h = absurd h
rising_over n (u ∷ us) r t (inl e) = let p : t.id ≡ u.id = ap (λ (x : Task). x.id) e in omega arith
rising_over n (u ∷ us) r t (inr h) = let p : suc u.id ≤ t.id = rising_over (suc u.id) us r.1 t h in omega arith

-- one task by a number
pub rising_one : (n : ℕ) (ts : List Task) → Rising n ts → (t u : Task) → In t ts → In u ts → t.id ≡ u.id → t ≡ u
rising_one n [] r t u h k e = absurd h
rising_one n (x ∷ xs) r t u (inl p) (inl q) e = p ∙ sym q
rising_one n (x ∷ xs) r t u (inl p) (inr k) e =
    let a : t.id ≡ x.id = ap (λ (y : Task). y.id) p in let b : suc x.id ≤ u.id = rising_over (suc x.id) xs r.1 u k in absurd (omega arith)
rising_one n (x ∷ xs) r t u (inr h) (inl q) e =
    let a : u.id ≡ x.id = ap (λ (y : Task). y.id) q in let b : suc x.id ≤ t.id = rising_over (suc x.id) xs r.1 t h in absurd (omega arith)
rising_one n (x ∷ xs) r t u (inr h) (inr k) e = rising_one (suc x.id) xs r.1 t u h k e

-- a pass that keeps numbers keeps the order
pub rising_pass : (D : Task → Type 0) (R : Task → Task → Type 0) → ((x y : Task) → R x y → y.id ≡ x.id) → (n : ℕ) {xs ys : List Task} → Pass D R xs ys → Rising n xs → Rising n ys
rising_pass D R h n done r = tt
rising_pass D R h n (gone {x = x} {ys = ys} k p) r = let l : n ≤ suc x.id = omega arith in rising_low n (suc x.id) ys l (rising_pass D R h (suc x.id) p r.1)
rising_pass D R h n (goes {x = x} {y = y} {ys = ys} k p) r =
    let e : y.id ≡ x.id = h x y k in (omega arith, rising_low (suc y.id) (suc x.id) ys (omega arith) (rising_pass D R h (suc x.id) p r.1))

pub rising_end : (n : ℕ) (ts : List Task) (u : Task) → Rising n ts → ((t : Task) → In t ts → t.id < u.id) → n ≤ u.id → Rising n (ts ++ (u ∷ []))
rising_end n [] u r h l = (l, tt)
rising_end n (t ∷ ts) u r h l = (r.0, rising_end (suc t.id) ts u r.1 (λ x i. h x (inr i)) (h t (inl refl)))
