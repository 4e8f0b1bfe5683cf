-- Doings one after the other, and code that has come from one place in a doing to another: what is left to do, and with which memory.
-- Assumes nothing.
use Rattle.std.proofs.Common.{◌≡◌, ℕ, eqb, Result, sym, refl, ◌∙◌, subst, subst₂, MatchResult}
use Rattle.std.proofs.lemmas.Result.{MatchResult-weaker}
use Rattle.std.proofs.lemmas.Bool.{eq-eqb, ne_eqb, cond-true, cond-false}
use Rattle.model.specs.Memory.{Memory, stored, Doing, done, load, store, comes_to, leaves, Halfway, here, after_load, after_store}
use Rattle.device.specs.Follows.{Ended, Follows, and_then}

pub stored_same : (a w : ℕ) (m : Memory) (b : ℕ) → a ≡ b → stored a w m b ≡ w
stored_same a w m b e = cond-true (eqb a b) w (m b) (eq-eqb a b e)

pub stored_other : (a w : ℕ) (m : Memory) (b : ℕ) → (a ≡ b → ⊥) → stored a w m b ≡ m b
stored_other a w m b ne = cond-false (eqb a b) w (m b) (ne_eqb a b ne)

pub comes_to_then : {A B : Type 0} (p : Doing A) (f : A → Doing B) (m : Memory) → comes_to (and_then p f) m ≡ comes_to (f (comes_to p m)) (leaves p m)
unfolding and_then comes_to leaves
comes_to_then (done a) f m = refl
comes_to_then (load a k) f m = comes_to_then (k (m a)) f m
comes_to_then (store a w p) f m = comes_to_then p f (stored a w m)

pub leaves_then : {A B : Type 0} (p : Doing A) (f : A → Doing B) (m : Memory) → leaves (and_then p f) m ≡ leaves (f (comes_to p m)) (leaves p m)
unfolding and_then comes_to leaves
leaves_then (done a) f m = refl
leaves_then (load a k) f m = leaves_then (k (m a)) f m
leaves_then (store a w p) f m = leaves_then p f (stored a w m)

-- p with m, so far, is q with n
pub record Leads {A : Type 0} (p : Doing A) (m : Memory) (q : Doing A) (n : Memory) : Type 0 where
  pub comes : comes_to p m ≡ comes_to q n
  pub left : leaves p m ≡ leaves q n
  pub half : (o : Memory) → Halfway q n o → Halfway p m o

pub leads_here : {A : Type 0} (p : Doing A) (m : Memory) → Leads p m p m
leads_here p m = record { comes = refl; left = refl; half = λ o h. h }

pub leads_more : {A : Type 0} {p q r : Doing A} {m n o : Memory} → Leads p m q n → Leads q n r o → Leads p m r o
leads_more s t = record { comes = s.comes ∙ t.comes; left = s.left ∙ t.left; half = λ x h. s.half x (t.half x h) }

-- a word stored, where the code's memory is then e
pub leads_store : {A : Type 0} {p : Doing A} {m : Memory} (a w : ℕ) (q : Doing A) (n e : Memory) → Leads p m (store a w q) n → e ≡ stored a w n → Leads p m q e
unfolding comes_to leaves
leads_store {p} {m} a w q n e l is =
    subst (λ (x : Memory). Leads p m q x) (sym is) (record { comes = l.comes; left = l.left; half = λ o h. l.half o (after_store h) })

-- a word loaded, where the code's word is then v
pub leads_load : {A : Type 0} {p : Doing A} {m : Memory} (a : ℕ) (k : ℕ → Doing A) (n : Memory) (v : ℕ) → Leads p m (load a k) n → v ≡ n a → Leads p m (k v) n
unfolding comes_to leaves
leads_load {p} {m} a k n v l is =
    subst (λ (x : ℕ). Leads p m (k x) n) (sym is) (record { comes = l.comes; left = l.left; half = λ o h. l.half o (after_load h) })

-- what is left to do, written otherwise
pub leads_as : {A : Type 0} {p : Doing A} {m n : Memory} {q : Doing A} (r : Doing A) → Leads p m q n → q ≡ r → Leads p m r n
leads_as {p} {m} {n} r l e = subst (λ (x : Doing _). Leads p m x n) e l

-- cut here
pub leads_cut : {A : Type 0} {p : Doing A} {m n : Memory} {q : Doing A} (e : Memory) → Leads p m q n → e ≡ n → Halfway p m e
leads_cut {p} {m} {n} e l is = subst (λ (x : Memory). Halfway p m x) (sym is) (l.half n here)

pub leads_done : {A : Type 0} {p : Doing A} {m n : Memory} (a : A) → Leads p m (done a) n → Ended p m a n
unfolding comes_to leaves
leads_done a l = record { comes = l.comes; left = l.left }

-- a part: cut in it, or at its end
halfway_in : {A B : Type 0} {q : Doing A} {n o : Memory} (f : A → Doing B) → Halfway q n o → Halfway (and_then q f) n o
unfolding and_then
halfway_in f here = here
halfway_in f (after_load h) = after_load (halfway_in f h)
halfway_in f (after_store h) = after_store (halfway_in f h)

halfway_past : {A B : Type 0} (q : Doing A) (f : A → Doing B) (n o : Memory) → Halfway (f (comes_to q n)) (leaves q n) o → Halfway (and_then q f) n o
unfolding and_then comes_to leaves
halfway_past (done a) f n o h = h
halfway_past (load a k) f n o h = after_load (halfway_past (k (n a)) f n o h)
halfway_past (store a w q) f n o h = after_store (halfway_past q f (stored a w n) o h)

pub leads_part_cut : {A B : Type 0} {p : Doing B} {m n o : Memory} {q : Doing A} (f : A → Doing B) → Leads p m (and_then q f) n → Halfway q n o → Halfway p m o
leads_part_cut {o} f l h = l.half o (halfway_in f h)

pub leads_part : {A B : Type 0} {p : Doing B} {m n o : Memory} {q : Doing A} {a : A} (f : A → Doing B) → Leads p m (and_then q f) n → Ended q n a o → Leads p m (f a) o
leads_part {p} {m} {n} {o} {q} {a} f l e =
    subst₂ (λ x y. Leads p m (f x) y) e.comes e.left
    (leads_more l (record { comes = comes_to_then q f n; left = leaves_then q f n; half = λ x h. halfway_past q f n x h }))

-- the last store of a function
pub follows_store : {A E : Type 0} {p : Doing A} {m : Memory} (a w : ℕ) (x : A) (n e : Memory) (r : Result (Unit {0}) E) → Leads p m (store a w (done x)) n → MatchResult r (λ _. e ≡ stored a w n) (λ _. e ≡ n) → Follows p m r x e
follows_store a w x n e r l c = MatchResult-weaker r c (λ _ is. leads_done x (leads_store a w (done x) n e l is)) (λ _ is. leads_cut e l is)

-- a doing that is done after p is cut where p is
pub halfway_before : {A B : Type 0} (p : Doing A) (f : A → B) (m n : Memory) → Halfway (and_then p (λ a. done (f a))) m n → Halfway p m n
unfolding and_then
halfway_before (done a) f m n here = here
halfway_before (load a q) f m n here = here
halfway_before (load a q) f m n (after_load h) = after_load (halfway_before (q (m a)) f m n h)
halfway_before (store a w q) f m n here = here
halfway_before (store a w q) f m n (after_store h) = after_store (halfway_before q f (stored a w m) n h)
