-- Carrying out what is stopped and started.
-- Assumes nothing.
use Rattle.std.proofs.Common.{◌≡◌, ℕ, Bool, true, false, cond, not, ◌&&◌, ◌||◌, eqb, ◌⊎◌, List, [], ◌∷◌, ◌++◌, map, sym, refl, ap, ◌∙◌, inl, inr}
use Rattle.std.proofs.lemmas.Bool.{eqb-true, true≢false}
use Rattle.model.specs.Lists.{some, keep, find}
use Rattle.model.specs.Calls.{Seen, Order}
use Rattle.model.specs.World.{is_order, is_seen}
use Rattle.agents.specs.Memory.{Deed, stop, start}
use Rattle.agents.specs.Moves.{kept, started, stop_for, start_for, stops_for, starts_for, deeds_for}
use Rattle.agents.specs.Carried.{did, carried, Carries, CarriedOut}

carried_append : (ds es : List Deed) (f : ℕ → Bool) → carried (ds ++ es) f ≡ carried es (carried ds f)
unfolding carried
carried_append [] es f = refl
carried_append (d ∷ ds) es f = carried_append ds es (did d f)

-- what stopping leaves of a task
abbrev stays : List Seen → Bool → Bool → ℕ → Bool
stays after ran was j = cond ran (cond (some (is_seen j) after) was false) was

module _ (after : List Seen) (j : ℕ) where
  stop_one_lem : (i : ℕ) (f : ℕ → Bool) → carried (stop_for after i) f j ≡ stays after (eqb j i) (f j) j
  unfolding carried
  stop_one_lem i f = pick (eqb j i) refl (some (is_seen i) after) refl
    where
      pick : (b : Bool) → eqb j i ≡ b → (c : Bool) → some (is_seen i) after ≡ c → carried (cond c [] (stop i ∷ [])) f j ≡ stays after b (f j) j
      pick true e true s = let q : some (is_seen j) after ≡ true = ap (λ (x : ℕ). some (is_seen x) after) (eqb-true j i e) ∙ s in sym (rw q)
      pick true e false s = let q : some (is_seen j) after ≡ false = ap (λ (x : ℕ). some (is_seen x) after) (eqb-true j i e) ∙ s in rw (e, q)
      pick false e true s = refl
      pick false e false s = rw e

  stays_twice : (a b : Bool) (w : Bool) → stays after b (stays after a w j) j ≡ stays after (a || b) w j
  stays_twice a b w = pick a b (some (is_seen j) after)
    where
      pick : (a b c : Bool) → cond b (cond c (cond a (cond c w false) w) false) (cond a (cond c w false) w) ≡ cond (a || b) (cond c w false) w
      pick true true true = refl
      pick true true false = refl
      pick true false true = refl
      pick true false false = refl
      pick false b c = refl

  stop_all_lem : (xs : List Seen) (f : ℕ → Bool) → carried (stops_for after xs) f j ≡ stays after (some (is_seen j) xs) (f j) j
  unfolding carried some
  stop_all_lem [] f = refl
  stop_all_lem (x ∷ xs) f =
      let h = stop_all_lem xs (carried (stop_for after x.id) f) in
      ap (λ (g : ℕ → Bool). g j) (carried_append (stop_for after x.id) (stops_for after xs) f) ∙ h ∙ ap (λ (w : Bool). stays after (some (is_seen j) xs) w j) (stop_one_lem x.id f) ∙ stays_twice (eqb j x.id) (some (is_seen j) xs) (f j)

-- what is looked for is found, or isn't there
data Looked (p : Order → Bool) (os : List Order) : Type 0 where
  absent : find p os ≡ [] → some p os ≡ false → Looked p os
  there : (o : Order) → find p os ≡ o ∷ [] → p o ≡ true → some p os ≡ true → Looked p os

looked : (p : Order → Bool) (os : List Order) → Looked p os
unfolding find some
looked p [] = absent refl refl
looked p (o ∷ os) = pick (p o) refl (looked p os)
  where
    pick : (b : Bool) → p o ≡ b → Looked p os → Looked p (o ∷ os)
    pick true e h = there o (rw e) e (rw e)
    pick false e (absent a b) = absent (rw e a) (rw e b)
    pick false e (there x a b c) = there x (rw e a) b (rw e c)

-- what starting makes of a task
abbrev too : Bool → Bool → Bool → Bool → Bool
too now ran ordered was = cond (now && not ran && ordered) true was

module _ (before : List Seen) (os : List Order) (j : ℕ) where
  start_one_lem : (i : ℕ) (g : ℕ → Bool) → carried (start_for before os i) g j ≡ too (eqb j i) (some (is_seen j) before) (some (is_order j) os) (g j)
  unfolding carried
  start_one_lem i g = pick (eqb j i) refl (some (is_seen i) before) refl (looked (is_order i) os)
    where
      pick : (b : Bool) → eqb j i ≡ b → (c : Bool) → some (is_seen i) before ≡ c → Looked (is_order i) os → carried (cond c [] (map start (find (is_order i) os))) g j ≡ too b (some (is_seen j) before) (some (is_order j) os) (g j)
      pick true e true s h = let q : some (is_seen j) before ≡ true = ap (λ (x : ℕ). some (is_seen x) before) (eqb-true j i e) ∙ s in sym (rw q)
      pick true e false s (absent a b) = let q : some (is_seen j) before ≡ false = ap (λ (x : ℕ). some (is_seen x) before) (eqb-true j i e) ∙ s in let r : some (is_order j) os ≡ false = ap (λ (x : ℕ). some (is_order x) os) (eqb-true j i e) ∙ b in rw (a, q, r)
      pick true e false s (there o a t b) =
          let q : some (is_seen j) before ≡ false = ap (λ (x : ℕ). some (is_seen x) before) (eqb-true j i e) ∙ s in let r : some (is_order j) os ≡ true = ap (λ (x : ℕ). some (is_order x) os) (eqb-true j i e) ∙ b in
          let k : eqb j o.id ≡ true = ap (eqb j) (sym (eqb-true i o.id t)) ∙ e in rw (a, q, r, k)
      pick false e true s h = refl
      pick false e false s (absent a b) = rw a
      pick false e false s (there o a t b) = let k : eqb j o.id ≡ false = ap (eqb j) (sym (eqb-true i o.id t)) ∙ e in rw (a, k)

  too_twice : (a b r o w : Bool) → too b r o (too a r o w) ≡ too (a || b) r o w
  too_twice true true true o w = refl
  too_twice true true false true w = refl
  too_twice true true false false w = refl
  too_twice true false true o w = refl
  too_twice true false false true w = refl
  too_twice true false false false w = refl
  too_twice false b r o w = refl

  start_all_lem : (ys : List Seen) (g : ℕ → Bool) → carried (starts_for before os ys) g j ≡ too (some (is_seen j) ys) (some (is_seen j) before) (some (is_order j) os) (g j)
  unfolding carried some
  start_all_lem [] g = refl
  start_all_lem (y ∷ ys) g =
      let h = start_all_lem ys (carried (start_for before os y.id) g) in
      ap (λ (k : ℕ → Bool). k j) (carried_append (start_for before os y.id) (starts_for before os ys) g) ∙ h ∙ ap (too (some (is_seen j) ys) (some (is_seen j) before) (some (is_order j) os)) (start_one_lem y.id g) ∙
      too_twice (eqb j y.id) (some (is_seen j) ys) (some (is_seen j) before) (some (is_order j) os) (g j)

-- what runs after ran before, or is ordered
started_in : (j : ℕ) (os : List Order) (xs : List Seen) → some (is_seen j) (started os xs) ≡ true → (some (is_seen j) xs ≡ true) ⊎ (some (is_order j) os ≡ true)
unfolding started some
started_in j [] xs e = inl e
started_in j (o ∷ os) xs e = pick (some (is_seen o.id) (started os xs)) (eqb j o.id) refl (started_in j os xs) e
  where
    more : (some (is_seen j) xs ≡ true) ⊎ (some (is_order j) os ≡ true) → eqb j o.id ≡ false → (some (is_seen j) xs ≡ true) ⊎ ((eqb j o.id || some (is_order j) os) ≡ true)
    more (inl h) f = inl h
    more (inr h) f = inr (rw f h)

    pick : (c b : Bool) → eqb j o.id ≡ b → (some (is_seen j) (started os xs) ≡ true → (some (is_seen j) xs ≡ true) ⊎ (some (is_order j) os ≡ true)) →
        some (is_seen j) (cond c (started os xs) (record { id = o.id; ready = false } ∷ started os xs)) ≡ true → (some (is_seen j) xs ≡ true) ⊎ ((eqb j o.id || some (is_order j) os) ≡ true)
    pick c true f h q = inr (rw f)
    pick true false f h q = more (h q) f
    pick false false f h q = more (h (sym (ap (λ (t : Bool). t || some (is_seen j) (started os xs)) f) ∙ q)) f

kept_in : (j : ℕ) (p : Seen → Bool) (xs : List Seen) → some (is_seen j) (keep p xs) ≡ true → some (is_seen j) xs ≡ true
unfolding keep some
kept_in j p [] e = e
kept_in j p (x ∷ xs) e = pick (p x) (eqb j x.id) refl (kept_in j p xs) e
  where
    pick : (c b : Bool) → eqb j x.id ≡ b → (some (is_seen j) (keep p xs) ≡ true → some (is_seen j) xs ≡ true) → some (is_seen j) (cond c (x ∷ keep p xs) (keep p xs)) ≡ true → (eqb j x.id || some (is_seen j) xs) ≡ true
    pick c true e h q = rw e
    pick true false e h q = rw e (h (sym (ap (λ (t : Bool). t || some (is_seen j) (keep p xs)) e) ∙ q))
    pick false false e h q = rw e (h q)

-- all deeds together, where whatever runs only after is ordered
carries : (before after : List Seen) (os : List Order) (j : ℕ) → (some (is_seen j) after ≡ true → some (is_seen j) before ≡ false → some (is_order j) os ≡ true) → carried (deeds_for before after os) (λ i. some (is_seen i) before) j ≡ some (is_seen j) after
carries before after os j f =
    ap (λ (k : ℕ → Bool). k j) (carried_append (stops_for after before) (starts_for before os after) (λ i. some (is_seen i) before)) ∙ start_all_lem before os j after (carried (stops_for after before) (λ i. some (is_seen i) before)) ∙
    ap (too (some (is_seen j) after) (some (is_seen j) before) (some (is_order j) os)) (stop_all_lem after j before (λ i. some (is_seen i) before)) ∙ pick (some (is_seen j) after) (some (is_seen j) before) (some (is_order j) os) f
  where
    pick : (a b o : Bool) → (a ≡ true → b ≡ false → o ≡ true) → too a b o (cond b (cond a b false) b) ≡ a
    pick true true o g = refl
    pick true false true g = refl
    pick true false false g = g refl refl
    pick false true o g = refl
    pick false false o g = refl

carries_from : (before left : List Seen) (os : List Order) (j : ℕ) → (some (is_seen j) left ≡ true → some (is_seen j) before ≡ true) → Carries before left os j
carries_from before left os j g = carries before (started os left) os j (λ a b. pick (started_in j os left a) b)
  where
    pick : (some (is_seen j) left ≡ true) ⊎ (some (is_order j) os ≡ true) → some (is_seen j) before ≡ false → some (is_order j) os ≡ true
    pick (inl h) b = absurd (true≢false (sym (g h) ∙ b))
    pick (inr h) b = h

pub carried_out_lem : CarriedOut
carried_out_lem before os j = (carries_from before (kept os before) os j (kept_in j _ before), carries_from before before os j (λ h. h))
