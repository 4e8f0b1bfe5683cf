-- The best of machines, one more row at a time.
-- Assumes nothing.
use Rattle.std.proofs.Common.{◌≡◌, ℕ, ◌+◌, ◌-◌, ◌<◌, ◌≤◌, Bool, true, false, cond, not, ◌&&◌, ltb, leb, List, [], ◌∷◌, ◌++◌, Some, None, Option, refl, ap, ◌∙◌, inl, inr, arith, rules}
use Rattle.std.proofs.lemmas.List.{append-nil}
use Rattle.std.proofs.lemmas.Bool.{cases_Bool, ltb-true, ltb-false, lt-ltb, le-ltb, leb-true, and_parts}
use Rattle.model.specs.Lists.{keep, every}
use Rattle.model.specs.State as s
use Rattle.model.specs.Settle.{takes, present, best, better, left}
use Rattle.jobs.specs.Rows.{span}
use Rattle.jobs.proofs.Spans.{span_more}
use Rattle.settling.specs.Place.{LoadBy, fits_on_lem, has_tag_lem, improved, Chosen}
use Rattle.settling.specs.declared.load.Load.{Load}
use Rattle.settling.specs.declared.load.Choice.{Choice}
use Rattle.settling.proofs.Scans.{keep_yes, keep_no}

module _ (ts : List s.Task) where
  -- the better of the best so far and one more
  add : List s.Machine → s.Machine → List s.Machine
  add [] x = x ∷ []
  add (b ∷ bs) x = cond (ltb (left b ts) (left x ts)) (x ∷ []) (b ∷ [])

  both : (m x : s.Machine) (zs : List s.Machine) → better m (add zs x) ts ≡ add (better m zs ts) x
  unfolding add
  both m x [] = refl
  both m x (b ∷ bs) =
      elim (cases_Bool (ltb (left b ts) (left x ts))) [
        | inl p ↦ elim (cases_Bool (ltb (left m ts) (left b ts))) [
          | inl q ↦ (let r : ltb (left m ts) (left x ts) ≡ true = lt-ltb _ _ (omega (arith, ltb-true (left b ts) (left x ts) p, ltb-true (left m ts) (left b ts) q)) in simp (p, q, r))
          | inr q ↦ simp (p, q)
        ]
        | inr p ↦ elim (cases_Bool (ltb (left m ts) (left b ts))) [
          | inl q ↦ simp (p, q)
          | inr q ↦ (let r : ltb (left m ts) (left x ts) ≡ false = le-ltb _ _ (omega (arith, ltb-false (left b ts) (left x ts) p, ltb-false (left m ts) (left b ts) q)) in simp (p, q, r))
        ]
      ]

  best_push : (xs : List s.Machine) (x : s.Machine) → best (xs ++ x ∷ []) ts ≡ add (best xs ts) x
  unfolding best add
  best_push [] x = refl
  best_push (m ∷ ms) x = ap (λ (zs : List s.Machine). better m zs ts) (best_push ms x) ∙ both m x (best ms ts)

pub best_none : (ts : List s.Task) → best [] ts ≡ []
unfolding best
best_none ts = refl

tag_fails : (o p e a c m : Bool) → e ≡ false → (o && p && e && a && c && m) ≡ false
tag_fails false p e a c m h = refl
tag_fails true false e a c m h = refl
tag_fails true true e a c m h = rw h

rest_fails : (o p e a c m : Bool) → (o && p && a && c && m) ≡ false → (o && p && e && a && c && m) ≡ false
rest_fails false p e a c m h = refl
rest_fails true false e a c m h = refl
rest_fails true true false a c m h = refl
rest_fails true true true a c m h = h

none_fails : (o p e a c m : Bool) → (o && p && a && c && m) ≡ true → e ≡ true → (o && p && e && a && c && m) ≡ true
none_fails false p e a c m h g = h
none_fails true false e a c m h g = h
none_fails true true e a c m h g = rw g h

module _ (time : ℕ) (t : s.Task) (ts : List s.Task) (m : s.Machine) (l : Load) where
  pub lacks_tag : every (has_tag_lem m) t.spec.tags ≡ false → takes time t ts m ≡ false
  lacks_tag e = search (rules, tag_fails)

  pub lacks_rest : LoadBy t.job m.num ts l → fits_on_lem time t.spec l m ≡ false → takes time t ts m ≡ false
  lacks_rest k e = let f = rw (k.cpu, k.mem, k.mine) at e in search (rules, rest_fails)

  pub lacks_none : LoadBy t.job m.num ts l → fits_on_lem time t.spec l m ≡ true → every (has_tag_lem m) t.spec.tags ≡ true → takes time t ts m ≡ true
  lacks_none k e g = let f = rw (k.cpu, k.mem, k.mine) at e in search (rules, none_fails)

  pub left_is : LoadBy t.job m.num ts l → m.cpu - l.cpu ≡ left m ts
  left_is k = ap (λ (n : ℕ). m.cpu - n) k.cpu

pub fits_cpu : (time : ℕ) (a : s.Spec) (l : Load) (m : s.Machine) → fits_on_lem time a l m ≡ true → l.cpu ≤ m.cpu
fits_cpu time a l m e =
    let x = and_parts (m.open' && present time m && not (a.apart && l.mine) && leb (l.cpu + a.cpu) m.cpu) (leb (l.mem + a.mem) m.mem) e in
    let y = and_parts (m.open' && present time m && not (a.apart && l.mine)) (leb (l.cpu + a.cpu) m.cpu) x.0 in
    omega (arith, leb-true (l.cpu + a.cpu) m.cpu y.1)

module _ (p : s.Machine → Bool) (ts : List s.Task) (f : ℕ → List s.Machine) (n k : ℕ) (within : k < n) where
  pub passes : (b : Option Choice) → f k ≡ [] → Chosen f n ts b (best (keep p (span f 0 k)) ts) → Chosen f n ts b (best (keep p (span f 0 (k + 1))) ts)
  passes b e c = let q : span f 0 (k + 1) ≡ span f 0 k = span_more f k ∙ ap (λ (xs : List s.Machine). span f 0 k ++ xs) e ∙ append-nil (span f 0 k) in rw q c

  module _ (m : s.Machine) (is : f k ≡ m ∷ []) where
    one : span f 0 (k + 1) ≡ span f 0 k ++ m ∷ []
    one = span_more f k ∙ ap (λ (xs : List s.Machine). span f 0 k ++ xs) is

    pub skips : (b : Option Choice) → p m ≡ false → Chosen f n ts b (best (keep p (span f 0 k)) ts) → Chosen f n ts b (best (keep p (span f 0 (k + 1))) ts)
    skips b no' c = rw (one, keep_no p (span f 0 k) m no') c

    this : (v : ℕ) (xs : List s.Machine) → v ≡ left m ts → xs ≡ m ∷ [] → Chosen f n ts (Some (record { at = k; left = v })) xs
    this v xs e g = (m, within, is, g, e)

    added : (b : Option Choice) (v : ℕ) (xs : List s.Machine) → v ≡ left m ts → Chosen f n ts b xs → Chosen f n ts (improved b k v) (add ts xs m)
    unfolding add
    added None v xs e c = this v _ e (rw c)
    added (Some b) v xs e c =
        elim (cases_Bool (ltb b.left v)) [
          | inl t ↦ (let u : ltb (left c.0 ts) (left m ts) ≡ true = rw (c.4, e) at t in rw t (this v _ e (rw (c.3, u))))
          | inr g ↦ (let u : ltb (left c.0 ts) (left m ts) ≡ false = rw (c.4, e) at g in
              let same' : add ts xs m ≡ xs = rw (c.3, u) in
              rw (g, same') c)
        ]

    pub tries : (b : Option Choice) (v : ℕ) → p m ≡ true → v ≡ left m ts → Chosen f n ts b (best (keep p (span f 0 k)) ts) → Chosen f n ts (improved b k v) (best (keep p (span f 0 (k + 1))) ts)
    tries b v is' e c = rw (one, keep_yes p (span f 0 k) m is', best_push ts (keep p (span f 0 k)) m) (added b v (best (keep p (span f 0 k)) ts) e c)
