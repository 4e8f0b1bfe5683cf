-- How often a call of a service stores.
-- Assumes nothing.
use Rattle.std.proofs.Common.{◌≡◌, ℕ, ◌+◌, ◌≤◌, Bool, true, false, eqb, leb, List, ap, ◌∙◌, inl, inr, arith}
use Rattle.std.proofs.lemmas.Bool.{leb-true, leb-false, cond-true, cond-false, cases_Bool}
use Rattle.model.specs.Memory.{Memory, Doing, done}
use Rattle.device.specs.Halves.{commits}
use Rattle.device.specs.Budget.{stores_of, stores_in, changing, stale}
use Rattle.device.specs.Service.{Service, keeping, answering, CallBudget}
use Rattle.device.proofs.Stores.{stores_then, budget}

module _ {C R X : Type 0} (v : Service C R X) (c : C) (x : X) (m : Memory) where
  abbrev new : List ℕ
  new = v.home_of (v.says c x).mind

  call_stores : (f : ℕ → Bool) → stores_of f (answering v c x) m ≡ stores_of f (keeping (v.keeps c x) new) m
  unfolding stores_of
  call_stores f = let a = stores_then f (keeping (v.keeps c x) new) (λ _. done (v.says c x)) m in omega (arith, a)

  call_none : (f : ℕ → Bool) → v.keeps c x ≡ false → stores_of f (answering v c x) m ≡ 0
  unfolding stores_of
  call_none f e = call_stores f ∙ ap (λ (p : Doing (Unit {0})). stores_of f p m) (cond-false _ _ _ e)

  call_commits : (f : ℕ → Bool) → v.keeps c x ≡ true → stores_of f (answering v c x) m ≡ stores_of f (commits new) m
  call_commits f e = call_stores f ∙ ap (λ (p : Doing (Unit {0})). stores_of f p m) (cond-true _ _ _ e)

  -- a change stores at most what the other half has otherwise, and word 0
  at_most : stores_in (commits new) m ≤ stale new m + 1
  at_most =
      let b = budget new m in
      elim (cases_Bool (leb (changing new m) 1)) [
        | inl t ↦
            let le = leb-true _ _ t in
            elim (cases_Bool (leb (changing new m) 0)) [
              | inl u ↦ let le' = leb-true _ _ u in let z = b.none (omega (arith, le')) in omega (arith, z)
              | inr u ↦ let gt = leb-false _ _ u in let z = b.one (omega (arith, le, gt)) in omega (arith, z)
            ]
        | inr t ↦ let z = b.more (leb-false _ _ t) in omega (arith, z)
      ]

  pub call_budget : CallBudget v c x m
  call_budget =
      let b = budget new m in
      record {
        shows = call_none (λ _. true);
        none = λ z. elim (cases_Bool (v.keeps c x)) [ inl t ↦ call_commits (λ _. true) t ∙ b.none z | inr t ↦ call_none (λ _. true) t ];
        one = λ t z. call_commits (λ _. true) t ∙ b.one z;
        more = elim (cases_Bool (v.keeps c x)) [ inl t ↦ let e = call_commits (λ _. true) t in let a = at_most in omega (arith, e, a) | inr t ↦ let e = call_none (λ _. true) t in omega (arith, e) ];
        once = λ k. elim (cases_Bool (v.keeps c x)) [ inl t ↦ let e = call_commits (eqb k) t in let a = b.once k in omega (arith, e, a) | inr t ↦ let e = call_none (eqb k) t in omega (arith, e) ];
      }
