-- One task among those that run.
-- Assumes nothing.
use Rattle.std.proofs.Common.{◌≡◌, ℕ, suc, Bool, false, List, ◌∷◌, ◌++◌, get_or, take, drop, set, Some, sym, ap, ◌∙◌, subst, add-one}
use Rattle.std.proofs.lemmas.List.{take-append-drop, drop_more, map-append, set_split}
use Rattle.std.specs.List.{remove}
use Rattle.model.specs.Calls as m
use Rattle.agents.specs.Memory.{seen_of, seens_of}
use Rattle.agents.specs.Moves.{PlacedAt}
use Rattle.agents.specs.Steps.{Marked, Gone}
use Rattle.agents.specs.declared.order.Seen.{Seen}

none : Seen
none = record { task = record { 0 = 0 }; ready = false }

module _ (t i : ℕ) (lent xs : List Seen) (e : lent ≡ xs) (p : PlacedAt t lent (Some i)) where
  at : PlacedAt t xs (Some i)
  at = subst (λ (ys : List Seen). PlacedAt t ys (Some i)) e p

  parts : seens_of xs ≡ seens_of (take i xs) ++ seen_of (get_or xs i none) ∷ seens_of (drop (suc i) xs)
  parts =
      let s : xs ≡ take i xs ++ get_or xs i none ∷ drop (suc i) xs = sym (take-append-drop i xs) ∙ ap (λ (ys : List Seen). take i xs ++ ys) (drop_more xs i none at.0 ∙ ap (λ (n : ℕ). get_or xs i none ∷ drop n xs) (add-one i)) in
      ap seens_of s ∙ map-append seen_of (take i xs) (get_or xs i none ∷ drop (suc i) xs)

  pub gone_at : (ys : List Seen) → ys ≡ remove xs i → Gone t (seens_of xs) (seens_of ys)
  gone_at ys r =
      record {
        before = seens_of (take i xs);
        behind = seens_of (drop (suc i) xs);
        found = seen_of (get_or xs i none);
        id = at.1 none;
        was = parts;
        is = ap seens_of r ∙ map-append seen_of (take i xs) (drop (suc i) xs);
      }

  pub marked_at : (x : Seen) (b : Bool) → x.task.0 ≡ t → x.ready ≡ b → Marked t b (seens_of xs) (seens_of (set xs i x))
  marked_at x b k r =
      let v : seen_of x ≡ record { id = (seen_of (get_or xs i none)).id; ready = b } = λ j. record { id = (k ∙ sym (at.1 none)) j; ready = r j } in
      record {
        before = seens_of (take i xs);
        behind = seens_of (drop (suc i) xs);
        found = seen_of (get_or xs i none);
        id = at.1 none;
        was = parts;
        is = ap seens_of (set_split xs i x at.0) ∙ map-append seen_of (take i xs) (x ∷ drop (suc i) xs) ∙ ap (λ (y : m.Seen). seens_of (take i xs) ++ y ∷ seens_of (drop (suc i) xs)) v;
      }
