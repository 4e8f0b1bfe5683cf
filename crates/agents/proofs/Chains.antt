-- Chains over the code's lists, as the model's words over what these stand for.
-- Assumes nothing.
use Rattle.std.proofs.Common.{◌≡◌, ℕ, Bool, true, false, cond, eqb, ltb, ◌||◌, List, [], ◌∷◌, map, length, filter, Some, None, Option, Ok, Err, Result, Vec, vec_items, IfOk, sym, refl, ap, ◌∙◌, subst, arith, ltb-true, ltb-false}
use Rattle.std.specs.List.{list_any, position_or_len}
use Rattle.std.specs.List as list
use Rattle.std.proofs.lemmas.List.Elements.{All-from_get_or}
use Rattle.std.proofs.lemmas.Bool.{eqb-true}
use Rattle.std.proofs.lemmas.List.Folds.{list_any_none}
use Rattle.std.proofs.lemmas.List.Sums.{passes_at_first, fails_before_first}
use Rattle.std.specs.declared.alloc.Global.{Global}
use Rattle.std.specs.declared.alloc.AllocError.{AllocError}
use Rattle.model.specs.Calls as m
use Rattle.model.specs.Lists.{some, keep, find}
use Rattle.model.specs.World.{is_order, is_seen}
use Rattle.agents.specs.Memory.{seen_of, seens_of}
use Rattle.wire.specs.Replies.{order_of, orders_of}
use Rattle.agents.specs.Moves.{Found, PlacedAt, kept}
use Rattle.wire.specs.declared.reply.Order.{Order}
use Rattle.agents.specs.declared.order.Seen.{Seen}

pub some_as : {X Y : Type 0} (f : X → Y) (p : Y → Bool) (xs : List X) → list_any (λ x. p (f x)) xs ≡ some p (map f xs)
unfolding some
some_as f p [] = refl
some_as f p (x ∷ xs) = ap (λ (b : Bool). p (f x) || b) (some_as f p xs)

pub keep_as : {X Y : Type 0} (f : X → Y) (p : Y → Bool) (xs : List X) → map f (filter (λ x. p (f x)) xs) ≡ keep p (map f xs)
unfolding keep
keep_as f p [] = refl
keep_as f p (x ∷ xs) = pick (p (f x)) (keep_as f p xs)
  where
    pick : (b : Bool) → map f (filter (λ x. p (f x)) xs) ≡ keep p (map f xs) → map f (cond b (x ∷ filter (λ x. p (f x)) xs) (filter (λ x. p (f x)) xs)) ≡ cond b (f x ∷ keep p (map f xs)) (keep p (map f xs))
    pick true h = ap (λ ys. f x ∷ ys) h
    pick false h = h

-- what is kept of what runs, if there was memory for it
pub kept_from : (os : List Order) (xs : List Seen) (r : Result (Vec Seen Global) AllocError) → IfOk r (λ v. vec_items v ≡ filter (λ (x : Seen). some (is_order x.task.0) (orders_of os)) xs) → IfOk r (λ v. seens_of (vec_items v) ≡ kept (orders_of os) (seens_of xs))
kept_from os xs (Ok v) e = ap seens_of e ∙ keep_as seen_of (λ (x : m.Seen). some (is_order x.id) (orders_of os)) xs
kept_from os xs (Err e) h = tt

-- the order that is found for a task
pub found_as : (t : ℕ) (os : List Order) → Found (find (is_order t) (orders_of os)) (list.find (λ (o : Order). eqb t o.task.0) os)
unfolding find
found_as t [] = refl
found_as t (o ∷ os) = pick (eqb t o.task.0) (found_as t os)
  where
    pick : (b : Bool) → Found (find (is_order t) (orders_of os)) (list.find (λ (x : Order). eqb t x.task.0) os) → Found (cond b (order_of o ∷ []) (find (is_order t) (orders_of os))) (cond b (Some o) (list.find (λ (x : Order). eqb t x.task.0) os))
    pick true h = refl
    pick false h = h

-- where the first stands that runs a task
pub placed_as : (t : ℕ) (xs : List Seen) (r : Option ℕ) → r ≡ cond (ltb (position_or_len (λ (x : Seen). eqb t x.task.0) xs) (length xs)) (Some (position_or_len (λ (x : Seen). eqb t x.task.0) xs)) None → PlacedAt t xs r
placed_as t xs r e = subst (PlacedAt t xs) (sym e) (pick (ltb at (length xs)) refl)
  where
    at : ℕ
    at = position_or_len (λ (x : Seen). eqb t x.task.0) xs

    none : Seen
    none = record { task = record { 0 = 0 }; ready = false }

    pick : (b : Bool) → ltb at (length xs) ≡ b → PlacedAt t xs (cond b (Some at) None)
    pick true h = let l = ltb-true at (length xs) h in (l, λ d. sym (eqb-true t _ (passes_at_first (λ (x : Seen). eqb t x.task.0) xs d l)))
    pick false h =
        let l = ltb-false at (length xs) h in
        sym (some_as seen_of (is_seen t) xs) ∙ list_any_none (λ (x : Seen). eqb t x.task.0) xs (All-from_get_or (λ (x : Seen). eqb t x.task.0 ≡ false) xs none (λ k m. fails_before_first (λ (x : Seen). eqb t x.task.0) xs k none (omega arith)))
