-- What is stopped and started, as one chain.
-- Assumes nothing.
use Rattle.std.proofs.Common.{◌≡◌, ℕ, Bool, true, false, cond, eqb, not, List, [], ◌∷◌, ◌++◌, map, filter, Some, None, Option, Ok, Err, Result, Vec, vec_items, IfOk, sym, refl, ap, ◌∙◌}
use Rattle.std.specs.List.{filter_map}
use Rattle.std.specs.List as list
use Rattle.std.specs.Option.{option_map}
use Rattle.std.proofs.lemmas.List.{map-append}
use Rattle.std.specs.declared.alloc.Global.{Global}
use Rattle.std.specs.declared.alloc.AllocError.{AllocError}
use Rattle.model.specs.Calls as m
use Rattle.model.specs.Lists.{some, find}
use Rattle.model.specs.World.{is_order, is_seen}
use Rattle.agents.specs.Memory.{deed_of, deeds_of, seens_of, stop, start}
use Rattle.wire.specs.Replies.{orders_of}
use Rattle.agents.specs.Moves.{Found, deeds_for, stops_for, starts_for}
use Rattle.wire.specs.declared.reply.Order.{Order}
use Rattle.agents.specs.declared.order.Seen.{Seen}
use Rattle.agents.specs.declared.order.Deed.{Deed}
use Rattle.agents.specs.declared.order.Deed.TheVariants.{Stop, Start}
use Rattle.agents.proofs.Chains.{found_as}

-- whether a task of the code's doesn't run among these
abbrev pub idle : List m.Seen → Seen → Bool
idle xs x = not (some (is_seen x.task.0) xs)

abbrev pub stopped : Seen → Deed
stopped x = Stop x.task

-- its start, if it is ordered
abbrev pub restart : List Order → Seen → Option Deed
restart os x = option_map Start (list.find (λ (o : Order). eqb x.task.0 o.task.0) os)

stops_as : (after : List m.Seen) (xs : List Seen) → deeds_of (map stopped (filter (idle after) xs)) ≡ stops_for after (seens_of xs)
stops_as after [] = refl
stops_as after (x ∷ xs) = pick (some (is_seen x.task.0) after) (stops_as after xs)
  where
    pick : (b : Bool) → deeds_of (map stopped (filter (idle after) xs)) ≡ stops_for after (seens_of xs) → deeds_of (map stopped (cond (not b) (x ∷ filter (idle after) xs) (filter (idle after) xs))) ≡ cond b [] (stop x.task.0 ∷ []) ++ stops_for after (seens_of xs)
    pick true h = h
    pick false h = ap (λ ds. stop x.task.0 ∷ ds) h

module _ (before : List m.Seen) (os : List Order) where
  one_start : (t : ℕ) (r : Option Order) (ds : List Deed) → Found (find (is_order t) (orders_of os)) r → deeds_of (list.cons_option (option_map Start r) ds) ≡ map start (find (is_order t) (orders_of os)) ++ deeds_of ds
  one_start t None ds f = ap (λ xs. map start xs ++ deeds_of ds) (sym f)
  one_start t (Some o) ds f = ap (λ xs. map start xs ++ deeds_of ds) (sym f)

  starts_as : (xs : List Seen) → deeds_of (filter_map (restart os) (filter (idle before) xs)) ≡ starts_for before (orders_of os) (seens_of xs)
  starts_as [] = refl
  starts_as (x ∷ xs) = pick (some (is_seen x.task.0) before) (starts_as xs)
    where
      pick : (b : Bool) → deeds_of (filter_map (restart os) (filter (idle before) xs)) ≡ starts_for before (orders_of os) (seens_of xs) →
          deeds_of (filter_map (restart os) (cond (not b) (x ∷ filter (idle before) xs) (filter (idle before) xs))) ≡ cond b [] (map start (find (is_order x.task.0) (orders_of os))) ++ starts_for before (orders_of os) (seens_of xs)
      pick true h = h
      pick false h = one_start x.task.0 _ (filter_map (restart os) (filter (idle before) xs)) (found_as x.task.0 os) ∙ ap (λ ds. map start (find (is_order x.task.0) (orders_of os)) ++ ds) h

-- all of them, if there was memory for it
pub deeds_from : (before after : List Seen) (os : List Order) (r : Result (Vec Deed Global) AllocError) →
    IfOk r (λ v. vec_items v ≡ map stopped (filter (idle (seens_of after)) before) ++ filter_map (restart os) (filter (idle (seens_of before)) after)) → IfOk r (λ v. deeds_of (vec_items v) ≡ deeds_for (seens_of before) (seens_of after) (orders_of os))
deeds_from before after os (Ok v) e =
    ap deeds_of e ∙ map-append deed_of (map stopped (filter (idle (seens_of after)) before)) (filter_map (restart os) (filter (idle (seens_of before)) after)) ∙
    ap (λ ds. ds ++ deeds_of (filter_map (restart os) (filter (idle (seens_of before)) after))) (stops_as (seens_of after) before) ∙ ap (λ ds. stops_for (seens_of after) (seens_of before) ++ ds) (starts_as (seens_of before) os after)
deeds_from before after os (Err e) h = tt
