-- What moves make of what runs.
-- Assumes nothing.
use Rattle.std.proofs.Common.{◌≡◌, ℕ, Bool, true, false, cond, List, [], ◌∷◌, ◌++◌, map, length, sym, refl, ap, ◌∙◌, arith}
use Rattle.std.proofs.lemmas.List.{map_push}
use Rattle.model.specs.Lists.{some}
use Rattle.model.specs.Calls.{Seen, Order}
use Rattle.model.specs.World.{is_seen}
use Rattle.wire.specs.Replies.{order_of, orders_of}
use Rattle.agents.specs.Moves.{started_one, started}
use Rattle.wire.specs.declared.reply.Order as code

-- the last order is started first
pub started_push : (os : List Order) (o : Order) (xs : List Seen) → started (os ++ (o ∷ [])) xs ≡ started os (started_one o.id xs)
unfolding started
started_push [] o xs = refl
started_push (p ∷ os) o xs = ap (started_one p.id) (started_push os o xs)

pub started_step : (rest left : List code.Order) (o : code.Order) (acc acc' all : List Seen) → rest ≡ left ++ (o ∷ []) → acc' ≡ started_one o.task.0 acc → started (orders_of rest) acc ≡ all → started (orders_of left) acc' ≡ all
started_step rest left o acc acc' all r s inv =
    ap (started (orders_of left)) s ∙ sym (started_push (orders_of left) (order_of o) acc) ∙ ap (λ (ys : List Order). started ys acc) (sym (ap orders_of r ∙ map_push order_of left o)) ∙ inv

pub started_done : (rest : List code.Order) (acc all : List Seen) → length rest ≡ 0 → started (orders_of rest) acc ≡ all → acc ≡ all
unfolding started
started_done [] acc all l inv = inv
started_done (o ∷ rest) acc all l inv = absurd (omega arith)

-- one more in front
pub started_one_lem : {X : Type 0} (f : X → Seen) (b : Bool) (ys xs : List X) (x : X) (i : ℕ) → ys ≡ cond b (x ∷ xs) xs → b ≡ true → f x ≡ record { id = i; ready = false } → some (is_seen i) (map f xs) ≡ false → map f ys ≡ started_one i (map f xs)
started_one_lem f b ys xs x i e t v n = ap (map f) (e ∙ ap (λ (w : Bool). cond w (x ∷ xs) xs) t) ∙ ap (λ (y : Seen). y ∷ map f xs) v ∙ rw n
