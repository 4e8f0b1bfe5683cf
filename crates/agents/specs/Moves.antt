-- What an agent's moves come to: what runs then, and what is stopped and started for it.
-- Assumes nothing.
use Rattle.std.specs.Prelude.{◌≡◌, ℕ, ◌<◌, false, cond, List, [], ◌∷◌, ◌++◌, map, length, Some, None, Option, slice_index_or}
use Rattle.std.specs.List.{flat_map}
use Rattle.model.specs.Lists.{some, keep, find}
use Rattle.model.specs.Calls.{Seen, Order}
use Rattle.model.specs.World.{is_order, is_seen}
use Rattle.agents.specs.Memory.{seens_of, Deed, stop, start}
use Rattle.wire.specs.Replies.{order_of}
use Rattle.wire.specs.declared.reply.Order as code
use Rattle.agents.specs.declared.order.Seen as codeSeen

-- of what runs, what is ordered
abbrev pub kept : List Order → List Seen → List Seen
kept os xs = keep (λ (x : Seen). some (is_order x.id) os) xs

-- what is ordered and doesn't run is started
abbrev pub started_one : ℕ → List Seen → List Seen
started_one i xs = cond (some (is_seen i) xs) xs (record { id = i; ready = false } ∷ xs)

unfoldable pub started : List Order → List Seen → List Seen
started [] xs = xs
started (o ∷ os) xs = started_one o.id (started os xs)

-- the first that was looked for, if any
abbrev pub Found : List Order → Option code.Order → Type 0
Found xs None = xs ≡ []
Found xs (Some o) = xs ≡ order_of o ∷ []

-- where a task stands among those that run, if it runs
abbrev pub PlacedAt : ℕ → List codeSeen.Seen → Option ℕ → Type 0
PlacedAt t xs None = some (is_seen t) (seens_of xs) ≡ false
PlacedAt t xs (Some i) = (i < length xs) × ((d : codeSeen.Seen) → (slice_index_or xs i d).task.0 ≡ t)

-- WHAT IS DONE ON THE MACHINE

-- a task that ran and runs no more is stopped
abbrev pub stop_for : List Seen → ℕ → List Deed
stop_for after i = cond (some (is_seen i) after) [] (stop i ∷ [])

-- one that runs only now is started, as it is ordered
abbrev pub start_for : List Seen → List Order → ℕ → List Deed
start_for before os i = cond (some (is_seen i) before) [] (map start (find (is_order i) os))

abbrev pub stops_for : List Seen → List Seen → List Deed
stops_for after xs = flat_map (λ (x : Seen). stop_for after x.id) xs

abbrev pub starts_for : List Seen → List Order → List Seen → List Deed
starts_for before os xs = flat_map (λ (x : Seen). start_for before os x.id) xs

-- all that is stopped first
abbrev pub deeds_for : List Seen → List Seen → List Order → List Deed
deeds_for before after os = stops_for after before ++ starts_for before os after

-- from what is left of what ran before: what runs after, and what is done for it
pub record Turned (before left : List Seen) (os : List Order) (after : List Seen) (ds : List Deed) : Type 0 where
  pub runs : after ≡ started os left
  pub deeds : ds ≡ deeds_for before after os
