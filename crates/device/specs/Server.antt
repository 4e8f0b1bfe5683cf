-- A SERVER: a service that is free in which home words a mind has, as one that keeps rows is. What it may say to a call is a relation.
-- Assumes nothing.
use Rattle.std.specs.Prelude.{◌≡◌, ℕ, ◌*◌, ◌<◌, Bool, false, List, length, slice_index}
use Rattle.model.specs.Memory.{Memory, words, done, Meant}
use Rattle.model.specs.Ways.{Ways}
use Rattle.device.specs.Follows.{and_then}
use Rattle.device.specs.Halves.{wakening, Holds}
use Rattle.device.specs.Service.{Said, finishing, zeros}

-- Says c x y b: to the call c, with the mind x, it may say y, and b tells whether home words may have changed
pub record Server (C R X : Type 0) : Type 1 where
  pub size : ℕ
  pub home_of : X → List ℕ
  pub wake_of : List ℕ → X
  pub Says : C → X → Said R X → Bool → Type 0

-- ITS CODE: each way of saying something allowed, with the words then kept
abbrev pub ways_of : {C R X : Type 0} → Server C R X → Ways C R
ways_of {C} {R} {X} v =
    record {
      Mind = X;
      wakes = and_then (wakening v.size) (λ h. done (v.wake_of h));
      Does = λ c x d. (y : Said R X) × (b : Bool) × v.Says c x y b × (d ≡ finishing b (v.home_of y.mind) y);
    }

-- WHAT IS OWED, as of a service
pub record Allows {C R X : Type 0} (j : Meant C R) (v : Server C R X) (Stands : X → j.State → Type 0) : Type 0 where
  pub room : 2 * v.size < words
  pub sized : (x : X) (s : j.State) → Stands x s → length (v.home_of x) ≡ v.size
  pub small : (x : X) (s : j.State) → Stands x s → (i : ℕ) → slice_index (v.home_of x) i < 18446744073709551616
  pub first : Stands (v.wake_of (zeros v.size)) j.start
  pub blank : v.home_of (v.wake_of (zeros v.size)) ≡ zeros v.size
  pub answers : (c : C) (x : X) (y : Said R X) (b : Bool) (s : j.State) → Stands x s → v.Says c x y b → (t : j.State) × j.May c s y.reply t × Stands y.mind t
  pub still : (c : C) (x : X) (y : Said R X) (s : j.State) → Stands x s → v.Says c x y false → v.home_of y.mind ≡ v.home_of x
  pub wakes : (x : X) (s : j.State) → Stands x s → Stands (v.wake_of (v.home_of x)) (j.dark s)
  pub again : (x : X) (s : j.State) → Stands x s → v.home_of (v.wake_of (v.home_of x)) ≡ v.home_of x

-- the two relations by which its code is right
pub record TellsOf {C R X : Type 0} (j : Meant C R) (v : Server C R X) (Stands : X → j.State → Type 0) (m : Memory) (s : j.State) : Type 0 where
  pub home : List ℕ
  pub sized : length home ≡ v.size
  pub held : Holds home m
  pub back : v.home_of (v.wake_of home) ≡ home
  pub stands : Stands (v.wake_of home) s

pub record AwakeOf {C R X : Type 0} (j : Meant C R) (v : Server C R X) (Stands : X → j.State → Type 0) (x : X) (m : Memory) (s : j.State) : Type 0 where
  pub held : Holds (v.home_of x) m
  pub stands : Stands x s
