-- A SERVICE: what answers calls, told by pure functions, with its home words kept in two halves. Its code, and what makes that code right.
-- Assumes nothing.
use Rattle.std.specs.Prelude.{◌≡◌, ℕ, ◌+◌, ◌*◌, ◌<◌, ◌≤◌, Bool, true, false, cond, List, length, replicate, slice_index}
use Rattle.model.specs.Memory.{Memory, words, Doing, done, Code, Meant}
use Rattle.device.specs.Follows.{and_then}
use Rattle.device.specs.Budget.{stores_in, stores_at, changing, stale}
use Rattle.device.specs.Halves.{commits, wakening, Holds}

abbrev pub Said : Type 0 → Type 0 → Type 0
Said R X = record { reply : R; mind : X }

-- calls C, replies R and minds X: how many home words there are, which they are of a mind, which mind wakes from words;
-- what is said to a call; and whether home words may have changed with it (where not, nothing is compared)
pub record Service (C R X : Type 0) : Type 0 where
  pub size : ℕ
  pub home_of : X → List ℕ
  pub wake_of : List ℕ → X
  pub says : C → X → Said R X
  pub keeps : C → X → Bool

-- THE CODE of a service
abbrev pub keeping : Bool → List ℕ → Doing (Unit {0})
keeping b h = cond b (commits h) (done tt)

-- and then the answer is handed on
abbrev pub finishing : {A : Type 0} → Bool → List ℕ → A → Doing A
finishing b h a = and_then (keeping b h) (λ _. done a)

abbrev pub waking : {C R X : Type 0} → Service C R X → Doing X
waking v = and_then (wakening v.size) (λ h. done (v.wake_of h))

abbrev pub answering : {C R X : Type 0} → Service C R X → C → X → Doing (Said R X)
answering v c x = finishing (v.keeps c x) (v.home_of (v.says c x).mind) (v.says c x)

abbrev pub code_of : {C R X : Type 0} → Service C R X → Code C R
code_of {C} {R} {X} v = record { Mind = X; wakes = waking v; does = answering v }

-- the words of a memory that was never used
abbrev pub zeros : ℕ → List ℕ
zeros n = replicate n 0

-- WHAT IS OWED for a service to be right for a meaning: a relation of minds and states, Stands, such that
pub record Serves {C R X : Type 0} (j : Meant C R) (v : Service C R X) (Stands : X → j.State → Type 0) : Type 0 where
  -- two halves and word 0 have room
  pub room : 2 * v.size < words
  -- a mind that stands for a state has as many home words as there are, each of 64 bits
  pub sized : (x : X) (s : j.State) → Stands x s → length (v.home_of x) ≡ v.size
  pub small : (x : X) (s : j.State) → Stands x s → (i : ℕ) → slice_index (v.home_of x) i < 18446744073709551616
  -- from the blank memory a mind wakes that stands for the start, and has these words
  pub first : Stands (v.wake_of (zeros v.size)) j.start
  pub blank : v.home_of (v.wake_of (zeros v.size)) ≡ zeros v.size
  -- what is said is allowed, and the mind stands again
  pub answers : (c : C) (x : X) (s : j.State) → Stands x s → (t : j.State) × j.May c s (v.says c x).reply t × Stands (v.says c x).mind t
  -- where nothing is kept, no home word changed
  pub still : (c : C) (x : X) (s : j.State) → Stands x s → v.keeps c x ≡ false → v.home_of (v.says c x).mind ≡ v.home_of x
  -- from the home words a mind wakes that stands for the dark of the state, and has the same home words
  pub wakes : (x : X) (s : j.State) → Stands x s → Stands (v.wake_of (v.home_of x)) (j.dark s)
  pub again : (x : X) (s : j.State) → Stands x s → v.home_of (v.wake_of (v.home_of x)) ≡ v.home_of x

-- THE TWO RELATIONS by which its code is then right: in the dark, the words that are held wake as a mind that stands; and the mind's own words are held
pub record Tells {C R X : Type 0} (j : Meant C R) (v : Service C R X) (Stands : X → j.State → Type 0) (m : Memory) (s : j.State) : Type 0 where
  pub home : List ℕ
  pub sized : length home ≡ v.size
  pub held : Holds home m
  pub back : v.home_of (v.wake_of home) ≡ home
  pub stands : Stands (v.wake_of home) s

pub record Awake {C R X : Type 0} (j : Meant C R) (v : Service C R X) (Stands : X → j.State → Type 0) (x : X) (m : Memory) (s : j.State) : Type 0 where
  pub held : Holds (v.home_of x) m
  pub stands : Stands x s

-- THE BUDGET of a call: none that shows or changes nothing stores, one that changes one word stores it, and none stores a word twice
pub record CallBudget {C R X : Type 0} (v : Service C R X) (c : C) (x : X) (m : Memory) : Type 0 where
  pub shows : v.keeps c x ≡ false → stores_in (answering v c x) m ≡ 0
  pub none : changing (v.home_of (v.says c x).mind) m ≡ 0 → stores_in (answering v c x) m ≡ 0
  pub one : v.keeps c x ≡ true → changing (v.home_of (v.says c x).mind) m ≡ 1 → stores_in (answering v c x) m ≡ 1
  pub more : stores_in (answering v c x) m ≤ stale (v.home_of (v.says c x).mind) m + 1
  pub once : (b : ℕ) → stores_at b (answering v c x) m ≤ 1
