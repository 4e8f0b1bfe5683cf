-- Code that is free in how it does a call, as a program is that keeps its state in rows and may choose the row: which doings a call may be, and what it is for all of them to be right.
-- Assumes nothing.
use Rattle.std.specs.Prelude.{◌⊎◌, List, [], ◌∷◌}
use Rattle.model.specs.Memory.{Memory, blank_memory, Doing, comes_to, leaves, Halfway, Fits, Code, Meant, Happens, answered, cut_in, cut_else, Stand, asleep, awake, MayHappen}
use Rattle.model.specs.Right.{RightBy}

pub record Ways (C R : Type 0) : Type 1 where
  pub Mind : Type 0
  pub wakes : Doing Mind
  pub Does : C → Mind → Doing (record { reply : R; mind : Mind }) → Type 0

-- Right, of every doing that a call may be
pub record RightWays {C R : Type 0} (j : Meant C R) (e : Ways C R) (Tells : Memory → j.State → Type 0) (Awake : e.Mind → Memory → j.State → Type 0) : Type 0 where
  pub at_first_lem : Tells blank_memory j.start
  pub wakes : (m : Memory) (s : j.State) → Tells m s → Fits e.wakes m × Awake (comes_to e.wakes m) (leaves e.wakes m) s
  pub cut_waking : (m n : Memory) (s : j.State) → Tells m s → Halfway e.wakes m n → Tells n s
  pub answers : (x : e.Mind) (m : Memory) (s : j.State) (c : C) (d : Doing (record { reply : R; mind : e.Mind })) → Awake x m s → e.Does c x d → Fits d m × ((t : j.State) × j.May c s (comes_to d m).reply t × Awake (comes_to d m).mind (leaves d m) t)
  pub cut_answering : (x : e.Mind) (m n : Memory) (s : j.State) (c : C) (d : Doing (record { reply : R; mind : e.Mind })) → Awake x m s → e.Does c x d → Halfway d m n → Tells n (j.dark s) ⊎ ((r : R) × (t : j.State) × j.May c s r t × Tells n (j.dark t))
  pub goes_dark : (x : e.Mind) (m : Memory) (s : j.State) → Awake x m s → Tells m (j.dark s)

-- every run, whichever ways its calls were done
pub data WaysRun {C R : Type 0} (e : Ways C R) : List (Happens C R) → Stand e.Mind → Type 0 where
  blank : WaysRun e [] (asleep blank_memory)
  wakes : {es : List (Happens C R)} {m : Memory} → WaysRun e es (asleep m) → WaysRun e es (awake (comes_to e.wakes m) (leaves e.wakes m))
  is_cut_waking : {es : List (Happens C R)} {m n : Memory} → WaysRun e es (asleep m) → Halfway e.wakes m n → WaysRun e (cut_else ∷ es) (asleep n)
  does : {es : List (Happens C R)} {x : e.Mind} {m : Memory} (c : C) (d : Doing (record { reply : R; mind : e.Mind })) → e.Does c x d → WaysRun e es (awake x m) → WaysRun e (answered c (comes_to d m).reply ∷ es) (awake (comes_to d m).mind (leaves d m))
  is_cut : {es : List (Happens C R)} {x : e.Mind} {m n : Memory} (c : C) (d : Doing (record { reply : R; mind : e.Mind })) → e.Does c x d → WaysRun e es (awake x m) → Halfway d m n → WaysRun e (cut_in c ∷ es) (asleep n)
  darkens : {es : List (Happens C R)} {x : e.Mind} {m : Memory} → WaysRun e es (awake x m) → WaysRun e (cut_else ∷ es) (asleep m)

-- what happened in it may happen
abbrev pub WaysRunRight : {C R : Type 0} → Meant C R → Ways C R → Type 0
WaysRunRight {C} {R} j e = (es : List (Happens C R)) (x : Stand e.Mind) → WaysRun e es x → (s : j.State) × MayHappen j es s

-- a code that does each call in one of these ways, and that all such codes are right as code is
abbrev pub picked : {C R : Type 0} (e : Ways C R) → (C → e.Mind → Doing (record { reply : R; mind : e.Mind })) → Code C R
picked e f = record { Mind = e.Mind; wakes = e.wakes; does = f }

abbrev pub PicksRight : {C R : Type 0} (j : Meant C R) (e : Ways C R) → (Memory → j.State → Type 0) → (e.Mind → Memory → j.State → Type 0) → Type 0
PicksRight {C} {R} j e Tells Awake = (f : C → e.Mind → Doing (record { reply : R; mind : e.Mind })) → ((c : C) (x : e.Mind) → e.Does c x (f c x)) → RightBy j (picked e f) Tells Awake
