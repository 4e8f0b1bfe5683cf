-- Words that a battery keeps, code over them, and what it is for code to be right wherever the power fails.
-- Assumes nothing.
use Rattle.std.specs.Prelude.{◌≡◌, ℕ, ◌<◌, cond, ◌⊎◌, List, [], ◌∷◌, ◌==◌}

-- 262,144 words of 64 bits, at first 0; a word is stored as a whole
abbrev pub Memory : Type 0
Memory = ℕ → ℕ

abbrev pub words : ℕ
words = 262144

abbrev pub blank_memory : Memory
blank_memory a = 0

abbrev pub stored : ℕ → ℕ → Memory → Memory
stored a w m b = cond (a == b) w (m b)

-- CODE: it loads a word, stores one, or is done with a result
pub data Doing (A : Type 0) : Type 0 where
  done : A → Doing A
  load : (at : ℕ) → (ℕ → Doing A) → Doing A
  store : (at word : ℕ) → Doing A → Doing A

unfoldable pub comes_to : {A : Type 0} → Doing A → Memory → A
comes_to (done a) m = a
comes_to (load a k) m = comes_to (k (m a)) m
comes_to (store a w p) m = comes_to p (stored a w m)

unfoldable pub leaves : {A : Type 0} → Doing A → Memory → Memory
leaves (done a) m = m
leaves (load a k) m = leaves (k (m a)) m
leaves (store a w p) m = leaves p (stored a w m)

-- what the memory may be when the power fails somewhere in it: before the first store, between any two, or after the last
pub data Halfway {A : Type 0} : Doing A → Memory → Memory → Type 0 where
  here : {p : Doing A} {m : Memory} → Halfway p m m
  after_load : {a : ℕ} {k : ℕ → Doing A} {m n : Memory} → Halfway (k (m a)) m n → Halfway (load a k) m n
  after_store : {a w : ℕ} {p : Doing A} {m n : Memory} → Halfway p (stored a w m) n → Halfway (store a w p) m n

-- it uses only words that there are, and stores words of 64 bits
pub data Fits {A : Type 0} : Doing A → Memory → Type 0 where
  fits_done : {a : A} {m : Memory} → Fits (done a) m
  fits_load : {a : ℕ} {k : ℕ → Doing A} {m : Memory} → a < words → Fits (k (m a)) m → Fits (load a k) m
  fits_store : {a w : ℕ} {p : Doing A} {m : Memory} → a < words → w < 18446744073709551616 → Fits p (stored a w m) → Fits (store a w p) m

-- what a program does: the mind is all that it has in memory that the dark takes; wakes makes one from the kept words, does answers a call
pub record Code (C R : Type 0) : Type 1 where
  pub Mind : Type 0
  pub wakes : Doing Mind
  pub does : C → Mind → Doing (record { reply : R; mind : Mind })

-- what it is meant to do: May says which answer and state a call may lead to, dark what is left of a state when the power fails
pub record Meant (C R : Type 0) : Type 1 where
  pub State : Type 0
  pub start : State
  pub May : C → State → R → State → Type 0
  pub dark : State → State

-- RIGHT: there are two relations, of which state a memory tells in the dark (Tells) and of which state a mind and a memory tell (Awake), such that
-- the blank memory tells of the start; waking tells of the same state, also where it is cut, again and again;
-- a call answers what it may and mind and memory then tell of what it may leave; where it is cut the memory tells of the dark of the state before, or of one that the call may leave; and so between calls.
pub record Right {C R : Type 0} (j : Meant C R) (e : Code C R) : Type 1 where
  pub Tells : Memory → j.State → Type 0
  pub Awake : e.Mind → Memory → j.State → Type 0
  pub at_first_lem : Tells blank_memory j.start
  pub wakes : (m : Memory) (s : j.State) → Tells m s → Fits e.wakes m × Awake (comes_to e.wakes m) (leaves e.wakes m) s
  pub cut_waking : (m n : Memory) (s : j.State) → Tells m s → Halfway e.wakes m n → Tells n s
  pub answers : (x : e.Mind) (m : Memory) (s : j.State) (c : C) → Awake x m s → Fits (e.does c x) m × ((t : j.State) × j.May c s (comes_to (e.does c x) m).reply t × Awake (comes_to (e.does c x) m).mind (leaves (e.does c x) m) t)
  pub cut_answering : (x : e.Mind) (m n : Memory) (s : j.State) (c : C) → Awake x m s → Halfway (e.does c x) m n → Tells n (j.dark s) ⊎ ((r : R) × (t : j.State) × j.May c s r t × Tells n (j.dark t))
  pub goes_dark : (x : e.Mind) (m : Memory) (s : j.State) → Awake x m s → Tells m (j.dark s)

-- EVERY RUN

-- what a watcher sees, the latest first
pub data Happens (C R : Type 0) : Type 0 where
  answered : C → R → Happens C R
  cut_in : C → Happens C R
  cut_else : Happens C R

pub data Stand (Mind : Type 0) : Type 0 where
  asleep : Memory → Stand Mind
  awake : Mind → Memory → Stand Mind

-- the code from the blank memory on, cut wherever the power fails
pub data Run {C R : Type 0} (e : Code C R) : List (Happens C R) → Stand e.Mind → Type 0 where
  blank : Run e [] (asleep blank_memory)
  wakes : {es : List (Happens C R)} {m : Memory} → Run e es (asleep m) → Run e es (awake (comes_to e.wakes m) (leaves e.wakes m))
  is_cut_waking : {es : List (Happens C R)} {m n : Memory} → Run e es (asleep m) → Halfway e.wakes m n → Run e (cut_else ∷ es) (asleep n)
  does : {es : List (Happens C R)} {x : e.Mind} {m : Memory} (c : C) → Run e es (awake x m) → Run e (answered c (comes_to (e.does c x) m).reply ∷ es) (awake (comes_to (e.does c x) m).mind (leaves (e.does c x) m))
  is_cut : {es : List (Happens C R)} {x : e.Mind} {m n : Memory} (c : C) → Run e es (awake x m) → Halfway (e.does c x) m n → Run e (cut_in c ∷ es) (asleep n)
  darkens : {es : List (Happens C R)} {x : e.Mind} {m : Memory} → Run e es (awake x m) → Run e (cut_else ∷ es) (asleep m)

-- what is meant to be seen: a call that was answered was done; one that was cut was done or not
pub data MayHappen {C R : Type 0} (j : Meant C R) : List (Happens C R) → j.State → Type 0 where
  nothing : MayHappen j [] j.start
  is_answered : {es : List (Happens C R)} {s t : j.State} {c : C} {r : R} → MayHappen j es s → j.May c s r t → MayHappen j (answered c r ∷ es) t
  wasnt : {es : List (Happens C R)} {s : j.State} {c : C} → MayHappen j es s → MayHappen j (cut_in c ∷ es) (j.dark s)
  was : {es : List (Happens C R)} {s t : j.State} {c : C} {r : R} → MayHappen j es s → j.May c s r t → MayHappen j (cut_in c ∷ es) (j.dark t)
  got_dark : {es : List (Happens C R)} {s : j.State} → MayHappen j es s → MayHappen j (cut_else ∷ es) (j.dark s)

-- of every run of right code, what happened may happen
abbrev pub RightIsRight : Type 1
RightIsRight =
    (C R : Type 0) (j : Meant C R) (e : Code C R) → Right j e → ((s : j.State) → j.dark (j.dark s) ≡ j.dark s) → (j.dark j.start ≡ j.start) → (es : List (Happens C R)) (x : Stand e.Mind) → Run e es x → (s : j.State) × MayHappen j es s
