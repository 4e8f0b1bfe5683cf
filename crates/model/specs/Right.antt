-- Right code, said at a size that a contract can name: with its two relations given, and with what follows of every run of one code.
-- Assumes nothing.
use Rattle.std.specs.Prelude.{◌≡◌, ◌⊎◌, List}
use Rattle.model.specs.Memory.{Memory, blank_memory, comes_to, leaves, Halfway, Fits, Code, Meant, Happens, Stand, awake, Run, MayHappen}

-- Right, field by field, by these two relations
pub record RightBy {C R : Type 0} (j : Meant C R) (e : Code C R) (Tells : Memory → j.State → Type 0) (Awake : e.Mind → Memory → j.State → Type 0) : Type 0 where
  pub at_first_lem : Tells blank_memory j.start
  pub wakes : (m : Memory) (s : j.State) → Tells m s → Fits e.wakes m × Awake (comes_to e.wakes m) (leaves e.wakes m) s
  pub cut_waking : (m n : Memory) (s : j.State) → Tells m s → Halfway e.wakes m n → Tells n s
  pub answers : (x : e.Mind) (m : Memory) (s : j.State) (c : C) → Awake x m s → Fits (e.does c x) m × ((t : j.State) × j.May c s (comes_to (e.does c x) m).reply t × Awake (comes_to (e.does c x) m).mind (leaves (e.does c x) m) t)
  pub cut_answering : (x : e.Mind) (m n : Memory) (s : j.State) (c : C) → Awake x m s → Halfway (e.does c x) m n → Tells n (j.dark s) ⊎ ((r : R) × (t : j.State) × j.May c s r t × Tells n (j.dark t))
  pub goes_dark : (x : e.Mind) (m : Memory) (s : j.State) → Awake x m s → Tells m (j.dark s)

-- of every run of that code: what happened may happen
abbrev pub RunsRight : {C R : Type 0} → Meant C R → Code C R → Type 0
RunsRight {C} {R} j e = (es : List (Happens C R)) (x : Stand e.Mind) → Run e es x → (s : j.State) × MayHappen j es s

-- and wherever a run has come, the next call uses only words that there are
abbrev pub RunsFit : {C R : Type 0} → Code C R → Type 0
RunsFit {C} {R} e = (es : List (Happens C R)) (x : e.Mind) (m : Memory) (c : C) → Run e es (awake x m) → Fits (e.does c x) m

-- the dark settles at once, and the start is dark already
pub record Darkens {C R : Type 0} (j : Meant C R) : Type 0 where
  pub twice : (s : j.State) → j.dark (j.dark s) ≡ j.dark s
  pub first : j.dark j.start ≡ j.start
