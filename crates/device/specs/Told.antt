-- What it is to every run so far, and to the state that is meant, where code over a device followed a call or a waking.
-- Assumes nothing.
use Rattle.std.specs.Prelude.{◌⊎◌, List, ◌∷◌, Result, MatchResult}
use Rattle.model.specs.Memory.{Memory, Code, Meant, Happens, answered, cut_in, Stand, Run, asleep, awake}
use Rattle.device.specs.Service.{Said}

-- the run goes on, with the call answered or cut
abbrev pub GoesOn : {C R V E : Type 0} (e : Code C R) → C → e.Mind → Memory → Result V E → (V → Said R e.Mind) → Memory → Type 0
GoesOn {C} {R} e c x m r f n =
    (es : List (Happens C R)) → Run e es (awake x m) → MatchResult r (λ v. Run e (answered c (f v).reply ∷ es) (awake (f v).mind n)) (λ _. Run e (cut_in c ∷ es) (asleep n))

-- it answers what it may, and mind and memory tell of what it may leave; or it was cut, and the memory tells of the dark of the state before or after
abbrev pub DoesSo : {C R V E : Type 0} (j : Meant C R) (e : Code C R) (Tells : Memory → j.State → Type 0) (Awake : e.Mind → Memory → j.State → Type 0) → C → e.Mind → Memory → Result V E → (V → Said R e.Mind) → Memory → Type 0
DoesSo {C} {R} j e Tells Awake c x m r f n =
    (s : j.State) → Awake x m s →
    MatchResult r (λ v. (t : j.State) × j.May c s (f v).reply t × Awake (f v).mind n t) (λ _. Tells n (j.dark s) ⊎ ((q : R) × (t : j.State) × j.May c s q t × Tells n (j.dark t)))

-- there is a run that stands here
abbrev pub Runs : {C R : Type 0} (e : Code C R) → Stand e.Mind → Type 0
Runs {C} {R} e x = (es : List (Happens C R)) × Run e es x
