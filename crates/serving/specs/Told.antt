-- What it is to every run so far, and to the state that is meant, where code over a device followed a call in one of its ways.
-- Assumes nothing.
use Rattle.std.specs.Prelude.{◌⊎◌, List, ◌∷◌, Result, MatchResult}
use Rattle.model.specs.Memory.{Memory, Meant, Happens, answered, cut_in, asleep, awake}
use Rattle.model.specs.Ways.{Ways, WaysRun}
use Rattle.device.specs.Service.{Said}

-- the run goes on, with the call answered or cut
abbrev pub GoesOn : {C R V E : Type 0} (e : Ways C R) → C → e.Mind → Memory → Result V E → Said R e.Mind → Memory → Type 0
GoesOn {C} {R} e c x m r y n =
    (es : List (Happens C R)) → WaysRun e es (awake x m) → MatchResult r (λ _. WaysRun e (answered c y.reply ∷ es) (awake y.mind n)) (λ _. WaysRun e (cut_in c ∷ es) (asleep n))

-- it answers what it may, and mind and memory tell of what it may leave; or it was cut, and the memory tells of the dark of the state before or after
abbrev pub DoesSo : {C R V E : Type 0} (j : Meant C R) (e : Ways C R) (Tells : Memory → j.State → Type 0) (Awake : e.Mind → Memory → j.State → Type 0) → C → e.Mind → Memory → Result V E → Said R e.Mind → Memory → Type 0
DoesSo {C} {R} j e Tells Awake c x m r y n =
    (s : j.State) → Awake x m s →
    MatchResult r (λ _. (t : j.State) × j.May c s y.reply t × Awake y.mind n t) (λ _. Tells n (j.dark s) ⊎ ((q : R) × (t : j.State) × j.May c s q t × Tells n (j.dark t)))
