-- A file that is replaced: what its parts do to the disk, and what may be found of it where the power fails.
-- Assumes nothing.
use Rattle.std.specs.Prelude.{◌≡◌, ◌⊎◌, Bool, true, false, Some, Option, Result, MatchResult}
use Rattle.device.specs.declared.content.Content.{Content}
use Rattle.device.specs.declared.done.Done.{Done}
use Rattle.device.specs.declared.done.Place.{Place}
use Rattle.device.specs.declared.done.Place.TheVariants.{Before, Between, Behind}

-- the file aside is written anew: nothing is sure of it
abbrev pub written : Done → Done
written d = record { whole = false; place = d.place }

abbrev pub synced : Done → Done
synced d = record { whole = true; place = d.place }

-- the name is given to the file aside, and that is not on the disk yet
abbrev pub moved : Done → Done
moved d = record { whole = false; place = Between d.whole }

abbrev pub placed : Place → Place
placed Before = Before
placed (Between whole) = Behind whole
placed (Behind whole) = Behind whole

abbrev pub settled : Done → Done
settled d = record { whole = d.whole; place = placed d.place }

-- WHAT MAY BE FOUND where the power fails: the file as it was (or none), the new one, and of one that was not whole anything
abbrev pub MayFind : {A : Type 0} → Place → Option A → A → Option A → Type 0
MayFind Before old new c = c ≡ old
MayFind (Between true) old new c = (c ≡ old) ⊎ (c ≡ Some new)
MayFind (Between false) old new c = Unit {0}
MayFind (Behind true) old new c = c ≡ Some new
MayFind (Behind false) old new c = Unit {0}

-- nothing but the new one
abbrev pub IsKept : Done → Type 0
IsKept d = (old : Option Content) (new : Content) (c : Option Content) → MayFind d.place old new c → c ≡ Some new

-- nothing but the old one or the new one
abbrev pub Either : Done → Type 0
Either d = (old : Option Content) (new : Content) (c : Option Content) → MayFind d.place old new c → (c ≡ old) ⊎ (c ≡ Some new)

-- WHAT EACH PART DOES, whether it comes to its end or not

abbrev pub Writes : {E : Type 0} → Result (Unit {0}) E → Content → Done → Done → Content → Type 0
Writes r content d e wrote = MatchResult r (λ _. (e ≡ written d) × (wrote ≡ content)) (λ _. e.place ≡ d.place)

abbrev pub Syncs : {E : Type 0} → Result (Unit {0}) E → Done → Done → Content → Content → Type 0
Syncs r d e before after = MatchResult r (λ _. (e ≡ synced d) × (after ≡ before)) (λ _. e.place ≡ d.place)

-- where it fails, the name may have been given or not
abbrev pub Moves : {E : Type 0} → Result (Unit {0}) E → Done → Done → Content → Content → Type 0
Moves r d e before after = MatchResult r (λ _. (e ≡ moved d) × (after ≡ before)) (λ _. (e.place ≡ d.place) ⊎ (e ≡ moved d))

abbrev pub Settles : {E : Type 0} → Result (Unit {0}) E → Done → Done → Content → Content → Type 0
Settles r d e before after = MatchResult r (λ _. (e ≡ settled d) × (after ≡ before)) (λ _. e ≡ d)
