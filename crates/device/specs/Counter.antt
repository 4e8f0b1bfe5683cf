-- The smallest service: a counter that keeps a sum and how many were added, and forgets in the dark how often it was asked.
-- Assumes nothing.
use Rattle.std.specs.Prelude.{◌≡◌, ℕ, ◌+◌, ◌%◌, ◌<◌, Bool, true, false, List, [], ◌∷◌, slice_index}
use Rattle.model.specs.Memory.{Memory, Code, Meant}
use Rattle.device.specs.declared.counter.Ask.{Ask}
use Rattle.device.specs.declared.counter.Ask.TheVariants.{Add, Show}
use Rattle.device.specs.Service.{Said, Service, code_of}
use Rattle.device.specs.Service.{Tells as TellsOf, Awake as AwakeOf}

pub record State : Type 0 where
  pub sum : ℕ
  pub count : ℕ
  pub asked : ℕ

abbrev pub wraps : ℕ → ℕ
wraps n = n % 18446744073709551616

abbrev pub forgets : State → State
forgets s = record { sum = s.sum; count = s.count; asked = 0 }

abbrev pub says : Ask → State → Said ℕ State
says (Add n) s = record { reply = wraps (s.sum + n); mind = record { sum = wraps (s.sum + n); count = wraps (s.count + 1); asked = s.asked } }
says Show s = record { reply = s.sum; mind = record { sum = s.sum; count = s.count; asked = wraps (s.asked + 1) } }

abbrev pub meant : Meant Ask ℕ
meant =
    record {
      State = State;
      start = record { sum = 0; count = 0; asked = 0 };
      May = λ c s r t. (r ≡ (says c s).reply) × (t ≡ (says c s).mind);
      dark = forgets;
    }

abbrev pub keeps : Ask → State → Bool
keeps (Add n) s = true
keeps Show s = false

-- its mind, from its two words and how often it was asked
abbrev pub mind_of : List ℕ → ℕ → State
mind_of ws n = record { sum = slice_index ws 0; count = slice_index ws 1; asked = n }

abbrev pub service : Service Ask ℕ State
service = record { size = 2; home_of = λ s. s.sum ∷ s.count ∷ []; wake_of = λ ws. mind_of ws 0; says = says; keeps = keeps }

abbrev pub code : Code Ask ℕ
code = code_of service

-- a mind stands for the state that it is, in words of 64 bits
pub record Stands (x s : State) : Type 0 where
  pub same : x ≡ s
  pub sum_fits : s.sum < 18446744073709551616
  pub count_fits : s.count < 18446744073709551616

abbrev pub Tells : Memory → State → Type 0
Tells m s = TellsOf meant service Stands m s

abbrev pub Awake : State → Memory → State → Type 0
Awake x m s = AwakeOf meant service Stands x m s
