-- A line is served over kept words: in one of the ways of the herd's code, to its end or cut in it, within its budget of stores.
-- Assumes nothing.
use Rattle.std.specs.Prelude.{◌≡◌, Bool, true, Result}
use Rattle.model.specs.Memory.{Memory}
use Rattle.model.specs.Wire.{Bytes}
use Rattle.model.specs.Lines.{core_kind, bytes_say, call_in, herd_on_lines}
use Rattle.device.specs.Budget.{stores_in}
use Rattle.device.specs.Follows.{FollowsTo}
use Rattle.device.specs.Service.{Said, finishing, CallBudget}
use Rattle.serving.specs.Herd.{Held, state_in, is_quiet, SaysTo, saying, herd_code, Tells, Awake}
use Rattle.serving.specs.Told.{GoesOn, DoesSo}

pub record Serves {V E : Type 0} (line : Bytes) (x : Held) (m : Memory) (r : Result V E) (y : Said Bytes Held) (n : Memory) : Type 0 where
  pub changed : Bool
  -- what it says is what the meaning says
  pub says : SaysTo line x y changed
  -- it carried out the code, to its end or cut in it
  pub follows : FollowsTo (finishing changed y.mind.home y) m r (λ _. y) n
  -- so the run goes on as a run of that code, and mind and memory tell of what may be
  pub runs : GoesOn herd_code line x m r y n
  pub tells : DoesSo (herd_on_lines core_kind) herd_code Tells Awake line x m r y n
  -- a refusal and a showing store no word; a change stores no word twice, and one that is alone in place
  pub silent : is_quiet (bytes_say core_kind (call_in line) (state_in x)).answer ≡ true → stores_in (finishing changed y.mind.home y) m ≡ 0
  pub budget : CallBudget (saying changed y) (tt {0}) x m
