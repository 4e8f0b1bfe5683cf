-- Agents on their machines, and all together: one herd, any number of agents, and lines between them that lose, double, delay and reorder.
-- Assumes nothing.
use Rattle.std.specs.Prelude.{◌≡◌, ℕ, ◌+◌, ◌<◌, Bool, false, cond, not, ◌&&◌, T, List, [], ◌∷◌, ◌++◌, ◌==◌, ◌≢◌}
use mathlib.Core.List.{Memᴰ}
use Rattle.model.specs.Lists.{some, keep}
use Rattle.model.specs.State.{State, blank}
use Rattle.model.specs.Calls.{Seen, Call, Forget, Report, Order, Run, does, down}

-- AN AGENT. life: how often it came up. number: of its last report. ordered: what the last answer that it obeyed lists. runs: what runs now, ready or not.
pub record Agent : Type 0 where
  pub life : ℕ
  pub number : ℕ
  pub ordered : List Order
  pub runs : List Seen

abbrev pub asleep : Agent
asleep = record { life = 0; number = 0; ordered = []; runs = [] }

abbrev pub is_order : ℕ → Order → Bool
is_order i o = i == o.id

abbrev pub is_seen : ℕ → Seen → Bool
is_seen i x = i == x.id

-- it came up anew: nothing runs on its machine, and it remembers no more than its life
abbrev pub risen : Agent → Agent
risen a = record { life = a.life + 1; number = 0; ordered = []; runs = [] }

abbrev pub reported : Agent → Agent
reported a = record { life = a.life; number = a.number + 1; ordered = a.ordered; runs = a.runs }

abbrev pub running : List Seen → Agent → Agent
running rs a = record { life = a.life; number = a.number; ordered = a.ordered; runs = rs }

-- what is no longer ordered is stopped, before anything else is started
abbrev pub obeys : List Order → Agent → Agent
obeys os a = record { life = a.life; number = a.number; ordered = os; runs = keep (λ (x : Seen). some (is_order x.id) os) a.runs }

-- a report lists all that is ordered, each as ready if it runs and is ready: what is ordered may be started at any time, so the herd must count it whether it runs or not
abbrev pub is_ready_in : ℕ → List Seen → Bool
is_ready_in i xs = some (λ (x : Seen). (i == x.id) && x.ready) xs

unfoldable pub may_run : List Seen → List Order → List Seen
may_run xs [] = []
may_run xs (o ∷ os) = record { id = o.id; ready = is_ready_in o.id xs } ∷ may_run xs os

-- ALL TOGETHER

-- a report on its way, or the answer to one, with the report's machine, life and number
pub data Word : Type 0 where
  Up : (num life number : ℕ) → List Seen → Word
  Back : (num life number : ℕ) → List Order → Word

-- sent: all that was ever sent. It may arrive at any time, any number of times, or never: that is what the lines do to it.
pub record World : Type 0 where
  pub herd : State
  pub agent : ℕ → Agent
  pub sent : List Word

abbrev pub start : World
start = record { herd = blank; agent = λ i. asleep; sent = [] }

abbrev pub put : ℕ → Agent → (ℕ → Agent) → ℕ → Agent
put i a f j = cond (j == i) a (f j)

abbrev pub with_herd : State → World → World
with_herd s w = record { herd = s; agent = w.agent; sent = w.sent }

abbrev pub with_agent : ℕ → Agent → World → World
with_agent i a w = record { herd = w.herd; agent = put i a w.agent; sent = w.sent }

abbrev pub with_word : Word → World → World
with_word x w = record { herd = w.herd; agent = w.agent; sent = x ∷ w.sent }

abbrev pub report_of : ℕ → Agent → Word
report_of i a = Up i a.life (a.number + 1) (may_run a.runs a.ordered)

pub data Step : World → World → Type 0 where
  -- a person or the clock says something to the herd
  says : (w : World) (c : Call) → ((k l n : ℕ) (xs : List Seen) → c ≢ Report k l n xs) → ((k : ℕ) → c ≢ Forget k) → Step w (with_herd (does c w.herd).state w)
  -- whoever says that a machine is gone has switched it off: should it come back, its agent comes up anew
  forgets : (w : World) (k : ℕ) → Step w (with_herd (does (Forget k) w.herd).state (with_agent k (risen (w.agent k)) w))
  -- the same of a machine that was off already: its agent has said nothing and has nothing ordered since it last came up, if it ever did
  forgets_off : (w : World) (k : ℕ) → (w.agent k).number ≡ 0 → (w.agent k).ordered ≡ [] → (w.agent k).runs ≡ [] → Step w (with_herd (does (Forget k) w.herd).state w)
  -- the herd's power fails, and comes back
  falls : (w : World) → Step w (with_herd (down w.herd) w)
  -- an agent comes up: its machine fell, or the agent ended what an earlier life left
  comes_up : (w : World) (i : ℕ) → Step w (with_agent i (risen (w.agent i)) w)
  reports : (w : World) (i : ℕ) → 0 < (w.agent i).life → Step w (with_word (report_of i (w.agent i)) (with_agent i (reported (w.agent i)) w))
  -- a report that was sent arrives, and its answer is sent; or it is turned away
  hears : (w : World) (i l n : ℕ) (xs : List Seen) (k : ℕ) (os : List Order) → Memᴰ (Up i l n xs) w.sent → (does (Report i l n xs) w.herd).reply ≡ Run k os → Step w (with_word (Back i l k os) (with_herd (does (Report i l n xs) w.herd).state w))
  hears_not : (w : World) (i l n : ℕ) (xs : List Seen) → Memᴰ (Up i l n xs) w.sent → ((k : ℕ) (os : List Order) → (does (Report i l n xs) w.herd).reply ≢ Run k os) → Step w (with_herd (does (Report i l n xs) w.herd).state w)
  -- an answer arrives: it counts only if it answers the agent's last report, in its life
  obeyed : (w : World) (i : ℕ) (os : List Order) → Memᴰ (Back i (w.agent i).life (w.agent i).number os) w.sent → Step w (with_agent i (obeys os (w.agent i)) w)
  -- what is ordered and doesn't run is started
  starts : (w : World) (i : ℕ) (o : Order) → Memᴰ o (w.agent i).ordered → T (not (some (is_seen o.id) (w.agent i).runs)) → Step w (with_agent i (running (record { id = o.id; ready = false } ∷ (w.agent i).runs) (w.agent i)) w)
  -- what runs becomes ready, or is so no more
  becomes : (w : World) (i : ℕ) (before behind : List Seen) (x : Seen) (b : Bool) → (w.agent i).runs ≡ before ++ x ∷ behind → Step w (with_agent i (running (before ++ record { id = x.id; ready = b } ∷ behind) (w.agent i)) w)
  dies : (w : World) (i : ℕ) (before behind : List Seen) (x : Seen) → (w.agent i).runs ≡ before ++ x ∷ behind → Step w (with_agent i (running (before ++ behind) (w.agent i)) w)

pub data Reach : World → Type 0 where
  begin : Reach start
  then : {w v : World} → Reach w → Step w v → Reach v
