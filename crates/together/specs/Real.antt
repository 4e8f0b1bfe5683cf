-- ALL AS IT RUNS: the herd as its code over kept words, cut wherever the power fails; calls, reports and answers as bytes on lines that lose, double, delay, reorder and mislead; and agents on their machines.
-- Assumes nothing.
use Rattle.std.specs.Prelude.{◌≡◌, ℕ, ◌+◌, ◌<◌, Bool, true, false, cond, not, T, List, [], ◌∷◌, ◌++◌, Some, None, Option, ◌==◌}
use mathlib.Core.List.{Memᴰ}
use Rattle.model.specs.Lists.{some}
use Rattle.model.specs.Calls.{Seen, Call, SetJob, EndJob, AddMachine, Close, Reopen, Forget, Report, Tick, Show, Order}
use Rattle.model.specs.World.{Agent, is_seen, running, reported}
use Rattle.model.specs.Memory.{Memory, blank_memory, Doing, comes_to, leaves, Halfway, Stand, asleep, awake}
use Rattle.model.specs.Wire.{Bytes, meant, read_call}
use Rattle.model.specs.Lines.{call_in}
use Rattle.model.specs.Answers.{read_answer_lem}
use Rattle.device.specs.Service.{Said}
use Rattle.agents.specs.Steps.{takes_in, report_line}
use Rattle.serving.specs.Herd.{Held, herd_code}

-- A MACHINE AND ITS AGENT. up: the agent runs, and its file has its life. lost: the agent's program is gone, and what it ran may still run.
-- off: nothing runs; the file says the life of the last agent that came up (0: there is none). Where the power fails while it is replaced, it says the old life or the new one.
pub data Body : Type 0 where
  up : Agent → Body
  lost : Agent → Body
  off : (file : ℕ) → Body

-- an agent that came up with this life
abbrev pub fresh : ℕ → Agent
fresh l = record { life = l; number = 0; ordered = []; runs = [] }

-- what happens on a machine alone
pub data Turn : Body → Body → Type 0 where
  -- the agent's program ends, in whatever way
  ends : (a : Agent) → Turn (up a) (lost a)
  -- what it ran is gone too: the machine fell, or whoever starts it anew ended that first
  clears : (a : Agent) → Turn (lost a) (off a.life)
  -- it comes up, with a life of eight bytes: its file has that before it says anything; or it is cut when it has written that
  comes_up : (d : ℕ) → d + 1 < 18446744073709551616 → Turn (off d) (up (fresh (d + 1)))
  is_cut_up : (d : ℕ) → d + 1 < 18446744073709551616 → Turn (off d) (off (d + 1))
  -- what is ordered and doesn't run is started, one after the other; what runs becomes ready, or is so no more; it dies, or is stopped
  starts : (a : Agent) (o : Order) → Memᴰ o a.ordered → T (not (some (is_seen o.id) a.runs)) → Turn (up a) (up (running (record { id = o.id; ready = false } ∷ a.runs) a))
  becomes : (a : Agent) (before behind : List Seen) (x : Seen) (b : Bool) → a.runs ≡ before ++ x ∷ behind → Turn (up a) (up (running (before ++ record { id = x.id; ready = b } ∷ behind) a))
  dies : (a : Agent) (before behind : List Seen) (x : Seen) → a.runs ≡ before ++ x ∷ behind → Turn (up a) (up (running (before ++ behind) a))
  dies_lost : (a : Agent) (before behind : List Seen) (x : Seen) → a.runs ≡ before ++ x ∷ behind → Turn (lost a) (lost (running (before ++ behind) a))

-- a line that came to the herd, and its answer; none where the power failed in it
pub record Heard : Type 0 where
  pub line : Bytes
  pub reply : Option Bytes

abbrev pub heard : Bytes → Option Bytes → Heard
heard b r = record { line = b; reply = r }

-- THE WORLD. sent: all lines that an agent or the herd ever sent. came: all that came to the herd, the latest first, which nothing that runs looks at.
pub record Real : Type 0 where
  pub herd : Stand Held
  pub body : ℕ → Body
  pub sent : List Bytes
  pub came : List Heard

abbrev pub at : Stand Held → (ℕ → Body) → List Bytes → List Heard → Real
at h g bs cs = record { herd = h; body = g; sent = bs; came = cs }

abbrev pub outset : Real
outset = at (asleep blank_memory) (λ i. off 0) [] []

abbrev pub set : ℕ → Body → (ℕ → Body) → ℕ → Body
set i b g j = cond (j == i) b (g j)

-- what a person or the clock may say at any time: anything but a report, and but that a machine is gone
abbrev pub from_person : Call → Bool
from_person (SetJob n a c l m) = true
from_person (EndJob n) = true
from_person (AddMachine k c m t) = true
from_person (Close k) = true
from_person (Reopen k) = true
from_person (Forget k) = false
from_person (Report k l n xs) = false
from_person (Tick t) = true
from_person (Show n) = true

-- A LINE COMES TO THE HERD: any bytes from people and the clock that are no report and don't say that a machine is gone; that one is, which is off; and whatever was ever sent by an agent or the herd, at any time, any number of times
pub data Comes (g : ℕ → Body) (bs : List Bytes) : Bytes → Type 0 where
  person : (b : Bytes) → ((c : Call) → read_call (call_in b) ≡ meant c → T (from_person c)) → Comes g bs b
  forgets : (b : Bytes) (i d : ℕ) → read_call (call_in b) ≡ meant (Forget i) → g i ≡ off d → Comes g bs b
  line : (b : Bytes) → Memᴰ b bs → Comes g bs b

-- EVERY MOVE
pub data Move : Real → Real → Type 0 where
  -- a line comes and is answered, in one of the ways of the herd's code; the answer goes on the lines
  answers : (x : Held) (m : Memory) (g : ℕ → Body) (bs : List Bytes) (cs : List Heard) (b : Bytes) (d : Doing (Said Bytes Held)) → Comes g bs b → herd_code.Does b x d →
      Move (at (awake x m) g bs cs) (at (awake (comes_to d m).mind (leaves d m)) g ((comes_to d m).reply ∷ bs) (heard b (Some (comes_to d m).reply) ∷ cs))
  -- the power fails in it, after any number of its stores, also none or all of them; nothing is sent
  is_cut : (x : Held) (m n : Memory) (g : ℕ → Body) (bs : List Bytes) (cs : List Heard) (b : Bytes) (d : Doing (Said Bytes Held)) → Comes g bs b → herd_code.Does b x d → Halfway d m n → Move (at (awake x m) g bs cs) (at (asleep n) g bs (heard b None ∷ cs))
  -- or between two lines; or while it wakes; or it wakes
  darkens : (x : Held) (m : Memory) (g : ℕ → Body) (bs : List Bytes) (cs : List Heard) → Move (at (awake x m) g bs cs) (at (asleep m) g bs cs)
  is_cut_waking : (m n : Memory) (g : ℕ → Body) (bs : List Bytes) (cs : List Heard) → Halfway herd_code.wakes m n → Move (at (asleep m) g bs cs) (at (asleep n) g bs cs)
  wakes : (m : Memory) (g : ℕ → Body) (bs : List Bytes) (cs : List Heard) → Move (at (asleep m) g bs cs) (at (awake (comes_to herd_code.wakes m) (leaves herd_code.wakes m)) g bs cs)
  turns : (h : Stand Held) (g : ℕ → Body) (bs : List Bytes) (cs : List Heard) (i : ℕ) (b : Body) → Turn (g i) b → Move (at h g bs cs) (at h (set i b g) bs cs)
  -- an agent reports, of its machine's number (two bytes) and the report's (eight)
  reports : (h : Stand Held) (g : ℕ → Body) (bs : List Bytes) (cs : List Heard) (i : ℕ) (a : Agent) → g i ≡ up a → i < 65536 → a.number + 1 < 18446744073709551616 → Move (at h g bs cs) (at h (set i (up (reported a)) g) (report_line i a ∷ bs) cs)
  -- any line that was ever sent comes to any agent: it obeys the answer to its last report, and passes over whatever else comes
  hears : (h : Stand Held) (g : ℕ → Body) (bs : List Bytes) (cs : List Heard) (i : ℕ) (a : Agent) (b : Bytes) → g i ≡ up a → Memᴰ b bs → Move (at h g bs cs) (at h (set i (up (takes_in i (read_answer_lem (call_in b)) a)) g) bs cs)

pub data Came : Real → Type 0 where
  begin : Came outset
  then : {w v : Real} → Came w → Move w v → Came v
