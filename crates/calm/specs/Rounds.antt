-- Rounds of the world as it really runs: what happens there where all works and people leave the herd alone.
-- Assumes nothing.
use Rattle.std.specs.Prelude.{◌≡◌, ℕ, suc, ◌+◌, ◌<◌, true, List, [], ◌∷◌, ◌++◌, Some, None, ◌≢◌}
use mathlib.Core.List.{Memᴰ}
use Rattle.model.specs.State.{Machine, State}
use Rattle.model.specs.Settle.{present}
use Rattle.model.specs.Calls.{Seen, Report, Tick, Order, later}
use Rattle.model.specs.World.{Agent, reported}
use Rattle.model.specs.Memory.{Memory, Doing, comes_to, leaves, Stand, awake}
use Rattle.model.specs.Wire.{Bytes, garbled, meant, read_call, Answer, Refused, Runs, answer_bytes}
use Rattle.model.specs.Answers.{read_answer_lem}
use Rattle.model.specs.Lines.{core_kind, framed, tag_in, call_in, bytes_say}
use Rattle.device.specs.Service.{Said}
use Rattle.agents.specs.Steps.{takes_in, report_line}
use Rattle.serving.specs.Herd.{Held, state_in, herd_code}
use Rattle.together.specs.Real.{Body, up, Turn, Heard, heard, Real, at, set}
use Rattle.together.specs.Now.{herd_state}

-- A CALM MOVE

-- the agent a, of machine i, has obeyed the answer to its last report, if one was given: of each line that came to the herd with that report, the power didn't fail in it, and if it was answered with what is to run there, that is what is ordered
abbrev pub HasObeyed : List Heard → ℕ → Agent → Type 0
HasObeyed cs i a =
    (h : Heard) → Memᴰ h cs → (xs : List Seen) → read_call (call_in h.line) ≡ meant (Report i a.life a.number xs) →
    (h.reply ≢ None) × ((os : List Order) → h.reply ≡ Some (framed (tag_in h.line) (answer_bytes (Runs i a.life a.number os))) → a.ordered ≡ os)

-- what the herd answers to a line: the bytes of this, in a frame with the line's tag, go on the lines (AnswersStand)
abbrev pub Says : Held → Bytes → Answer → Type 0
Says x b r = (bytes_say core_kind (call_in b) (state_in x)).answer ≡ r

-- each machine that was present is so still when that time was told: it reported at most 30,000 ms of told time ago
abbrev pub KeepsUp : State → ℕ → Type 0
KeepsUp s t = (k : Machine) → Memᴰ k s.machines → present s.now k ≡ true → present (later t s.now) k ≡ true

-- on a machine alone: what is ordered is started, what runs becomes ready, or is so no more, or dies; no agent ends or comes up
abbrev pub IsCalm : {b c : Body} → Turn b c → Type 0
IsCalm (Turn.ends a) = ⊥
IsCalm (Turn.clears a) = ⊥
IsCalm (Turn.comes_up d l) = ⊥
IsCalm (Turn.is_cut_up d l) = ⊥
IsCalm (Turn.starts a o m n) = Unit {0}
IsCalm (Turn.becomes a before behind x b e) = Unit {0}
IsCalm (Turn.dies a before behind x e) = Unit {0}
IsCalm (Turn.dies_lost a before behind x e) = Unit {0}

-- the herd is done with a line, and its answer is on the lines
abbrev pub done_with : Memory → (ℕ → Body) → List Bytes → List Heard → Bytes → Doing (Said Bytes Held) → Real
done_with m g bs cs b d = at (awake (comes_to d m).mind (leaves d m)) g ((comes_to d m).reply ∷ bs) (heard b (Some (comes_to d m).reply) ∷ cs)

-- Each is a move of the world as it runs. No line comes that says anything but a report or a time; the herd's power stays on, and so do agents. All else may happen in any order. The list says of whom a report was heard.
pub data CalmMove : List ℕ → Real → Real → Type 0 where
  -- a time is told that machines can keep up with
  tells : (x : Held) (m : Memory) (g : ℕ → Body) (bs : List Bytes) (cs : List Heard) (b : Bytes) (d : Doing (Said Bytes Held)) (t : ℕ) → herd_code.Does b x d → read_call (call_in b) ≡ meant (Tick t) → KeepsUp (state_in x) t →
      CalmMove [] (at (awake x m) g bs cs) (done_with m g bs cs b d)
  -- the last report of an agent that is up comes, off the lines, and is answered with what is to run there; when it was sent, all that was ordered there had been started and was ready
  hears : (x : Held) (m : Memory) (g : ℕ → Body) (bs : List Bytes) (cs : List Heard) (b : Bytes) (d : Doing (Said Bytes Held)) (i : ℕ) (a : Agent) (xs : List Seen) (os : List Order) → herd_code.Does b x d → Memᴰ b bs → g i ≡ up a →
      read_call (call_in b) ≡ meant (Report i a.life a.number xs) → ((s : Seen) → Memᴰ s xs → s.ready ≡ true) → Says x b (Runs i a.life a.number os) → CalmMove (i ∷ []) (at (awake x m) g bs cs) (done_with m g bs cs b d)
  -- an old report comes late, or one comes again, and is refused
  refuses : (x : Held) (m : Memory) (g : ℕ → Body) (bs : List Bytes) (cs : List Heard) (b : Bytes) (d : Doing (Said Bytes Held)) (i l n k : ℕ) (xs : List Seen) → herd_code.Does b x d → Memᴰ b bs → read_call (call_in b) ≡ meant (Report i l n xs) → Says x b (Refused k) →
      CalmMove [] (at (awake x m) g bs cs) (done_with m g bs cs b d)
  -- bytes come that are no call
  passes_over : (x : Held) (m : Memory) (g : ℕ → Body) (bs : List Bytes) (cs : List Heard) (b : Bytes) (d : Doing (Said Bytes Held)) → herd_code.Does b x d → read_call (call_in b) ≡ garbled → CalmMove [] (at (awake x m) g bs cs) (done_with m g bs cs b d)
  -- an agent that is up reports: by then it has obeyed what it was answered before
  reports : (h : Stand Held) (g : ℕ → Body) (bs : List Bytes) (cs : List Heard) (i : ℕ) (a : Agent) → g i ≡ up a → i < 65536 → a.number + 1 < 18446744073709551616 → HasObeyed cs i a → CalmMove [] (at h g bs cs) (at h (set i (up (reported a)) g) (report_line i a ∷ bs) cs)
  -- any line that was ever sent comes to any agent: it obeys the answer to its last report, and passes over whatever else comes
  heeds : (h : Stand Held) (g : ℕ → Body) (bs : List Bytes) (cs : List Heard) (i : ℕ) (a : Agent) (b : Bytes) → g i ≡ up a → Memᴰ b bs → CalmMove [] (at h g bs cs) (at h (set i (up (takes_in i (read_answer_lem (call_in b)) a)) g) bs cs)
  -- all is well if what is ordered is ready when its machine reports
  turns : (h : Stand Held) (g : ℕ → Body) (bs : List Bytes) (cs : List Heard) (i : ℕ) (b : Body) (t : Turn (g i) b) → IsCalm t → CalmMove [] (at h g bs cs) (at h (set i b g) bs cs)

-- calm moves one after the other; the state that the herd's words stand for is such after each
pub data CalmRun (P : State → Type 0) : List ℕ → Real → Real → Type 0 where
  stop : (w : Real) → CalmRun P [] w w
  go : {ks ls : List ℕ} {w u v : Real} → CalmMove ks w u → P (herd_state u) → CalmRun P ls u v → CalmRun P (ks ++ ls) w v

-- A ROUND: of every machine that the herd has a report is heard, once or more often
abbrev pub CalmRound : (State → Type 0) → Real → Real → Type 0
CalmRound P w v = (ks : List ℕ) × CalmRun P ks w v × ((m : Machine) → Memᴰ m (herd_state w).machines → Memᴰ m.num ks)

pub data CalmRounds (P : State → Type 0) : ℕ → Real → Real → Type 0 where
  none : (w : Real) → CalmRounds P 0 w w
  more : {n : ℕ} {w u v : Real} → CalmRound P w u → CalmRounds P n u v → CalmRounds P (suc n) w v
