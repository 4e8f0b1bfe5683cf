-- WHAT THE PROGRAMS DO is a move of the world as it runs, or several: whatever the code of the herd and of agents does, from a world that can come to be, leads to one.
-- Assumes nothing.
use Rattle.std.specs.Prelude.{◌≡◌, ℕ, ◌+◌, List, ◌∷◌, Some, None, Result, Vec, vec_items, MatchResult}
use Rattle.std.specs.declared.alloc.Global.{Global}
use mathlib.Core.List.{Memᴰ}
use Rattle.model.specs.World.{Agent}
use Rattle.model.specs.Memory.{Memory, Stand, asleep, awake}
use Rattle.model.specs.Wire.{Bytes}
use Rattle.device.specs.Service.{Said}
use Rattle.serving.specs.Herd.{Held}
use Rattle.together.specs.Real.{Body, up, off, Heard, heard, at, set, Comes, Came}

-- THE HERD answers a line that comes, and the answer goes on the lines; or the power fails in that
abbrev pub HerdAnswers : {V E : Type 0} → Bytes → Held → Memory → Result V E → Said Bytes Held → Memory → Type 0
HerdAnswers b x m r y n =
    (g : ℕ → Body) (bs : List Bytes) (cs : List Heard) → Came (at (awake x m) g bs cs) → Comes g bs b →
    MatchResult r (λ _. Came (at (awake y.mind n) g (y.reply ∷ bs) (heard b (Some y.reply) ∷ cs))) (λ _. Came (at (asleep n) g bs (heard b None ∷ cs)))

-- it wakes
abbrev pub HerdWakes : Memory → Held → Type 0
HerdWakes m x = (g : ℕ → Body) (bs : List Bytes) (cs : List Heard) → Came (at (asleep m) g bs cs) → Came (at (awake x m) g bs cs)

-- AN AGENT, on machine i, comes up with the life after that of the file
abbrev pub ComesUp : ℕ → ℕ → Agent → Type 0
ComesUp i l a = (h : Stand Held) (g : ℕ → Body) (bs : List Bytes) (cs : List Heard) (d : ℕ) → Came (at h g bs cs) → g i ≡ off d → l ≡ d + 1 → Came (at h (set i (up a) g) bs cs)

-- it goes on, as b where it was a
abbrev pub GoesOn : ℕ → Agent → Agent → Type 0
GoesOn i a b = (h : Stand Held) (g : ℕ → Body) (bs : List Bytes) (cs : List Heard) → Came (at h g bs cs) → g i ≡ up a → Came (at h (set i (up b) g) bs cs)

-- and a line goes out; or nothing happened
abbrev pub Sends : ℕ → Agent → Bytes → Agent → Type 0
Sends i a v b = (h : Stand Held) (g : ℕ → Body) (bs : List Bytes) (cs : List Heard) → Came (at h g bs cs) → g i ≡ up a → Came (at h (set i (up b) g) (v ∷ bs) cs)

abbrev pub AgentReports : {E : Type 0} → ℕ → Agent → Result (Vec ℕ Global) E → Agent → Type 0
AgentReports i a r b = MatchResult r (λ v. Sends i a (vec_items v) b) (λ _. b ≡ a)

-- and a line came that someone sent
abbrev pub AgentHears : ℕ → Bytes → Agent → Agent → Type 0
AgentHears i line a b = (h : Stand Held) (g : ℕ → Body) (bs : List Bytes) (cs : List Heard) → Came (at h g bs cs) → g i ≡ up a → Memᴰ line bs → Came (at h (set i (up b) g) bs cs)
