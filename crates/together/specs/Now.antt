-- WHAT HOLDS OF WHAT REALLY RUNS, at every moment: said of the machines themselves, and of the state that the herd's words stand for.
-- Assumes nothing.
use Rattle.std.specs.Prelude.{◌≡◌, ℕ, ◌≤◌, Bool, true, not, T, ◌⊎◌, List, [], ◌∷◌, ◌++◌, length, Some, None, Option, ◌≢◌}
use mathlib.Core.List.{Memᴰ}
use Rattle.model.specs.Lists.{keep}
use Rattle.model.specs.State.{Name, Machine, Spec, Job, State}
use Rattle.model.specs.Settle.{mine, settle}
use Rattle.model.specs.Calls.{Seen, Call, SetJob, EndJob, down}
use Rattle.model.specs.World.{Agent}
use Rattle.model.specs.Memory.{comes_to, Fits, Doing, Stand, asleep, awake}
use Rattle.model.specs.Wire.{Bytes, meant, read_call, kind_of, Refused}
use Rattle.model.specs.Answers.{read_answer_lem}
use Rattle.model.specs.Lines.{core_kind, call_in, answer_line, line_leaves}
use Rattle.model.specs.Promise.{seen_in}
use Rattle.model.specs.Always.{Within, is_of, differ, entered, TakesFew, NoneWaits, ReadyThere}
use Rattle.device.specs.Service.{Said}
use Rattle.serving.specs.Herd.{Held, state_in, herd_code}
use Rattle.together.specs.Telling.{AllTold}
use Rattle.together.specs.Real.{Body, up, lost, off, fresh, Heard, Real, Move, Came}

-- THE HERD'S STATE: what its mind stands for; and in the dark, that of the mind with which it would wake from its words
abbrev pub state_now : Stand Held → State
state_now (asleep m) = state_in (comes_to herd_code.wakes m)
state_now (awake x m) = state_in x

abbrev pub herd_state : Real → State
herd_state w = state_now w.herd

-- WHAT RUNS on a machine, and the agent that is there or was
abbrev pub agent_in : Body → Agent
agent_in (up a) = a
agent_in (lost a) = a
agent_in (off d) = fresh d

abbrev pub runs_on : Real → ℕ → List Seen
runs_on w i = (agent_in (w.body i)).runs

-- a. On whatever machine: nothing runs there; or the herd has it, in this life of its agent, and what runs there fits, each task at the spec that was ordered.
abbrev pub RunsFit : Type 0
RunsFit =
    (w : Real) → Came w → (i : ℕ) →
    (runs_on w i ≡ []) ⊎ ((m : Machine) × Memᴰ m (herd_state w).machines × (m.num ≡ i) × (m.life ≡ (agent_in (w.body i)).life) × Within (herd_state w) m (agent_in (w.body i)))

-- b. No task runs at two places, nor twice at one.
abbrev pub RunsOnce : Type 0
RunsOnce =
    (w : Real) → Came w → (i j k : ℕ) → T (seen_in k (runs_on w i)) →
    (T (seen_in k (runs_on w j)) → i ≡ j) × ((before behind : List Seen) (b : Bool) → runs_on w i ≡ before ++ record { id = k; ready = b } ∷ behind → T (not (seen_in k before)) × T (not (seen_in k behind)))

-- c. OF A JOB, NO MORE THAN ITS MOST

-- a line that wasn't turned away, as far as anyone heard
abbrev pub NotRefused : Option Bytes → Type 0
NotRefused None = Unit {0}
NotRefused (Some r) = (k : ℕ) → read_answer_lem (call_in r) ≢ meant (Refused k)

-- it set the job of that name, with that most; or ended it
abbrev pub SetsTo : Name → ℕ → Heard → Type 0
SetsTo n m h = (a : Spec) × (c : ℕ) × (l : ℕ) × (read_call (call_in h.line) ≡ meant (SetJob n a c l m)) × NotRefused h.reply

abbrev pub Ends : Name → Heard → Type 0
Ends n h = (read_call (call_in h.line) ≡ meant (EndJob n)) × (core_kind (kind_of (EndJob n)) ≡ true)

-- of the lines that came, none set the most of the job of that name lower than one before it had, nor set that job anew after one that ended it
abbrev pub Unlowered : Name → List Heard → Type 0
Unlowered n [] = Unit {0}
Unlowered n (h ∷ hs) = ((m : ℕ) → SetsTo n m h → (p : Heard) → Memᴰ p hs → ((k : ℕ) → SetsTo n k p → k ≤ m) × (Ends n p → ⊥)) × Unlowered n hs

-- all that runs of a job on these machines: what runs and is a task of that job. (Whatever runs is a task that the herd has.)
unfoldable pub running_of : Name → Real → List ℕ → List Seen
running_of n w [] = []
running_of n w (i ∷ is) = keep (is_of n (herd_state w).tasks) (runs_on w i) ++ running_of n w is

abbrev pub NeverOver : Type 0
NeverOver =
    (w : Real) → Came w → (j : Job) → Memᴰ j (herd_state w).jobs → Unlowered j.name w.came →
    (length (mine j (herd_state w).tasks) ≤ j.most) × ((is : List ℕ) → T (differ is) → length (running_of j.name w is) ≤ j.most)

-- d. NO PASS TAKES A READY TASK THAT THE LEAST NEEDS: a line changes nothing; or its call's own change is followed by one pass, in which each ready task of a job stays ready, or is made to end and then at least the least are ready
abbrev pub Passes : Bytes → State → State → Type 0
Passes b s t = (t ≡ s) ⊎ ((c : Call) × (read_call (call_in b) ≡ meant c) × (t ≡ settle (entered c s)) × TakesFew (entered c s) t)

-- also where the power fails: then it is the dark of the state before, or of one that a line may so lead to
abbrev pub Takes : {w v : Real} → Move w v → Type 0
Takes (Move.answers x m g bs cs b d c way) = Passes b (state_in x) (state_in (comes_to d m).mind)
Takes (Move.is_cut x m n g bs cs b d c way h) = (state_now (asleep n) ≡ down (state_in x)) ⊎ ((t : State) × Passes b (state_in x) t × (state_now (asleep n) ≡ down t))
Takes (Move.darkens x m g bs cs) = state_now (asleep m) ≡ down (state_in x)
Takes (Move.is_cut_waking m n g bs cs h) = state_now (asleep n) ≡ state_now (asleep m)
Takes (Move.wakes m g bs cs) = Unit {0}
Takes (Move.turns h g bs cs i b t) = Unit {0}
Takes (Move.reports h g bs cs i a o l n) = Unit {0}
Takes (Move.hears h g bs cs i a b o m) = Unit {0}

abbrev pub TakesFewAlways : Type 0
TakesFewAlways = (w v : Real) → Came w → (s : Move w v) → Takes s

-- e. No task waits that a machine would take.
abbrev pub NeverWaits : Type 0
NeverWaits = (w : Real) → Came w → NoneWaits (herd_state w)

-- and what is said to be ready is on a machine that the herd has and has heard lately
abbrev pub ReadyNow : Type 0
ReadyNow = (w : Real) → Came w → ReadyThere (herd_state w)

-- f. WHAT WAS ANSWERED STANDS: a line is answered, and leaves, what the meaning of lines says; where the power fails in it, it was done or it wasn't; the dark takes nothing but the time and who was heard; waking changes nothing, also where it is cut
abbrev pub Stays : {w v : Real} → Move w v → Type 0
Stays (Move.answers x m g bs cs b d c way) = ((comes_to d m).reply ≡ answer_line core_kind b (state_in x)) × (state_in (comes_to d m).mind ≡ line_leaves core_kind b (state_in x))
Stays (Move.is_cut x m n g bs cs b d c way h) = (state_now (asleep n) ≡ down (state_in x)) ⊎ (state_now (asleep n) ≡ down (line_leaves core_kind b (state_in x)))
Stays (Move.darkens x m g bs cs) = state_now (asleep m) ≡ down (state_in x)
Stays (Move.is_cut_waking m n g bs cs h) = state_now (asleep n) ≡ state_now (asleep m)
Stays (Move.wakes m g bs cs) = Unit {0}
Stays (Move.turns h g bs cs i b t) = Unit {0}
Stays (Move.reports h g bs cs i a o l n) = Unit {0}
Stays (Move.hears h g bs cs i a b o m) = Unit {0}

abbrev pub AnswersStand : Type 0
AnswersStand = (w v : Real) → Came w → (s : Move w v) → Stays s

-- g. Whatever comes next, the herd's code uses only words that there are.
abbrev pub FitsIn : Stand Held → Type 0
FitsIn (asleep m) = Fits herd_code.wakes m
FitsIn (awake x m) = (b : Bytes) (d : Doing (Said Bytes Held)) → herd_code.Does b x d → Fits d m

abbrev pub AlwaysFits : Type 0
AlwaysFits = (w : Real) → Came w → FitsIn w.herd

-- ALL OF IT
pub record HoldsAlways : Type 0 where
  pub told : AllTold
  pub fits : RunsFit
  pub once : RunsOnce
  pub over : NeverOver
  pub takes : TakesFewAlways
  pub waits : NeverWaits
  pub ready : ReadyNow
  pub stands : AnswersStand
  pub within : AlwaysFits
