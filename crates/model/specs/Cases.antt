-- Worked cases: eight rows of calls, what each is answered, and the tasks and the cpu counted on each machine that must be there afterwards.
-- Assumes nothing.
use Rattle.std.specs.Prelude.{◌≡◌, ℕ, Bool, true, false, List, [], ◌∷◌, ◌++◌, map}
use Rattle.model.specs.State.{Name, Machine, Spec, Phase, Waiting, Told, Ready, Ending, State, blank, cpu_of}
use Rattle.model.specs.Settle.{here}
use Rattle.model.specs.Calls.{Seen, Call, SetJob, AddMachine, Report, Tick, Order, Line, Reply, No, Yes, Run, lines_of, does}

pub data Letter : Type 0 where
  A B C D E F G H : Letter

-- a call, its answer, and afterwards: all tasks, and the cpu that is counted on each machine
pub record Turn : Type 0 where
  pub call : Call
  pub reply : Reply
  pub tasks : List Line
  pub cpu : List ℕ

-- before: the calls that lead there, from the blank state
pub record Row : Type 0 where
  pub letter : Letter
  pub before : List Call
  pub turns : List Turn

unfoldable pub after : List Call → State → State
after [] s = s
after (c ∷ cs) s = after cs (does c s).state

-- what comes of these calls
unfoldable pub comes : List Turn → State → List Turn
comes [] s = []
comes (t ∷ ts) s =
    record { call = t.call; reply = (does t.call s).reply; tasks = lines_of (does t.call s).state.tasks; cpu = map (λ (m : Machine). cpu_of (here m (does t.call s).state.tasks)) (does t.call s).state.machines } ∷
    comes ts (does t.call s).state

abbrev pub played : Row → Row
played r = record { letter = r.letter; before = r.before; turns = comes r.turns (after r.before blank) }

-- WORDS FOR THE ROWS

abbrev pub mix : Name
mix = 109 ∷ 105 ∷ 120 ∷ []

abbrev pub web : Name
web = 119 ∷ 101 ∷ 98 ∷ []

abbrev pub gpu : Name
gpu = 103 ∷ 112 ∷ 117 ∷ []

-- a spec by its image and cpu, of one memory, for any machine
abbrev pub spec : ℕ → ℕ → Spec
spec i c = record { image = i; cpu = c; mem = 1; tags = []; apart = false }

abbrev pub tagged : ℕ → ℕ → ℕ → Spec
tagged i c t = record { image = i; cpu = c; mem = 1; tags = t ∷ []; apart = false }

abbrev pub listed : ℕ → Bool → Seen
listed i b = record { id = i; ready = b }

abbrev pub order : ℕ → Spec → Order
order i a = record { id = i; spec = a }

-- a task by its number, version, phase and machine
abbrev pub task : ℕ → ℕ → Phase → ℕ → Line
task i v p m = record { id = i; version = v; phase = p; machine = m }

abbrev pub turn : Call → Reply → List Line → List ℕ → Turn
turn c r ts us = record { call = c; reply = r; tasks = ts; cpu = us }

abbrev pub said : List Turn → List Call
said ts = map (λ (t : Turn). t.call) ts

-- THE ROWS

-- A. Two machines of cpu 10, both heard of. Task 1 goes to the first. At the next pass task 2 comes, and goes where most is left.
abbrev pub case_a : List Turn
case_a =
    turn (Tick 1) Yes [] [] ∷
    turn (AddMachine 1 10 10 []) Yes [] (0 ∷ []) ∷
    turn (AddMachine 2 10 10 []) Yes [] (0 ∷ 0 ∷ []) ∷
    turn (Report 1 1 1 []) (Run 1 []) [] (0 ∷ 0 ∷ []) ∷
    turn (Report 2 1 1 []) (Run 1 []) [] (0 ∷ 0 ∷ []) ∷
    turn (SetJob mix (spec 1 4) 2 1 3) Yes (task 1 1 Told 1 ∷ []) (4 ∷ 0 ∷ []) ∷
    turn (Tick 1) Yes (task 1 1 Told 1 ∷ task 2 1 Told 2 ∷ []) (4 ∷ 4 ∷ []) ∷ []

-- B. A report that task 1 isn't ready is answered with task 1; the next says that it is, and it is; the same report again is no news.
abbrev pub case_b : List Turn
case_b =
    turn (Report 1 1 2 (listed 1 false ∷ [])) (Run 2 (order 1 (spec 1 4) ∷ [])) (task 1 1 Told 1 ∷ task 2 1 Told 2 ∷ []) (4 ∷ 4 ∷ []) ∷
    turn (Report 1 1 3 (listed 1 true ∷ [])) (Run 3 (order 1 (spec 1 4) ∷ [])) (task 1 1 Ready 1 ∷ task 2 1 Told 2 ∷ []) (4 ∷ 4 ∷ []) ∷
    turn (Report 1 1 3 (listed 1 true ∷ [])) (No 5) (task 1 1 Ready 1 ∷ task 2 1 Told 2 ∷ []) (4 ∷ 4 ∷ []) ∷ []

-- C. Both are ready; a new image: both are old. Task 2, the last, ends, since two are ready and the least is 1; task 3 of version 2 comes, the most being 3. Task 1 doesn't end before 3 is ready.
abbrev pub case_c : List Turn
case_c =
    turn (Report 2 1 2 (listed 2 true ∷ [])) (Run 2 (order 2 (spec 1 4) ∷ [])) (task 1 1 Ready 1 ∷ task 2 1 Ready 2 ∷ []) (4 ∷ 4 ∷ []) ∷
    turn (SetJob mix (spec 2 4) 2 1 3) Yes (task 1 1 Ready 1 ∷ task 2 1 Ending 2 ∷ task 3 2 Told 1 ∷ []) (8 ∷ 4 ∷ []) ∷
    turn (Tick 1) Yes (task 1 1 Ready 1 ∷ task 2 1 Ending 2 ∷ task 3 2 Told 1 ∷ []) (8 ∷ 4 ∷ []) ∷
    turn (Report 1 1 4 (listed 1 true ∷ listed 3 false ∷ [])) (Run 4 (order 1 (spec 1 4) ∷ order 3 (spec 2 4) ∷ [])) (task 1 1 Ready 1 ∷ task 2 1 Ending 2 ∷ task 3 2 Told 1 ∷ []) (8 ∷ 4 ∷ []) ∷
    turn (Report 1 1 5 (listed 1 true ∷ listed 3 true ∷ [])) (Run 5 (order 3 (spec 2 4) ∷ [])) (task 1 1 Ending 1 ∷ task 2 1 Ending 2 ∷ task 3 2 Ready 1 ∷ []) (8 ∷ 4 ∷ []) ∷ []

-- D. Task 2 is ending on machine 2 and counts there, 4 of 10, so that one of cpu 7 has to wait; also when a report lists it. When a report doesn't, it is gone, and the other goes there.
abbrev pub case_d : List Turn
case_d =
    turn (SetJob web (spec 5 7) 1 0 1) Yes (task 1 1 Ending 1 ∷ task 2 1 Ending 2 ∷ task 3 2 Ready 1 ∷ task 4 1 Waiting 0 ∷ []) (8 ∷ 4 ∷ []) ∷
    turn (Report 2 1 3 (listed 2 true ∷ [])) (Run 3 []) (task 1 1 Ending 1 ∷ task 2 1 Ending 2 ∷ task 3 2 Ready 1 ∷ task 4 1 Waiting 0 ∷ []) (8 ∷ 4 ∷ []) ∷
    turn (Report 2 1 4 []) (Run 4 (order 4 (spec 5 7) ∷ [])) (task 1 1 Ending 1 ∷ task 3 2 Ready 1 ∷ task 4 1 Told 2 ∷ task 5 2 Waiting 0 ∷ []) (8 ∷ 7 ∷ []) ∷ []

-- E. Machine 2, with two tasks, falls; its agent comes up with life 2 and says so: all its tasks of life 1 are gone, and others come in their place. A report of life 1 is no news any more.
abbrev pub case_e : List Turn
case_e =
    turn (SetJob web (spec 5 2) 2 0 2) Yes (task 1 1 Ready 1 ∷ task 2 1 Told 2 ∷ task 3 1 Told 1 ∷ []) (6 ∷ 4 ∷ []) ∷
    turn (Tick 1) Yes (task 1 1 Ready 1 ∷ task 2 1 Told 2 ∷ task 3 1 Told 1 ∷ task 4 1 Told 2 ∷ []) (6 ∷ 6 ∷ []) ∷
    turn (Report 2 2 1 []) (Run 1 (order 5 (spec 1 4) ∷ order 6 (spec 5 2) ∷ [])) (task 1 1 Ready 1 ∷ task 3 1 Told 1 ∷ task 5 1 Told 2 ∷ task 6 1 Told 2 ∷ []) (6 ∷ 6 ∷ []) ∷
    turn (Report 2 1 9 (listed 2 true ∷ [])) (No 5) (task 1 1 Ready 1 ∷ task 3 1 Told 1 ∷ task 5 1 Told 2 ∷ task 6 1 Told 2 ∷ []) (6 ∷ 6 ∷ []) ∷ []

-- F. All was heard at time 1. At 30,001 both are ready still; at 30,002 no machine is present, no task is ready, and nothing is placed, until a machine is heard of.
abbrev pub case_f : List Turn
case_f =
    turn (Report 2 1 2 (listed 2 true ∷ [])) (Run 2 (order 2 (spec 1 4) ∷ [])) (task 1 1 Ready 1 ∷ task 2 1 Ready 2 ∷ []) (4 ∷ 4 ∷ []) ∷
    turn (Tick 30001) Yes (task 1 1 Ready 1 ∷ task 2 1 Ready 2 ∷ []) (4 ∷ 4 ∷ []) ∷
    turn (Tick 30002) Yes (task 1 1 Told 1 ∷ task 2 1 Told 2 ∷ []) (4 ∷ 4 ∷ []) ∷
    turn (SetJob web (spec 5 2) 1 0 1) Yes (task 1 1 Told 1 ∷ task 2 1 Told 2 ∷ task 3 1 Waiting 0 ∷ []) (4 ∷ 4 ∷ []) ∷
    turn (Report 1 1 4 (listed 1 true ∷ [])) (Run 4 (order 1 (spec 1 4) ∷ order 3 (spec 5 2) ∷ [])) (task 1 1 Ready 1 ∷ task 2 1 Told 2 ∷ task 3 1 Told 1 ∷ []) (6 ∷ 4 ∷ []) ∷ []

-- G. Count, least and most 1: nothing could ever be changed, so it is turned away. With a most of 2 it is not.
abbrev pub case_g : List Turn
case_g =
    turn (SetJob mix (spec 1 4) 1 1 1) (No 1) [] [] ∷
    turn (SetJob mix (spec 1 4) 1 1 2) Yes (task 1 1 Waiting 0 ∷ []) [] ∷ []

-- H. A task that needs a tag that no machine has waits, and holds up no other.
abbrev pub case_h : List Turn
case_h =
    turn (SetJob gpu (tagged 6 1 7) 1 0 1) Yes (task 1 1 Told 1 ∷ task 2 1 Told 2 ∷ task 3 1 Waiting 0 ∷ []) (4 ∷ 4 ∷ []) ∷
    turn (SetJob web (spec 5 2) 1 0 1) Yes (task 1 1 Told 1 ∷ task 2 1 Told 2 ∷ task 3 1 Waiting 0 ∷ task 4 1 Told 1 ∷ []) (6 ∷ 4 ∷ []) ∷ []

abbrev pub table : List Row
table =
    record { letter = A; before = []; turns = case_a } ∷
    record { letter = B; before = said case_a; turns = case_b } ∷
    record { letter = C; before = said (case_a ++ case_b); turns = case_c } ∷
    record { letter = D; before = said (case_a ++ (case_b ++ case_c)); turns = case_d } ∷
    record { letter = E; before = said (case_a ++ case_b); turns = case_e } ∷
    record { letter = F; before = said (case_a ++ case_b); turns = case_f } ∷
    record { letter = G; before = Tick 1 ∷ []; turns = case_g } ∷
    record { letter = H; before = said case_a; turns = case_h } ∷ []

-- THE TABLE HOLDS: played, each row comes out as it stands
abbrev pub TableHolds : Type 0
TableHolds = map played table ≡ table
