-- A world that comes to rest, step by step: one machine of cpu 10 and one job, whose image was changed while its task runs.
-- Assumes nothing.
use Rattle.std.specs.Prelude.{◌≡◌, ℕ, ◌+◌, ◌≤◌, Bool, true, false, List, [], ◌∷◌, map}
use Rattle.model.specs.State.{Name, Spec, Job, Ready, Ending}
use Rattle.model.specs.Calls.{Call, SetJob, AddMachine, Report, Tick, Order, lines_of, does}
use Rattle.model.specs.World.{Back, World, start, report_of, reported, risen, running, obeys, with_herd, with_agent, with_word, Reach}
use Rattle.rest.specs.Rounds.{Anyhow, Roomy, Round, Rounds}
use Rattle.rest.specs.Rest.{enough, SomeMachine, said_by}
use Rattle.rest.specs.Sooner.{Apart, enough_apart}

-- WHAT IS DONE IN IT, with the agent of machine 1

-- the herd is told something
abbrev pub told : Call → World → World
told c w = with_herd (does c w.herd).state w

-- the agent comes up; it reports; the report is heard and answered; the answer is obeyed
abbrev pub came_up : World → World
came_up w = with_agent 1 (risen (w.agent 1)) w

abbrev pub has_sent : World → World
has_sent w = with_word (report_of 1 (w.agent 1)) (with_agent 1 (reported (w.agent 1)) w)

abbrev pub was_heard : List Order → World → World
was_heard os w = with_word (Back 1 (w.agent 1).life (w.agent 1).number os) (with_herd (does (Report 1 (w.agent 1).life (w.agent 1).number (said_by (w.agent 1))) w.herd).state w)

abbrev pub turned : List Order → World → World
turned os w = with_agent 1 (obeys os ((was_heard os (has_sent w)).agent 1)) (was_heard os (has_sent w))

-- a task is started there, and becomes ready; it is the only one
abbrev pub started : ℕ → Bool → World → World
started i b w = with_agent 1 (running (record { id = i; ready = b } ∷ []) (w.agent 1)) w

abbrev pub brought_up : ℕ → World → World
brought_up i w = started i true (started i false w)

-- THE WORLD

abbrev pub mix : Name
mix = 109 ∷ 105 ∷ 120 ∷ []

-- a spec by its image, of cpu 4
abbrev pub like : ℕ → Spec
like i = record { image = i; cpu = 4; mem = 1; tags = []; apart = false }

abbrev pub order : ℕ → ℕ → Order
order i k = record { id = i; spec = like k }

-- one task is wanted, none need stay ready, and there may be one at most
abbrev pub set : ℕ → Call
set k = SetJob mix (like k) 1 0 1

-- task 1, of image 1, runs and is ready there, but wasn't heard to be; now image 2 is wanted
unfoldable pub at_first : World
at_first = told (set 2) (brought_up 1 (turned (order 1 1 ∷ []) (told (set 1) (turned [] (came_up (told (AddMachine 1 10 10 []) (told (Tick 1) start)))))))

-- a first round, and four more: task 1 is gone, task 2 comes, is told, and is heard to be ready
unfoldable pub after_one : World
after_one = turned [] at_first

unfoldable pub after_two : World
after_two = turned (order 2 2 ∷ []) after_one

unfoldable pub after_three : World
after_three = turned (order 2 2 ∷ []) (brought_up 2 after_two)

unfoldable pub after_four : World
after_four = turned (order 2 2 ∷ []) after_three

unfoldable pub after_five : World
after_five = turned (order 2 2 ∷ []) after_four

-- what is asked for all to come to rest is met by some world and rounds that do so: there is a job of which one is wanted, an old task of it is ending at the beginning, and one of the present version is there at the end, and runs
abbrev pub RestIsMet : Type 0
RestIsMet =
    Reach at_first × SomeMachine at_first.herd × Round Anyhow at_first after_one × Rounds Roomy 4 after_one after_five × (enough at_first.herd ≤ 4 + 1) × Apart at_first.herd × (enough_apart at_first.herd ≤ 4 + 1) ×
    (map (λ (j : Job). j.count) at_first.herd.jobs ≡ 1 ∷ []) ×
    (lines_of at_first.herd.tasks ≡ record { id = 1; version = 1; phase = Ending; machine = 1 } ∷ []) ×
    (lines_of after_five.herd.tasks ≡ record { id = 2; version = 2; phase = Ready; machine = 1 } ∷ []) ×
    ((after_five.agent 1).runs ≡ record { id = 2; ready = true } ∷ [])
