-- What changes of a row make of the task in it, if there is one.
-- Assumes nothing.
use Rattle.std.specs.Prelude.{ℕ, Bool, cond, List, [], ◌∷◌, map}
use Rattle.model.specs.State.{Phase, Waiting, Told, Ready, Ending, Task, is_waiting, phased, placed}

-- a task that waits is gone, any other is ending
abbrev pub end_each : List Task → List Task
end_each [] = []
end_each (t ∷ ts) = cond (is_waiting t.phase) [] (phased Ending t ∷ [])

abbrev pub place_each : ℕ → ℕ → List Task → List Task
place_each k l ts = map (placed k l) ts

-- told and ready are told or ready; what waits or ends stays
abbrev pub marked_phase : Bool → Phase → Phase
marked_phase b Waiting = Waiting
marked_phase b Told = cond b Ready Told
marked_phase b Ready = cond b Ready Told
marked_phase b Ending = Ending

abbrev pub mark_each : Bool → List Task → List Task
mark_each b ts = map (λ (t : Task). phased (marked_phase b t.phase) t) ts
