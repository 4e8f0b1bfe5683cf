-- Sound words and good states: what the words stand for is good if they are sound, and only then.
-- Assumes nothing.
use Rattle.std.proofs.Common.{◌≡◌, ℕ, suc, ◌+◌, Bool, true, not, ◌&&◌, ◌||◌, eqb, ltb, leb, List, [], ◌∷◌, map, replicate, sym, refl, ap, ◌∙◌, subst, inl, inr, arith}
use Rattle.std.proofs.lemmas.Bool.{and_parts, and_from, cases_Bool, cases_lt}
use Rattle.std.proofs.lemmas.List.{get_or_past, get_or-replicate, length-replicate}
use Rattle.model.specs.Lists.{some, every}
use Rattle.model.specs.State.{Machine, Task, State, blank, is_machine, is_ready_lem}
use Rattle.model.specs.Calls.{unheard, unready, down}
use Rattle.model.specs.Promise.{once_jobs, once_machines, rising_tasks}
use Rattle.model.proofs.Lists.Tests.{to_true, from_true}
use Rattle.model.proofs.Settles.{Fine, fine_from, fine_to}
use Rattle.jobs.specs.Rows.{at}
use Rattle.jobs.specs.Tables.{jobs_of, machines_of, tasks_of, state_of}
use Rattle.jobs.proofs.Darkness.{goes_dark_lem, begins}
use Rattle.calls.specs.Sound.{sound_tasks_lem, sound_words}

-- THE DARK takes neither numbers nor their order

unready_id : (t : Task) → (unready t).id ≡ t.id
unready_id t = elim (cases_Bool (is_ready_lem t.phase)) [ inl a ↦ rw a | inr a ↦ rw a ]

rising_dark : (n : ℕ) (ts : List Task) → rising_tasks n (map unready ts) ≡ rising_tasks n ts
unfolding rising_tasks
rising_dark n [] = refl
rising_dark n (t ∷ ts) = ap (λ (k : ℕ). leb n k && rising_tasks (suc k) (map unready ts)) (unready_id t) ∙ ap (λ (b : Bool). leb n t.id && b) (rising_dark (suc t.id) ts)

below_dark : (n : ℕ) (ts : List Task) → every (λ (t : Task). ltb t.id n) (map unready ts) ≡ every (λ (t : Task). ltb t.id n) ts
unfolding every
below_dark n [] = refl
below_dark n (t ∷ ts) = ap (λ (k : ℕ). ltb k n && every (λ (x : Task). ltb x.id n) (map unready ts)) (unready_id t) ∙ ap (λ (b : Bool). ltb t.id n && b) (below_dark n ts)

some_dark : (k : ℕ) (ms : List Machine) → some (is_machine k) (map unheard ms) ≡ some (is_machine k) ms
unfolding some
some_dark k [] = refl
some_dark k (m ∷ ms) = ap (λ (b : Bool). eqb k m.num || b) (some_dark k ms)

once_dark : (ms : List Machine) → once_machines (map unheard ms) ≡ once_machines ms
unfolding once_machines
once_dark [] = refl
once_dark (m ∷ ms) = ap (λ (b : Bool). not b && once_machines (map unheard ms)) (some_dark m.num ms) ∙ ap (λ (b : Bool). not (some (is_machine m.num) ms) && b) (once_dark ms)

no_words : (k : ℕ) → at [] k ≡ 0
no_words k = get_or_past [] k 0 (omega arith)

-- SOUND, by whatever is ready and was heard

pub sound_any : (home live : List ℕ) → sound_words home ≡ (once_jobs (jobs_of home) && (once_machines (machines_of home live) && sound_tasks_lem (at home 0) (tasks_of home live)))
sound_any home live =
    let d : state_of home [] 0 ≡ down (state_of home live 0) = goes_dark_lem live [] no_words home 0 in
    let a : once_machines (machines_of home []) ≡ once_machines (machines_of home live) = ap (λ (s : State). once_machines s.machines) d ∙ once_dark (machines_of home live) in
    let b : rising_tasks 0 (tasks_of home []) ≡ rising_tasks 0 (tasks_of home live) = ap (λ (s : State). rising_tasks 0 s.tasks) d ∙ rising_dark 0 (tasks_of home live) in
    let c : every (λ (t : Task). ltb t.id (at home 0 + 1)) (tasks_of home []) ≡ every (λ (t : Task). ltb t.id (at home 0 + 1)) (tasks_of home live) = ap (λ (s : State). every (λ (t : Task). ltb t.id (at home 0 + 1)) s.tasks) d ∙ below_dark (at home 0 + 1) (tasks_of home live) in
    ap (λ (x : Bool). once_jobs (jobs_of home) && (x && sound_tasks_lem (at home 0) (tasks_of home []))) a ∙
    ap (λ (x : Bool). once_jobs (jobs_of home) && (once_machines (machines_of home live) && (x && every (λ (t : Task). ltb t.id (at home 0 + 1)) (tasks_of home [])))) b ∙
    ap (λ (x : Bool). once_jobs (jobs_of home) && (once_machines (machines_of home live) && (rising_tasks 0 (tasks_of home live) && x))) c

pub sound_fine : (home live : List ℕ) (time : ℕ) → sound_words home ≡ true → Fine (state_of home live time)
sound_fine home live time h =
    let p = and_parts _ _ (sym (sound_any home live) ∙ h) in
    let q = and_parts _ _ p.1 in
    let r = and_parts _ _ q.1 in
    fine_from (state_of home live time) (from_true _ p.0, from_true _ q.0, from_true _ r.0, from_true _ r.1)

pub fine_sound : (home live : List ℕ) (time : ℕ) → Fine (state_of home live time) → sound_words home ≡ true
fine_sound home live time f =
    let g = fine_to (state_of home live time) f in
    sound_any home live ∙ and_from _ _ (to_true _ g.0) (and_from _ _ (to_true _ g.1) (and_from _ _ (to_true _ g.2) (to_true _ g.3)))

-- AT FIRST there are zeros

pub zeros_at : (n k : ℕ) → at (replicate n 0) k ≡ 0
zeros_at n k = elim (cases_lt k n) [ inl l ↦ get_or-replicate n k 0 0 l | inr g ↦ get_or_past (replicate n 0) k 0 (omega (arith, length-replicate {A = ℕ} n 0)) ]

pub zeros_blank : (n : ℕ) (live : List ℕ) → state_of (replicate n 0) live 0 ≡ blank
zeros_blank n live = begins (replicate n 0) (zeros_at n) live

pub zeros_sound : (n : ℕ) → sound_words (replicate n 0) ≡ true
zeros_sound n = fine_sound (replicate n 0) [] 0 (subst Fine (sym (zeros_blank n [])) (record { jobs = tt; machines = tt; tidy = (tt, λ t i. absurd i) }))
