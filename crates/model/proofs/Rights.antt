-- What is right by two relations is right, and so are its runs; the dark settles at once.
-- Assumes nothing.
use Rattle.std.proofs.Common.{◌≡◌, Bool, true, false, cond, List, [], ◌∷◌, map, refl, ap, inl}
use Rattle.model.specs.State.{Machine, Task, State, Told, is_ready_lem, phased, blank}
use Rattle.model.specs.Calls.{down}
use Rattle.model.specs.Memory.{Memory, comes_to, fits_done, Code, Meant, Right}
use Rattle.model.specs.Right.{RightBy, RunsFit, RunsRight}
use Rattle.model.specs.Promise.{not_yet, herd, DarkOnce, nothing, silent, BlankTold, BlankAwake, SilentRight}
use Rattle.model.proofs.Runs.{right_is_right_lem, right_fits}

pub right_by : {C R : Type 0} {j : Meant C R} {e : Code C R} {Tells : Memory → j.State → Type 0} {Awake : e.Mind → Memory → j.State → Type 0} → RightBy j e Tells Awake → Right j e
right_by {Tells = Tells} {Awake = Awake} r = record { Tells = Tells; Awake = Awake; at_first_lem = r.at_first_lem; wakes = r.wakes; cut_waking = r.cut_waking; answers = r.answers; cut_answering = r.cut_answering; goes_dark = r.goes_dark }

pub runs_right_lem : {C R : Type 0} (j : Meant C R) (e : Code C R) (Tells : Memory → j.State → Type 0) (Awake : e.Mind → Memory → j.State → Type 0) → RightBy j e Tells Awake → ((s : j.State) → j.dark (j.dark s) ≡ j.dark s) → (j.dark j.start ≡ j.start) → RunsRight j e
runs_right_lem {C} {R} j e Tells Awake r = right_is_right_lem C R j e (right_by r)

pub runs_fit : {C R : Type 0} (j : Meant C R) (e : Code C R) (Tells : Memory → j.State → Type 0) (Awake : e.Mind → Memory → j.State → Type 0) → RightBy j e Tells Awake → ((s : j.State) → j.dark (j.dark s) ≡ j.dark s) → (j.dark j.start ≡ j.start) → RunsFit e
runs_fit {C} {R} j e Tells Awake r = right_fits C R j e (right_by r)

-- to go dark twice is to go dark once, which the runs want of the herd's meaning

map_twice : {A : Type 0} (f : A → A) → ((x : A) → f (f x) ≡ f x) → (xs : List A) → map f (map f xs) ≡ map f xs
map_twice f h [] = refl
map_twice f h (x ∷ xs) = let a = h x in let b = map_twice f h xs in cc

told_twice : (t : Task) → let f : Task → Task = λ u. cond (is_ready_lem u.phase) (phased Told u) u in f (f t) ≡ f t
told_twice t = pick (is_ready_lem t.phase) refl
  where
    f : Task → Task
    f u = cond (is_ready_lem u.phase) (phased Told u) u

    pick : (b : Bool) → is_ready_lem t.phase ≡ b → f (cond b (phased Told t) t) ≡ cond b (phased Told t) t
    pick true e = refl
    pick false e = rw e

pub dark_twice : (s : State) → down (down s) ≡ down s
dark_twice s = let a = map_twice _ told_twice s.tasks in let b = map_twice (λ (m : Machine). record { num = m.num; cpu = m.cpu; mem = m.mem; tags = m.tags; open' = m.open'; life = m.life; number = m.number; heard = 0 }) (λ m. refl) s.machines in λ i. record { now = 0; next_id = s.next_id; machines = b i; jobs = s.jobs; tasks = a i }

pub dark_first : down blank ≡ blank
dark_first = refl

pub dark_once_lem : DarkOnce
dark_once_lem can = record { twice = dark_twice; first = dark_first }

-- THE CODE THAT HAS BUILT NOTHING

silent_by : RightBy (herd nothing) silent BlankTold BlankAwake
unfolding comes_to
silent_by =
    record {
      at_first_lem = refl;
      wakes = λ m s t. (fits_done, t);
      cut_waking = λ m n s t h. t;
      answers = λ x m s c a. (fits_done, (s, not_yet c s (λ t. t), a));
      cut_answering = λ x m n s c a h. inl (ap down a);
      goes_dark = λ x m s a. ap down a;
    }

pub silent_right_lem : SilentRight
silent_right_lem = (silent_by, runs_right_lem (herd nothing) silent BlankTold BlankAwake silent_by dark_twice dark_first, runs_fit (herd nothing) silent BlankTold BlankAwake silent_by dark_twice dark_first)
