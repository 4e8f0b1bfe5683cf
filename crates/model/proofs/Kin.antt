-- Whatever is done to the herd, a task keeps its number, spec, job and version. What calls and the dark keep of a state holds in every world.
-- Assumes nothing.
use Rattle.std.proofs.Common.{◌≡◌, ℕ, Bool, true, ◌⊎◌, List, [], ◌∷◌, map, refl, ap, inl, inr}
use Rattle.std.proofs.lemmas.Bool.{cond_both}
use Rattle.model.specs.State.{Machine, Job, Told, Task, State, blank, is_ready_lem, phased, with_tasks}
use Rattle.model.specs.Lists.{keep}
use Rattle.model.specs.Settle.{ended, orphans_end, settle, may_grow_lem, more, unplaced}
use Rattle.model.specs.Calls.{Seen, Call, Forget, Report, heard_all, unsure, does, down}
use Rattle.model.specs.World.{World, Step, Reach}
use Rattle.model.proofs.Lists.{In, Pass, pass_same, pass_keep, pass_map, pass_weaken}
use Rattle.model.proofs.Tasks.{jobless, Ends, orphans_pass, ended_pass, MayEnd, step_is, steps_are, Put}
use Rattle.model.proofs.Settles.{Tidy, tidy_pass, tidy_step, orphan_id, EndsOne, settle_pass}
use Rattle.model.proofs.Acts.{HeardAs, heard_pass}
use Rattle.model.proofs.Keeps.{Sound}
use Rattle.model.proofs.Worlds.{inv_reach}

-- TASKS THAT GO ON

-- a task goes on as itself
abbrev pub Same : Task → Task → Type 0
Same x y = (y.id ≡ x.id) × (y.spec ≡ x.spec) × (y.job ≡ x.job) × (y.version ≡ x.version)

abbrev pub Any : Task → Type 0
Any x = Unit {0}

-- of one that doesn't change
pub is_same : (x y : Task) → y ≡ x → Same x y
is_same x y e = (ap (λ (t : Task). t.id) e, ap (λ (t : Task). t.spec) e, ap (λ (t : Task). t.job) e, ap (λ (t : Task). t.version) e)

orphan_same : (js : List Job) (x y : Task) → (y ≡ x) ⊎ ((jobless js x ≡ true) × Ends x y) → Same x y
orphan_same js x y (inl e) = is_same x y e
orphan_same js x y (inr h) = let e = h.1.1 in (ap (λ (t : Task). t.id) e, ap (λ (t : Task). t.spec) e, ap (λ (t : Task). t.job) e, ap (λ (t : Task). t.version) e)

ends_same : (t x y : Task) → EndsOne t x y → Same x y
ends_same t x y (inl e) = is_same x y e
ends_same t x y (inr h) = let e = h.1.1 in (ap (λ (t : Task). t.id) e, ap (λ (t : Task). t.spec) e, ap (λ (t : Task). t.job) e, ap (λ (t : Task). t.version) e)

put_same : (x y : Task) → Put x y → Same x y
put_same x y (inl e) = is_same x y e
put_same x y (inr h) = let e = h.3 in (ap (λ (t : Task). t.id) e, ap (λ (t : Task). t.spec) e, ap (λ (t : Task). t.job) e, ap (λ (t : Task). t.version) e)

heard_same : (k l : ℕ) (x y : Task) → HeardAs k l x y → Same x y
heard_same k l x y (inl h) = is_same x y h.1
heard_same k l x y (inr h) = let e = h.4 in (ap (λ (t : Task). t.id) e, ap (λ (t : Task). t.spec) e, ap (λ (t : Task). t.job) e, ap (λ (t : Task). t.version) e)

pub ended_kin : (j : Job) (s : State) → Tidy s → (xs : List Task) → MayEnd s j xs → Pass Any Same s.tasks (ended xs s.tasks)
unfolding ended
ended_kin j s h [] m = pass_same Any Same s.tasks (λ x i. is_same x x refl)
ended_kin j s h (t ∷ ts) m = pass_weaken (λ x d. tt) (ends_same t) (ended_pass 0 s.tasks h.0 t m.0 ts)

pub orphans_kin : (js : List Job) (ts : List Task) → Pass Any Same ts (orphans_end js ts)
orphans_kin js ts = pass_weaken (λ x d. tt) (orphan_same js) (orphans_pass js ts)

-- what placing does
pub settle_kin : (s : State) → Tidy s → Pass Any Same (unplaced s).tasks (settle s).tasks
settle_kin s h = pass_weaken (λ x d. tt) put_same (settle_pass s h)

pub heard_kin : (k l : ℕ) (xs : List Seen) (ts : List Task) → Pass Any Same ts (heard_all k l xs ts)
heard_kin k l xs ts = pass_weaken (λ x d. tt) (heard_same k l) (heard_pass k l xs ts)

pub keep_kin : (f : Task → Bool) (ts : List Task) → Pass Any Same ts (keep f ts)
keep_kin f ts = pass_keep Any Same f ts (λ x i e. tt) (λ x i e. is_same x x refl)

pub timed_kin : (now : ℕ) (ms : List Machine) (ts : List Task) → Pass Any Same ts (map (unsure now ms) ts)
unfolding unsure
timed_kin now ms ts = pass_map Any Same (unsure now ms) ts (λ t i. cond_both _ (phased Told t) t (Same t) (λ _. (refl, refl, refl, refl)) (λ _. (refl, refl, refl, refl)))

pub down_kin : (s : State) → Pass Any Same s.tasks (down s).tasks
down_kin s = pass_map Any Same _ s.tasks (λ t i. cond_both (is_ready_lem t.phase) (phased Told t) t (Same t) (λ _. (refl, refl, refl, refl)) (λ _. (refl, refl, refl, refl)))

-- what a pass over tasks that go on leaves as it was, settling leaves so, if new tasks do
pub settle_keeps : (Q : State → Type 0) → ((u : State) (ts : List Task) → Pass Any Same u.tasks ts → Q u → Q (with_tasks ts u)) → (s : State) → ((j : Job) → In j s.jobs → (u : State) → Tidy u → may_grow_lem j u ≡ true → Q u → Q (more j u)) → Tidy s → Q s → Q (settle s)
settle_keeps Q p s g h q = p (unplaced s) _ (pass_weaken (λ x d. tt) put_same (settle_pass s h)) all.1
  where
    P : State → Type 0
    P u = Tidy u × Q u

    ends : (j : Job) (u : State) → P u → (xs : List Task) → MayEnd u j xs → P (with_tasks (ended xs u.tasks) u)
    ends j u k xs m = let r = ended_kin j u k.0 xs m in (tidy_pass Any Same (λ x y z. z.0) u r k.0, p u _ r k.1)

    all : P (unplaced s)
    all =
        steps_are P s.jobs (with_tasks (orphans_end s.jobs s.tasks) s)
        (λ j i u k. (tidy_step j u k.0, step_is Q j u (λ xs m. (ends j u k xs m).1) (λ xs m z. let e = ends j u k xs m in g j i (with_tasks (ended xs u.tasks) u) e.0 z e.1)))
        (tidy_pass _ _ (orphan_id s.jobs) s (orphans_pass s.jobs s.tasks) h, p s _ (pass_weaken (λ x d. tt) (orphan_same s.jobs) (orphans_pass s.jobs s.tasks)) q)

-- IN EVERY WORLD

-- what calls and the dark keep of the herd's state, a step keeps
pub step_herd : (Q : State → Type 0) → ((c : Call) (s : State) → Sound s → Q s → Q (does c s).state) → ((s : State) → Sound s → Q s → Q (down s)) → {w v : World} → Step w v → Sound w.herd → Q w.herd → Q v.herd
step_herd Q d g (Step.says w c nr nf) h q = d c w.herd h q
step_herd Q d g (Step.forgets w k) h q = d (Forget k) w.herd h q
step_herd Q d g (Step.forgets_off w k n o x) h q = d (Forget k) w.herd h q
step_herd Q d g (Step.falls w) h q = g w.herd h q
step_herd Q d g (Step.comes_up w i) h q = q
step_herd Q d g (Step.reports w i l) h q = q
step_herd Q d g (Step.hears w i l n xs k os m e) h q = d (Report i l n xs) w.herd h q
step_herd Q d g (Step.hears_not w i l n xs m e) h q = d (Report i l n xs) w.herd h q
step_herd Q d g (Step.obeyed w i os m) h q = q
step_herd Q d g (Step.starts w i o m n) h q = q
step_herd Q d g (Step.becomes w i before behind x c e) h q = q
step_herd Q d g (Step.dies w i before behind x e) h q = q

-- and so it is in every world that is reached
pub reach_herd : (Q : State → Type 0) → Q blank → ((c : Call) (s : State) → Sound s → Q s → Q (does c s).state) → ((s : State) → Sound s → Q s → Q (down s)) → {w : World} → Reach w → Q w.herd
reach_herd Q b d g Reach.begin = b
reach_herd Q b d g (Reach.then r s) = step_herd Q d g s (inv_reach r).sound (reach_herd Q b d g r)
