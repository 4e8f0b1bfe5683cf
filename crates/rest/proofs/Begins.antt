-- The first round, after which herd and agents know of each other; and so the theorem.
-- Assumes nothing.
use Rattle.std.proofs.Common.{◌≡◌, ℕ, zero, suc, ◌+◌, ◌*◌, ◌<◌, ◌≤◌, Bool, true, false, ◌⊎◌, List, [], ◌∷◌, ◌++◌, sym, refl, ap, ◌∙◌, subst, inl, inr, le_trans, le_refl, arith}
use Rattle.model.specs.State.{Machine, Job, Task, State}
use Rattle.model.specs.Lists.{keep, same}
use Rattle.model.specs.Settle.{settle}
use Rattle.model.specs.Calls.{timed}
use Rattle.rest.specs.Rest.{is_alive, is_new, missing, wanted_of, to_do}
use Rattle.rest.specs.Rounds.{Roomy, Anyhow}
use Rattle.model.proofs.Lists.{In, in_from, in_to, count_cons, bump, Pass, pass_up, pass_down, Once}
use Rattle.model.proofs.Tasks.{Never}
use Rattle.model.proofs.Settles.{unplaced_alike, Fine}
use Rattle.model.proofs.Acts.{fine_heard, fine_timed}
use Rattle.rest.proofs.Lacks.{alives}
use Rattle.rest.proofs.Stuck.{Resting}
use Rattle.rest.proofs.Origins.{hear_pass}
use Rattle.rest.proofs.Scenes.{Scene, left, told, Move, visit, tick, stays, sound_move, Moves, stop, go, Turn, Turns}
use Rattle.model.proofs.Keeps.{Sound}
use Rattle.rest.proofs.Knows.{Unsured, unsured, unsured_as, unsured_new, Steady}
use Rattle.rest.proofs.Comes.{KnownIn, known_move, Going, steady_move}
use Rattle.rest.proofs.Quiets.{in_app, back_run, on_run, going_run, two_rounds}
use Rattle.rest.proofs.Rests.{rest_rounds, going_rounds}
use Rattle.rest.proofs.Whole.{whole, whole_le, whole_settle, sum_news, kinds, sum_cons, kinds_le, whole_heard}

-- WHAT IS LEFT TO DO IS NEVER LESS THAN WHAT IS WANTED

sums_none : (ks : List Job) → sum_news ks [] ≤ alives []
unfolding sum_news keep
sums_none [] = omega arith
sums_none (k ∷ ks) = let i : sum_news ks [] ≤ 0 = sums_none ks in omega arith

sums_alive : (js : List Job) → Once (λ (a b : Job). same a.name b.name) js → (ts : List Task) → sum_news js ts ≤ alives ts
sums_alive js o [] = sums_none js
sums_alive js o (t ∷ ts) =
    let i : sum_news js ts ≤ alives ts = sums_alive js o ts in
    let b : sum_news js (t ∷ ts) ≡ sum_news js ts + kinds js t = sum_cons js t ts in
    let c : kinds js t ≤ bump (is_alive t) 0 = kinds_le js o t in
    let e : alives (t ∷ ts) ≡ bump (is_alive t) (alives ts) = count_cons is_alive t ts in add (is_alive t) i b c e
  where
    add : (g : Bool) → sum_news js ts ≤ alives ts → sum_news js (t ∷ ts) ≡ sum_news js ts + kinds js t → kinds js t ≤ bump g 0 → alives (t ∷ ts) ≡ bump g (alives ts) → sum_news js (t ∷ ts) ≤ alives (t ∷ ts)
    add true i b c e = omega arith
    add false i b c e = omega arith

wanted_sums : (js : List Job) (ts : List Task) → wanted_of js ≤ sum_news js ts + missing js ts
unfolding wanted_of sum_news missing
wanted_sums [] ts = omega arith
wanted_sums (j ∷ js) ts = let a : wanted_of js ≤ sum_news js ts + missing js ts = wanted_sums js ts in omega arith

pub low : (w : Scene) → Fine w.herd → wanted_of w.herd.jobs ≤ left w
unfolding to_do
low w r =
    let a : sum_news w.herd.jobs w.herd.tasks ≤ alives w.herd.tasks = sums_alive w.herd.jobs r.jobs w.herd.tasks in
    let b : wanted_of w.herd.jobs ≤ sum_news w.herd.jobs w.herd.tasks + missing w.herd.jobs w.herd.tasks = wanted_sums w.herd.jobs w.herd.tasks in omega arith

-- A ROUND FROM ANYWHERE

abbrev pub whole_in : State → ℕ
whole_in s = whole s.jobs s.tasks

whole_settle' : (u : State) → Fine u → whole_in (settle u) ≤ whole_in u
whole_settle' u f = subst (λ (js : List Job). whole js (settle u).tasks ≤ whole_in u) (sym (unplaced_alike u).2) (whole_settle u f)

whole_move : {ks : List ℕ} {w v : Scene} → Fine w.herd → Move ks w v → whole_in v.herd ≤ whole_in w.herd
whole_move {w = w} {v = v} f (visit i vs snd) = subst (λ (s : State). whole_in s ≤ whole_in w.herd) (sym vs.herd) (le_trans (whole_settle' (told w v i vs) (fine_heard i _ _ _ w.herd f)) (whole_heard w.herd.jobs f.jobs i (w.life i) vs.said (hear_pass i (w.life i) vs.said vs.ready w.herd.tasks)))
whole_move {w = w} {v = v} f (tick ts snd) =
    subst (λ (s : State). whole_in s ≤ whole_in w.herd) (sym ts.herd) (le_trans (whole_settle' (timed ts.time w.herd) (fine_timed ts.time w.herd f)) (whole_le w.herd.jobs w.herd.tasks (timed ts.time w.herd).tasks (pass_down Never Unsured is_alive (λ x y r. (unsured_as x y r).3) p) (λ k i. pass_up Never Unsured (is_new k) (λ x d. absurd d) (unsured_new k) p)))
  where
    p : Pass Never Unsured w.herd.tasks (timed ts.time w.herd).tasks
    p = unsured ts.time w.herd.machines w.herd.tasks
whole_move {w = w} {v = v} f (stays ss snd) = subst (λ (s : State). whole_in s ≤ whole_in w.herd) (sym ss.herd) (le_refl _)

pub jobs_move : {ks : List ℕ} {w v : Scene} → Move ks w v → v.herd.jobs ≡ w.herd.jobs
jobs_move {w = w} {v = v} (visit i vs snd) = ap (λ (s : State). s.jobs) vs.herd ∙ (unplaced_alike (told w v i vs)).2
jobs_move {w = w} (tick ts snd) = ap (λ (s : State). s.jobs) ts.herd ∙ (unplaced_alike (timed ts.time w.herd)).2
jobs_move (stays ss snd) = ap (λ (s : State). s.jobs) ss.herd

pub record Begun (ks : List ℕ) (w v : Scene) : Type 0 where
  pub sound : Sound v.herd
  pub steady : Steady v.herd
  pub known : (i : ℕ) → KnownIn w i ⊎ In i ks → KnownIn v i
  pub less : whole_in v.herd ≤ whole_in w.herd
  pub jobs : v.herd.jobs ≡ w.herd.jobs

pub begun : {P : State → Type 0} {ks : List ℕ} {w v : Scene} → Moves P ks w v → Sound w.herd → Steady w.herd → Begun ks w v
begun (stop w) r s = record { sound = r; steady = s; known = λ i o. elim o [ inl h ↦ h | inr h ↦ absurd h ]; less = le_refl _; jobs = refl }
begun (go {ks = ks} {ls = ls} {w = w} {u = u} {v = v} c h rest) r s = join (begun rest (sound_move c) (steady_move f m s))
  where
    f : Fine w.herd
    f = r.fine

    m : Move ks w u
    m = c

    join : Begun ls u v → Begun (ks ++ ls) w v
    join b = record { sound = b.sound; steady = b.steady; known = known; less = le_trans b.less (whole_move f m); jobs = b.jobs ∙ jobs_move m }
      where
        known : (i : ℕ) → KnownIn w i ⊎ In i (ks ++ ls) → KnownIn v i
        known i (inl k) = b.known i (inl (known_move f m i (inl k)))
        known i (inr k) = elim (in_app i ks ls k) [ inl j ↦ b.known i (inl (known_move f m i (inr j))) | inr j ↦ b.known i (inr j) ]

missing_wanted : (js : List Job) (ts : List Task) → missing js ts ≤ wanted_of js
unfolding missing wanted_of
missing_wanted [] ts = omega arith
missing_wanted (j ∷ js) ts = let a : missing js ts ≤ wanted_of js = missing_wanted js ts in omega arith

-- after one round all is known, and what is left to do is bounded by what there was at the beginning
pub first_round : (w u : Scene) → Sound w.herd → Steady w.herd → Turn Anyhow w u → Going u × (left u ≤ (alives w.herd.tasks + wanted_of w.herd.jobs) + wanted_of w.herd.jobs)
unfolding to_do whole
first_round w u r s (ks, ra, ca) = (record { sound = b.sound; steady = b.steady; agreed = agreed }, bound)
  where
    b : Begun ks w u
    b = begun ra r s

    agreed : (m : Machine) → In m u.herd.machines → KnownIn u m.num
    agreed m i = let x = back_run ra m i in b.known m.num (inr (subst (λ (n : ℕ). In n ks) (sym x.2) (in_from (ca x.0 (in_to x.0 w.herd.machines x.1)))))

    bound : alives u.herd.tasks + 2 * missing u.herd.jobs u.herd.tasks ≤ (alives w.herd.tasks + wanted_of w.herd.jobs) + wanted_of w.herd.jobs
    bound =
        let p : alives u.herd.tasks + missing u.herd.jobs u.herd.tasks ≤ alives w.herd.tasks + missing w.herd.jobs w.herd.tasks = b.less in
        let q : missing u.herd.jobs u.herd.tasks ≤ wanted_of w.herd.jobs = subst (λ (js : List Job). missing u.herd.jobs u.herd.tasks ≤ wanted_of js) b.jobs (missing_wanted u.herd.jobs u.herd.tasks) in
        let c : missing w.herd.jobs w.herd.tasks ≤ wanted_of w.herd.jobs = missing_wanted w.herd.jobs w.herd.tasks in omega arith

-- IT COMES TO REST, AND STAYS SO

pub jobs_run : {P : State → Type 0} {ks : List ℕ} {w v : Scene} → Moves P ks w v → v.herd.jobs ≡ w.herd.jobs
jobs_run (stop w) = refl
jobs_run (go c r rest) = jobs_run rest ∙ jobs_move c

comes : (k c : ℕ) {n : ℕ} {w v : Scene} → Turns Roomy n w v → Going w → (m : Machine) → In m w.herd.machines → wanted_of w.herd.jobs ≡ c → left w ≤ k + c → 2 * k + 2 ≤ n → Resting v.herd
comes k c (Turns.none w) g m i e l h = absurd (omega arith)
comes k c (Turns.more ra (Turns.none u)) g m i e l h = absurd (omega arith)
comes k c (Turns.more {n = n₁} {w = w} {u = u} ra (Turns.more {n = n} {u = x} {v = v} rb rest)) g m i e l h = pick k l h (λ k'. comes k' c rest gx mx.0 mx.1 same_jobs) (two_rounds w u x g m i ra rb)
  where
    gx : Going x
    gx = going_run rb.1 (going_run ra.1 g)

    mu : (y : Machine) × In y u.herd.machines
    mu = on_run ra.1 m i

    mx : (y : Machine) × In y x.herd.machines
    mx = on_run rb.1 mu.0 mu.1

    same_jobs : wanted_of x.herd.jobs ≡ c
    same_jobs = ap wanted_of (jobs_run rb.1 ∙ jobs_run ra.1) ∙ e

    pick : (j : ℕ) → left w ≤ j + c → 2 * j + 2 ≤ suc (suc n) → ((k' : ℕ) → left x ≤ k' + c → 2 * k' + 2 ≤ n → Resting v.herd) → (left x < left w) ⊎ Resting x.herd → Resting v.herd
    pick j a b rec (inr r) = rest_rounds rest gx r
    pick zero a b rec (inl d) = let z : wanted_of x.herd.jobs ≤ left x = low x gx.sound.fine in let y : wanted_of x.herd.jobs ≡ c = same_jobs in absurd (omega arith)
    pick (suc j) a b rec (inl d) = rec j (omega arith) (omega arith)

pub scene_rests : (w u v : Scene) (n : ℕ) → Sound w.herd → Steady w.herd → (m : Machine) → In m w.herd.machines → Turn Anyhow w u → Turns Roomy n u v → 3 + 2 * (alives w.herd.tasks + wanted_of w.herd.jobs) ≤ n + 1 → Going v × Resting v.herd
scene_rests w u v n r s m mi ra rest h =
    let f = first_round w u r s ra in
    let mu = on_run ra.1 m mi in
    let K = alives w.herd.tasks + wanted_of w.herd.jobs in
    let q = comes K (wanted_of w.herd.jobs) rest f.0 mu.0 mu.1 (ap wanted_of (jobs_run ra.1)) f.1 (omega arith) in
    (going_rounds rest f.0, q)
