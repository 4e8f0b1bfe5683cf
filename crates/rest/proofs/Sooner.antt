-- The first round, as one job sees it; and so fewer rounds are enough where the limit of tasks cannot bind.
-- Assumes nothing.
use Rattle.std.proofs.Common.{◌≡◌, ℕ, suc, ◌+◌, ◌≤◌, max, Bool, true, false, not, ◌&&◌, eqb, List, [], ◌∷◌, length, sym, refl, ap, ◌∙◌, subst, inl, inr, le_trans, le_refl, arith}
use Rattle.std.proofs.lemmas.Bool.{false≢true, and_parts, and_from}
use Rattle.std.proofs.Math.Nat.{le-max_left, le-max_right}
use Rattle.model.specs.State.{Machine, Job, Task, State}
use Rattle.model.specs.Lists.{some, keep, same}
use Rattle.model.specs.Settle.{mine}
use Rattle.model.specs.Calls.{timed}
use Rattle.rest.specs.Rounds.{Anyhow, Roomy}
use Rattle.rest.specs.Rest.{is_alive, is_new}
use Rattle.rest.specs.Sooner.{largest, widest, strays, ComesSooner}
use Rattle.model.proofs.Lists.{bool, In, in_from, some_at, bump, count_cons, Pass, done, gone, goes, pass_down}
use Rattle.model.proofs.Tasks.{Never}
use Rattle.model.proofs.Settles.{Fine}
use Rattle.model.proofs.Acts.{fine_heard, fine_timed}
use Rattle.model.proofs.Keeps.{Sound}
use Rattle.model.proofs.Worlds.{inv_reach}
use Rattle.rest.proofs.Lacks.{news}
use Rattle.rest.proofs.Stuck.{Resting}
use Rattle.rest.proofs.Origins.{Lost, Went, hear_pass}
use Rattle.rest.proofs.Knows.{Unsured, unsured, unsured_as, unsured_new, went_new, went_as}
use Rattle.rest.proofs.Scenes.{Scene, told, Move, visit, tick, stays, sound_move, Moves, stop, go, Turn, Turns}
use Rattle.rest.proofs.Comes.{Going}
use Rattle.rest.proofs.Quiets.{going_run, on_run}
use Rattle.rest.proofs.Rests.{rest_to, rest_run, going_rounds}
use Rattle.rest.proofs.Begins.{jobs_run, first_round}
use Rattle.rest.proofs.Orderlies.{kempt_reach, steady_reach}
use Rattle.rest.proofs.Lines.{scene, runs, run_reach, rounds, rounds_reach}
use Rattle.rest.proofs.Own.{own, owns, left_of, whole_of, owns_mine}
use Rattle.rest.proofs.Bounds.{bounded_first}
use Rattle.rest.proofs.OwnMoves.{Fit, settle_at, fit_told, fit_timed, fit_move, As, own_as}
use Rattle.rest.proofs.OwnRest.{RestOf, comes_of}
use Rattle.rest.proofs.Strays.{Ending', NoStrays, strays_run, strays_gone, strays_stay}

-- A REPORT BY WHICH TASKS OF IT MAY BE LOST

new_as : (j : Job) (x y : Task) → As x y → is_new j y ≡ true → is_new j x ≡ true
new_as j x y h q = let p = and_parts (own j y) (eqb y.version j.version) q in and_from _ _ (own_as j x y h p.0) (sym (ap (λ (n : ℕ). eqb n j.version) h.1) ∙ p.1)

own_sums : (j : Job) (D : Task → Type 0) (R : Task → Task → Type 0) → ((x y : Task) → R x y → is_new j x ≡ true → is_new j y ≡ true) → ((x y : Task) → R x y → own j y ≡ true → own j x ≡ true) → {xs ys : List Task} → Pass D R xs ys → news j xs + owns j ys ≤ news j ys + owns j xs
own_sums j D R n a done = le_refl _
own_sums j D R n a (gone {x = x} {xs = xs} {ys = ys} d p) = pick (own j x) (eqb x.version j.version) (own_sums j D R n a p) (count_cons (is_new j) x xs) (count_cons (own j) x xs)
  where
    pick : (b c : Bool) → news j xs + owns j ys ≤ news j ys + owns j xs → news j (x ∷ xs) ≡ bump (b && c) (news j xs) → owns j (x ∷ xs) ≡ bump b (owns j xs) → news j (x ∷ xs) + owns j ys ≤ news j ys + owns j (x ∷ xs)
    pick true true i e g = omega arith
    pick true false i e g = omega arith
    pick false c i e g = omega arith
own_sums j D R n a (goes {x = x} {y = y} {xs = xs} {ys = ys} r p) = pick (is_new j x) (is_new j y) (own j x) (own j y) (n x y r) (a x y r) (own_sums j D R n a p) (count_cons (is_new j) x xs) (count_cons (is_new j) y ys) (count_cons (own j) x xs) (count_cons (own j) y ys)
  where
    pick : (b c d e : Bool) → (b ≡ true → c ≡ true) → (e ≡ true → d ≡ true) → news j xs + owns j ys ≤ news j ys + owns j xs → news j (x ∷ xs) ≡ bump b (news j xs) → news j (y ∷ ys) ≡ bump c (news j ys) → owns j (x ∷ xs) ≡ bump d (owns j xs) → owns j (y ∷ ys) ≡ bump e (owns j ys) → news j (x ∷ xs) + owns j (y ∷ ys) ≤ news j (y ∷ ys) + owns j (x ∷ xs)
    pick true false d e f g i p q s t = absurd (false≢true (f refl))
    pick true true true e f g i p q s t = up e i p q s t
      where
        up : (e : Bool) → news j xs + owns j ys ≤ news j ys + owns j xs → news j (x ∷ xs) ≡ suc (news j xs) → news j (y ∷ ys) ≡ suc (news j ys) → owns j (x ∷ xs) ≡ suc (owns j xs) → owns j (y ∷ ys) ≡ bump e (owns j ys) → news j (x ∷ xs) + owns j (y ∷ ys) ≤ news j (y ∷ ys) + owns j (x ∷ xs)
        up true i p q s t = omega arith
        up false i p q s t = omega arith
    pick b c false true f g i p q s t = absurd (false≢true (g refl))
    pick true true false false f g i p q s t = omega arith
    pick false true true true f g i p q s t = omega arith
    pick false true true false f g i p q s t = omega arith
    pick false true false false f g i p q s t = omega arith
    pick false false true true f g i p q s t = omega arith
    pick false false true false f g i p q s t = omega arith
    pick false false false false f g i p q s t = omega arith

whole_by : (j : Job) (D : Task → Type 0) (R : Task → Task → Type 0) → ((x y : Task) → R x y → is_new j x ≡ true → is_new j y ≡ true) → ((x y : Task) → R x y → As x y) → (xs ys : List Task) → Pass D R xs ys → whole_of j ys ≤ whole_of j xs
whole_by j D R n a xs ys p =
    let s : news j xs + owns j ys ≤ news j ys + owns j xs = own_sums j D R n (λ x y r. own_as j x y (a x y r)) p in
    let l : news j ys ≤ news j xs = pass_down D R (is_new j) (λ x y r. new_as j x y (a x y r)) p in omega arith

module _ (js : List Job) (at : List Task) (room : widest js at + strays js at ≤ 2048) (j : Job) (ji : In j js) where
  whole_move_of : {ks : List ℕ} {w v : Scene} → Fine w.herd → Fit js at w.herd → Move ks w v → whole_of j v.herd.tasks ≤ whole_of j w.herd.tasks
  whole_move_of {w = w} {v = v} f h (visit i vs snd) =
      subst (λ (s : State). whole_of j s.tasks ≤ whole_of j w.herd.tasks) (sym vs.herd) (le_trans (settle_at js at room j ji (told w v i vs) (fine_heard i _ _ _ w.herd f) (fit_told js at i vs h)).whole (whole_by j (Lost i (w.life i) vs.said) (Went i vs.said) (went_new j i vs.said) (went_as i vs.said) w.herd.tasks (told w v i vs).tasks (hear_pass i (w.life i) vs.said vs.ready w.herd.tasks)))
  whole_move_of {w = w} {v = v} f h (tick ts snd) =
      subst (λ (s : State). whole_of j s.tasks ≤ whole_of j w.herd.tasks) (sym ts.herd) (le_trans (settle_at js at room j ji (timed ts.time w.herd) (fine_timed ts.time w.herd f) (fit_timed js at ts.time w.herd h)).whole (whole_by j Never Unsured (unsured_new j) unsured_as w.herd.tasks (timed ts.time w.herd).tasks (unsured ts.time w.herd.machines w.herd.tasks)))
  whole_move_of {w = w} f h (stays ss snd) = subst (λ (s : State). whole_of j s.tasks ≤ whole_of j w.herd.tasks) (sym ss.herd) (le_refl _)

  begun_of : {P : State → Type 0} {ks : List ℕ} {w v : Scene} → Moves P ks w v → Fine w.herd → Fit js at w.herd → Fit js at v.herd × (whole_of j v.herd.tasks ≤ whole_of j w.herd.tasks)
  begun_of (stop w) f h = (h, le_refl _)
  begun_of (go c r rest) f h = let q = begun_of rest (sound_move c).fine (fit_move js at f h c) in (q.0, le_trans q.1 (whole_move_of f h c))

  -- after one round what is left to do for it is bounded by what there was of it at the beginning
  left_first : (xs ys : List Task) → whole_of j ys ≤ whole_of j xs → left_of j ys ≤ (owns j xs + j.count) + j.count
  unfolding left_of
  left_first xs ys l = omega arith

-- THE LARGEST

largest_at : (js : List Job) (ts : List Task) (j : Job) → In j js → owns j ts + j.count ≤ largest js ts
unfolding largest
largest_at [] ts j i = absurd i
largest_at (k ∷ js) ts j (inl e) =
    let a : length (keep is_alive (mine k ts)) + k.count ≤ max (length (keep is_alive (mine k ts)) + k.count) (largest js ts) = le-max_left _ _ in
    let b : owns j ts ≡ length (keep is_alive (mine k ts)) = ap (λ (z : Job). owns z ts) e ∙ sym (owns_mine k ts) in let c : j.count ≡ k.count = ap (λ (z : Job). z.count) e in omega arith
largest_at (k ∷ js) ts j (inr i) = le_trans (largest_at js ts j i) (le-max_right _ _)

-- IT COMES TO REST

jobs_rounds : {P : State → Type 0} {n : ℕ} {w v : Scene} → Turns P n w v → v.herd.jobs ≡ w.herd.jobs
jobs_rounds (Turns.none w) = refl
jobs_rounds (Turns.more ro rest) = jobs_rounds rest ∙ jobs_run ro.1

at_least_two : {n : ℕ} {w v : Scene} (js : List Job) (b : Scene) → Turns Roomy n w v → 2 ≤ n → Fine b.herd → Ending' js b → Turn Anyhow b w → Going w → NoStrays js v
at_least_two js b (Turns.none w) l f h ro g = absurd (omega arith)
at_least_two js b (Turns.more {w = w} {u = u} ra rest) l f h ro g =
    let gu = going_run ra.1 g in
    let e = (strays_run js ra.1 g.sound.fine (strays_run js ro.1 f h).ending).ending in
    strays_stay js rest gu e (strays_gone js b w u f h ro ra g.sound.fine gu)

pub comes_sooner : ComesSooner
comes_sooner w u v n r (m, mi) room ra rest h =
    let ru = run_reach r ra.1 in
    let t = (rest_to v.herd resting) in
    (t, λ ks x rs. let z = rest_run (runs (rounds_reach ru rest) rs) gv resting in (z.0, rest_to x.herd z.1))
  where
    js : List Job
    js = w.herd.jobs

    at : List Task
    at = w.herd.tasks

    s₀ : Sound w.herd
    s₀ = (inv_reach r).sound

    ro : Turn Anyhow (scene w) (scene u)
    ro = (ra.0, runs r ra.1, ra.2)

    rs : Turns Roomy n (scene u) (scene v)
    rs = rounds (run_reach r ra.1) rest

    gu : Going (scene u)
    gu = (first_round (scene w) (scene u) s₀ (steady_reach w r) ro).0

    gv : Going (scene v)
    gv = going_rounds rs gu

    fit : Fit js at w.herd
    fit = record { jobs = refl; bounded = bounded_first js at }

    mu : (y : Machine) × In y u.herd.machines
    mu = on_run ro.1 m (in_from mi)

    of : (j : Job) → In j js → RestOf j v.herd
    of j ji =
        let b = begun_of js at room j ji ro.1 s₀.fine fit in
        let k = owns j at + j.count in
        let l : k ≤ largest js at = largest_at js at j ji in
        comes_of js at room j ji k rs gu b.0 mu.0 mu.1 (left_first js at room j ji at u.herd.tasks b.1) (omega arith)

    none : NoStrays js (scene v)
    none = at_least_two js (scene w) rs (omega arith) s₀.fine (refl, (kempt_reach r).wanted) ro gu

    jobs : v.herd.jobs ≡ js
    jobs = jobs_rounds rs ∙ jobs_run ro.1

    resting : Resting v.herd
    resting =
        record {
          ready = λ t i. let j = its t i in (of j.0 j.1).ready t i j.2;
          wanted = λ t i. let j = its t i in (j.0, subst (λ (ks : List Job). In j.0 ks) (sym jobs) j.1, j.2, (of j.0 j.1).version t i j.2);
          exact = λ j i. (of j (subst (λ (ks : List Job). In j ks) jobs i)).exact;
        }
      where
        its : (t : Task) → In t v.herd.tasks → (j : Job) × In j js × (same j.name t.job ≡ true)
        its t i = elim (bool (some (λ (j : Job). same j.name t.job) js)) [ inl p ↦ some_at (λ (j : Job). same j.name t.job) js p | inr p ↦ absurd (none t i (ap not p)) ]
