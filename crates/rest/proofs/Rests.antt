-- At rest no task changes any more.
-- Assumes nothing.
use Rattle.std.proofs.Common.{◌≡◌, ℕ, Bool, true, cond, List, length, sym, refl, ap, ◌∙◌, subst, inl, inr}
use Rattle.std.proofs.lemmas.Bool.{true≢false, false≢true, eqb-true, eq-eqb}
use Rattle.model.specs.State.{Job, Phase, Waiting, Told, Ready, Ending, Task, State, is_ready_lem, phased}
use Rattle.model.specs.Settle.{mine}
use Rattle.model.specs.Calls.{Seen, timed}
use Rattle.rest.specs.Rest.{AtRest}
use Rattle.model.proofs.Lists.{to_true, from_true, In, in_from, in_to, Pass, done, gone, goes}
use Rattle.model.proofs.Tasks.{same_eq, eq_same}
use Rattle.rest.proofs.Falls.{ready_alive}
use Rattle.rest.proofs.Stuck.{Resting, rest_settles}
use Rattle.rest.proofs.Origins.{Went, hear_pass}
use Rattle.rest.proofs.Scenes.{Scene, told, Visits, Move, visit, tick, stays, Moves, stop, go, Turns}
use Rattle.rest.proofs.Knows.{lives, Ended, lost_ends}
use Rattle.rest.proofs.Comes.{KnownIn, Going, one_of, going_move, visitor}
use Rattle.rest.proofs.Quiets.{tick_tasks, going_run}

-- REST, SAID IN TWO WAYS

pub rest_to : (s : State) → Resting s → AtRest s
rest_to s r =
    record {
      ready = λ t i. from_true _ (r.ready t (in_from i));
      wanted = λ t i. let w = r.wanted t (in_from i) in (w.0, in_to w.0 s.jobs w.1, same_eq _ _ w.2, sym (eqb-true _ _ w.3));
      exact = λ j i. r.exact j (in_from i);
    }

pub rest_from : (s : State) → AtRest s → Resting s
rest_from s r =
    record {
      ready = λ t i. to_true _ (r.ready t (in_to t s.tasks i));
      wanted = λ t i. let w = r.wanted t (in_to t s.tasks i) in (w.0, in_from w.1, eq_same _ _ w.2, eq-eqb _ _ (sym w.3));
      exact = λ j i. r.exact j (in_to j s.jobs i);
    }

pub rest_as : (s u : State) → u.jobs ≡ s.jobs → u.tasks ≡ s.tasks → Resting s → Resting u
rest_as s u p q r =
    record {
      ready = λ t i. r.ready t (subst (λ (ts : List Task). In t ts) q i);
      wanted = λ t i. let w = r.wanted t (subst (λ (ts : List Task). In t ts) q i) in (w.0, subst (λ (js : List Job). In w.0 js) (sym p) w.1, w.2, w.3);
      exact = λ j i. ap (λ (ts : List Task). length (mine j ts)) q ∙ r.exact j (subst (λ (js : List Job). In j js) p i);
    }

-- AT REST NO TASK CHANGES

pass_refl : {A : Type 0} (D : A → Type 0) (R : A → A → Type 0) {xs ys : List A} → Pass D R xs ys → ((x : A) → In x xs → D x → ⊥) → ((x y : A) → In x xs → R x y → y ≡ x) → ys ≡ xs
pass_refl D R done d r = refl
pass_refl D R (gone {x = x} h p) d r = absurd (d x (inl refl) h)
pass_refl D R (goes {x = x} {y = y} {xs = xs} {ys = ys} h p) d r =
    let a : y ≡ x = r x y (inl refl) h in let b : ys ≡ xs = pass_refl D R p (λ z i. d z (inr i)) (λ z v i. r z v (inr i)) in cc

pub ready_ready : (t : Task) → is_ready_lem t.phase ≡ true → phased Ready t ≡ t
ready_ready t e = pick t.phase refl e
  where
    pick : (p : Phase) → t.phase ≡ p → is_ready_lem p ≡ true → phased Ready t ≡ t
    pick Waiting q f = absurd (false≢true f)
    pick Told q f = absurd (false≢true f)
    pick Ready q f = λ i. record { id = t.id; job = t.job; version = t.version; spec = t.spec; phase = sym q i; machine = t.machine; life = t.life }
    pick Ending q f = absurd (false≢true f)

heard_same : {w v : Scene} (i : ℕ) → Going w → (vs : Visits w v i) → Resting w.herd → (told w v i vs).tasks ≡ w.herd.tasks
heard_same {w} {v} i g vs r =
    pass_refl Ended (Went i xs) (lost_ends i (w.life i) xs (hear_pass i (w.life i) xs vs.ready w.herd.tasks) (lives w.herd (w.life i) (w.ordered i) i g.sound.told k)) (λ x j e. true≢false (sym e ∙ ready_alive x.phase (r.ready x j))) same_one
  where
    xs : List Seen
    xs = vs.said

    k : KnownIn w i
    k = visitor i g vs

    same_one : (x y : Task) → In x w.herd.tasks → Went i xs x y → y ≡ x
    same_one x y j (inl h) = h.1
    same_one x y j (inr (o, inl h)) = h.2
    same_one x y j (inr (o, inr h)) =
        h.1 ∙ (ap (λ (b : Bool). phased (cond b Ready Told) x) (vs.seen x.id ∙ k.ready x j o (r.ready x j)) ∙ ready_ready x (r.ready x j))

abbrev pub SameRest : Scene → Scene → Type 0
SameRest w v = (v.herd.tasks ≡ w.herd.tasks) × Resting v.herd

pub rest_move : {ks : List ℕ} {w v : Scene} → Going w → Move ks w v → Resting w.herd → SameRest w v
rest_move {w = w} {v = v} g (visit i vs snd) r = (ap (λ (s : State). s.tasks) e ∙ h, subst Resting (sym e) q)
  where
    h : (told w v i vs).tasks ≡ w.herd.tasks
    h = heard_same i g vs r

    q : Resting (told w v i vs)
    q = rest_as w.herd (told w v i vs) refl h r

    e : v.herd ≡ told w v i vs
    e = vs.herd ∙ rest_settles (told w v i vs) (one_of w.herd g.sound.fine) q
rest_move {w = w} {v = v} g (tick ts snd) r = (ap (λ (s : State). s.tasks) e ∙ h, subst Resting (sym e) q)
  where
    u : State
    u = timed ts.time w.herd

    h : u.tasks ≡ w.herd.tasks
    h = tick_tasks g ts

    q : Resting u
    q = rest_as w.herd u refl h r

    e : v.herd ≡ u
    e = ts.herd ∙ rest_settles u (one_of w.herd g.sound.fine) q
rest_move g (stays ss snd) r = (ap (λ (s : State). s.tasks) ss.herd, subst Resting (sym ss.herd) r)

pub rest_run : {P : State → Type 0} {ks : List ℕ} {w v : Scene} → Moves P ks w v → Going w → Resting w.herd → SameRest w v
rest_run (stop w) g r = (refl, r)
rest_run (go c h rest) g r = let a = rest_move g c r in let b = rest_run rest (going_move g c) a.1 in (b.0 ∙ a.0, b.1)

pub rest_rounds : {P : State → Type 0} {n : ℕ} {w v : Scene} → Turns P n w v → Going w → Resting w.herd → Resting v.herd
rest_rounds (Turns.none w) g r = r
rest_rounds (Turns.more ro rest) g r = rest_rounds rest (going_run ro.1 g) (rest_run ro.1 g r).1

pub going_rounds : {P : State → Type 0} {n : ℕ} {w v : Scene} → Turns P n w v → Going w → Going v
going_rounds (Turns.none w) g = g
going_rounds (Turns.more ro rest) g = going_rounds rest (going_run ro.1 g)
