-- Worlds in which all works, as scenes; and so the theorem.
-- Assumes nothing.
use Rattle.std.proofs.Common.{◌≡◌, ℕ, ◌+◌, ◌≤◌, Bool, true, false, cond, not, ◌&&◌, eqb, ◌⊎◌, List, [], ◌∷◌, sym, refl, ap, ◌∙◌, subst, inl, inr, arith}
use mathlib.Core.List.{Memᴰ}
use Rattle.std.proofs.lemmas.Bool.{true≢false, and_parts, and_from, and_left, eqb-true, eqb-false, eq-eqb, cond_both}
use Rattle.model.specs.State.{Machine, State, is_machine, on_machine}
use Rattle.model.specs.Lists.{some, keep, find}
use Rattle.model.specs.Settle.{settle}
use Rattle.model.specs.Calls.{Seen, Call, Report, Tick, Order, Run, Out, no, orders, later, acts, is_tick, does, heard}
use Rattle.model.specs.World.{Agent, Word, Up, Back, World, put, is_order, is_seen, may_run, obeys, Step, Reach, reported, running}
use Rattle.rest.specs.Rest.{ComesToRest}
use Rattle.rest.specs.Rounds.{Calm, Course, Rounds}
use Rattle.model.proofs.Lists.{In, in_from, in_to, find_in}
use Rattle.model.proofs.Acts.{does_is}
use Rattle.model.proofs.Hold.{once_machine}
use Rattle.model.proofs.Keeps.{Sound}
use Rattle.model.proofs.Worlds.{hears_not_lem, Inv, inv_reach, News, is_news, hears_is, put_is}
use Rattle.rest.proofs.Origins.{says_ordered}
use Rattle.rest.proofs.Orderlies.{steady_reach}
use Rattle.rest.proofs.Scenes.{Scene, Visits, Sames, Move, visit, tick, stays, Moves, stop, go, Turns}
use Rattle.rest.proofs.Rests.{rest_to, rest_run}
use Rattle.rest.proofs.Begins.{scene_rests}

never : {C : Type 0} → ◌≡◌ {A = ℕ} 0 1 → C
never z = absurd (omega arith)

-- WHAT AN UNANSWERED REPORT LISTS IS WHAT IS ORDERED

abbrev Fits : List Word → ℕ → Agent → Type 0
Fits ws i a = (xs : List Seen) → In (Up i a.life a.number xs) ws → ((os : List Order) × In (Back i a.life a.number os) ws) ⊎ ((j : ℕ) → some (is_seen j) xs ≡ some (is_order j) a.ordered)

abbrev AllFit : World → Type 0
AllFit w = (i : ℕ) → Fits w.sent i (w.agent i)

fits_more : (ws : List Word) (x : Word) (i : ℕ) (a : Agent) → ((xs : List Seen) → In (Up i a.life a.number xs) (x ∷ ws) → In (Up i a.life a.number xs) ws) → Fits ws i a → Fits (x ∷ ws) i a
fits_more ws x i a f h = λ xs k. pick xs (h xs (f xs k))
  where
    pick : (xs : List Seen) → ((os : List Order) × In (Back i a.life a.number os) ws) ⊎ ((j : ℕ) → some (is_seen j) xs ≡ some (is_order j) a.ordered) → ((os : List Order) × In (Back i a.life a.number os) (x ∷ ws)) ⊎ ((j : ℕ) → some (is_seen j) xs ≡ some (is_order j) a.ordered)
    pick xs (inl (os, m)) = inl (os, inr m)
    pick xs (inr g) = inr g

other_up : (i j l n : ℕ) (xs : List Seen) (l' n' : ℕ) (ys : List Seen) (ws : List Word) → eqb j i ≡ false → In (Up j l' n' ys) (Up i l n xs ∷ ws) → In (Up j l' n' ys) ws
other_up i j l n xs l' n' ys ws e (inl p) = let q : j ≡ i = cc in absurd (eqb-false j i e q)
other_up i j l n xs l' n' ys ws e (inr k) = k

not_back : (i l n : ℕ) (os : List Order) (j l' n' : ℕ) (ys : List Seen) (ws : List Word) → In (Up j l' n' ys) (Back i l n os ∷ ws) → In (Up j l' n' ys) ws
not_back i l n os j l' n' ys ws (inl p) = never (cc)
not_back i l n os j l' n' ys ws (inr k) = k

fits_step : {w v : World} → Inv w → AllFit w → Step w v → AllFit v
fits_step h f (Step.says w c nr nf) = f
fits_step h f (Step.forgets w k) = put_is (Fits w.sent) k _ w.agent (λ xs m. let z : (w.agent k).life + 1 ≤ (w.agent k).life = ((h.agents k).ups _ _ xs m).0 in absurd (omega arith)) (λ j e. f j)
fits_step h f (Step.forgets_off w k n o e) = f
fits_step h f (Step.falls w) = f
fits_step h f (Step.comes_up w k) = put_is (Fits w.sent) k _ w.agent (λ xs m. let z : (w.agent k).life + 1 ≤ (w.agent k).life = ((h.agents k).ups _ _ xs m).0 in absurd (omega arith)) (λ j e. f j)
fits_step h f (Step.reports w i l) =
    put_is (Fits (Up i (w.agent i).life ((w.agent i).number + 1) (may_run (w.agent i).runs (w.agent i).ordered) ∷ w.sent)) i _ w.agent mine (λ j e. fits_more w.sent _ j (w.agent j) (λ xs k. other_up i j _ _ _ _ _ xs w.sent e k) (f j))
  where
    a : Agent
    a = w.agent i

    ys : List Seen
    ys = may_run a.runs a.ordered

    mine : (xs : List Seen) → In (Up i a.life (a.number + 1) xs) (Up i a.life (a.number + 1) ys ∷ w.sent) → ((os : List Order) × In (Back i a.life (a.number + 1) os) (Up i a.life (a.number + 1) ys ∷ w.sent)) ⊎ ((j : ℕ) → some (is_seen j) xs ≡ some (is_order j) a.ordered)
    mine xs (inl p) = let q : xs ≡ ys = cc in inr (λ j. ap (some (is_seen j)) q ∙ says_ordered a.runs a.ordered j)
    mine xs (inr k) = let z : a.number + 1 ≤ a.number = ((h.agents i).ups _ _ xs k).1 refl in absurd (omega arith)
fits_step h f (Step.hears w i l n xs k os m r) = λ j. fits_more w.sent _ j (w.agent j) (λ ys z. not_back i l k os j _ _ ys w.sent z) (f j)
fits_step h f (Step.hears_not w i l n xs m r) = f
fits_step h f (Step.obeyed w i os m) = put_is (Fits w.sent) i _ w.agent (λ xs k. inl (os, in_from m)) (λ j e. f j)
fits_step h f (Step.starts w i o m n) = put_is (Fits w.sent) i _ w.agent (f i) (λ j e. f j)
fits_step h f (Step.becomes w i before behind x b e) = put_is (Fits w.sent) i _ w.agent (f i) (λ j e'. f j)
fits_step h f (Step.dies w i before behind x e) = put_is (Fits w.sent) i _ w.agent (f i) (λ j e'. f j)

fits_reach : {w : World} → Reach w → AllFit w
fits_reach Reach.begin = λ i xs k. absurd k
fits_reach (Reach.then r s) = fits_step (inv_reach r) (fits_reach r) s

-- WHAT WILL BE ORDERED

unfoldable pub answer_to : ℕ → ℕ → ℕ → List Word → List Order → List Order
answer_to i l n [] d = d
answer_to i l n (Up j l' n' xs ∷ ws) d = answer_to i l n ws d
answer_to i l n (Back j l' n' os ∷ ws) d = cond ((eqb i j && eqb l l') && eqb n n') os (answer_to i l n ws d)

pub answer_all : (i l n : ℕ) (ws : List Word) (d : List Order) → ((os : List Order) → In (Back i l n os) ws → d ≡ os) → answer_to i l n ws d ≡ d
unfolding answer_to
answer_all i l n [] d h = refl
answer_all i l n (Up j l' n' xs ∷ ws) d h = answer_all i l n ws d (λ os k. h os (inr k))
answer_all i l n (Back j l' n' os ∷ ws) d h = cond_both ((eqb i j && eqb l l') && eqb n n') os (answer_to i l n ws d) (λ (x : List Order). x ≡ d) (λ e. hit (and_parts _ _ e)) (λ e. answer_all i l n ws d (λ ps k. h ps (inr k)))
  where
    hit : (eqb i j && eqb l l' ≡ true) × (eqb n n' ≡ true) → os ≡ d
    hit (p, q) = let r = and_parts (eqb i j) (eqb l l') p in let a = eqb-true i j r.0 in let b = eqb-true l l' r.1 in let c = eqb-true n n' q in sym (h os (inl (λ k. Back (a k) (b k) (c k) os)))

answer_head : (i l n : ℕ) (os : List Order) (ws : List Word) (d : List Order) → answer_to i l n (Back i l n os ∷ ws) d ≡ os
unfolding answer_to
answer_head i l n os ws d = ap (λ (b : Bool). cond b os (answer_to i l n ws d)) (and_from _ _ (and_from _ _ (eq-eqb i i refl) (eq-eqb l l refl)) (eq-eqb n n refl))

answer_skip : (j i l n l' n' : ℕ) (os : List Order) (ws : List Word) (d : List Order) → eqb j i ≡ false → answer_to j l n (Back i l' n' os ∷ ws) d ≡ answer_to j l n ws d
unfolding answer_to
answer_skip j i l n l' n' os ws d e = ap (λ (b : Bool). cond b os (answer_to j l n ws d)) (and_left _ _ (and_left _ _ e))

answer_up : (j l n i l' n' : ℕ) (xs : List Seen) (ws : List Word) (d : List Order) → answer_to j l n (Up i l' n' xs ∷ ws) d ≡ answer_to j l n ws d
unfolding answer_to
answer_up j l n i l' n' xs ws d = refl

-- where there is an answer, it doesn't matter what is ordered so far
answer_some : (i l n : ℕ) (os : List Order) (ws : List Word) (d d' : List Order) → In (Back i l n os) ws → answer_to i l n ws d ≡ answer_to i l n ws d'
unfolding answer_to
answer_some i l n os [] d d' k = absurd k
answer_some i l n os (Up j l' n' xs ∷ ws) d d' (inl p) = never (cc)
answer_some i l n os (Up j l' n' xs ∷ ws) d d' (inr k) = answer_some i l n os ws d d' k
answer_some i l n os (Back j l' n' ps ∷ ws) d d' (inl p) =
    let a : i ≡ j = cc in let b : l ≡ l' = cc in let c : n ≡ n' = cc in
    let t : ((eqb i j && eqb l l') && eqb n n') ≡ true = and_from _ _ (and_from _ _ (eq-eqb i j a) (eq-eqb l l' b)) (eq-eqb n n' c) in
    ap (λ (z : Bool). cond z ps (answer_to i l n ws d)) t ∙ sym (ap (λ (z : Bool). cond z ps (answer_to i l n ws d')) t)
answer_some i l n os (Back j l' n' ps ∷ ws) d d' (inr k) = ap (cond ((eqb i j && eqb l l') && eqb n n') ps) (answer_some i l n os ws d d' k)

abbrev pub effect : List Word → ℕ → Agent → List Order
effect ws i a = answer_to i a.life a.number ws a.ordered

abbrev pub scene : World → Scene
scene w = record { herd = w.herd; life = λ i. (w.agent i).life; ordered = λ i. effect w.sent i (w.agent i) }

-- STEPS

pub calm_reach : {ks : List ℕ} {w v : World} → Reach w → Calm ks w v → Reach v
calm_reach r (Calm.sends w i l o) = Reach.then r (Step.reports w i l)
calm_reach r (Calm.hears w i xs os m h e) = Reach.then r (Step.hears w i _ _ xs _ os m e)
calm_reach r (Calm.hears_not w i l n xs m e) = Reach.then r (Step.hears_not w i l n xs m e)
calm_reach r (Calm.heeds w i os m) = Reach.then r (Step.obeyed w i os m)
calm_reach r (Calm.ticks w t h) = Reach.then r (Step.says w (Tick t) (λ k l n xs e. never (cc)) (λ k e. never (cc)))
calm_reach r (Calm.starts w i o m n) = Reach.then r (Step.starts w i o m n)
calm_reach r (Calm.becomes w i before behind x b e) = Reach.then r (Step.becomes w i before behind x b e)
calm_reach r (Calm.dies w i before behind x e) = Reach.then r (Step.dies w i before behind x e)

clocked : (c : Call) (s : State) (k : ℕ) (os : List Order) → is_tick c ≡ false → (does c s).reply ≡ Run k os → eqb s.now 0 ≡ false
clocked c s k os t = pick (eqb s.now 0) (is_tick c) t
  where
    pick : (b d : Bool) → d ≡ false → (cond (b && not d) (no 10 s) (acts c s)).reply ≡ Run k os → b ≡ false
    pick true true p e = absurd (true≢false p)
    pick true false p e = never (cc)
    pick false d p e = refl

not_tick : (i l n : ℕ) (xs : List Seen) → is_tick (Report i l n xs) ≡ false
not_tick i l n xs = refl

-- one agent changes, its life stays, and what it will have ordered
changed : (w : World) (i : ℕ) (a : Agent) (ws : List Word) → a.life ≡ (w.agent i).life → effect ws i a ≡ effect w.sent i (w.agent i) → ((j : ℕ) → eqb j i ≡ false → effect ws j (w.agent j) ≡ effect w.sent j (w.agent j)) → Sames (scene w) (scene (record { herd = w.herd; agent = put i a w.agent; sent = ws }))
changed w i a ws p q r = record { herd = refl; life = put_is (λ (j : ℕ) (b : Agent). b.life ≡ (w.agent j).life) i a w.agent p (λ j e. refl); ordered = put_is (λ (j : ℕ) (b : Agent). effect ws j b ≡ effect w.sent j (w.agent j)) i a w.agent q r }

hears_visit : (w : World) (i : ℕ) (xs : List Seen) (os : List Order) → Reach w → Memᴰ (Up i (w.agent i).life (w.agent i).number xs) w.sent → ((x : Seen) → Memᴰ x xs → x.ready ≡ true) → (does (Report i (w.agent i).life (w.agent i).number xs) w.herd).reply ≡ Run (w.agent i).number os →
    Visits (scene w) (scene (record { herd = (does (Report i (w.agent i).life (w.agent i).number xs) w.herd).state; agent = w.agent; sent = Back i (w.agent i).life (w.agent i).number os ∷ w.sent })) i
hears_visit w i xs os r m h e =
    record {
      number = n;
      said = xs;
      machine = q.0;
      rest = q.1;
      found = q.2;
      clock = clocked (Report i l n xs) w.herd n os (not_tick i l n xs) e;
      herd = q.3;
      ready = λ x k. h x (in_to x xs k);
      seen = λ j. same_as j (fits_reach r i xs (in_from m)) ∙ ap (some (is_order j)) (sym unanswered);
      ordered = answer_head i l n os w.sent (w.agent i).ordered ∙ q.4;
      life = refl;
      lives = λ j d. refl;
      others = λ j d. answer_skip j i (w.agent j).life (w.agent j).number l n os w.sent (w.agent j).ordered d;
    }
  where
    l : ℕ
    l = (w.agent i).life

    n : ℕ
    n = (w.agent i).number

    u : State
    u = settle (heard i l n xs w.herd)

    Q : ℕ → List Order → State → Type 0
    Q k os' s = (x : Machine) × (ms : List Machine) × (find (is_machine i) w.herd.machines ≡ x ∷ ms) × (s ≡ u) × (os' ≡ orders (keep (on_machine i) u.tasks)) × News x l n

    q : Q n os (does (Report i l n xs) w.herd).state
    q = hears_is Q i l n xs w.herd (λ x ms f g. (x, ms, f, refl, refl, is_news x l n g)) n os e

    -- it was news, so no answer to it was given yet
    fresh : (ps : List Order) → In (Back i l n ps) w.sent → ⊥
    fresh ps k =
        let b = (((inv_reach r).agents i).backs l n ps k).2 refl in let f = find_in (is_machine i) w.herd.machines q.0 q.1 q.2 in
        let c : b.0 ≡ q.0 = once_machine w.herd.machines (inv_reach r).sound.fine.machines b.0 q.0 b.1.0 f.0 (b.1.1 ∙ eqb-true i q.0.num f.1) in
        late q.5 (sym (ap (λ (z : Machine). z.life) c) ∙ b.1.2) (subst (λ (z : Machine). n ≤ z.number) c b.2)
      where
        late : News q.0 l n → q.0.life ≡ l → n ≤ q.0.number → ⊥
        late (inl z) x y = omega arith
        late (inr z) x y = omega arith

    unanswered : effect w.sent i (w.agent i) ≡ (w.agent i).ordered
    unanswered = answer_all i l n w.sent (w.agent i).ordered (λ ps k. absurd (fresh ps k))

    same_as : (j : ℕ) → ((ps : List Order) × In (Back i l n ps) w.sent) ⊎ ((k : ℕ) → some (is_seen k) xs ≡ some (is_order k) (w.agent i).ordered) → some (is_seen j) xs ≡ some (is_order j) (w.agent i).ordered
    same_as j (inl (ps, k)) = absurd (fresh ps k)
    same_as j (inr f) = f j

moves : {ks : List ℕ} {w v : World} → Reach w → Calm ks w v → Sound v.herd → Move ks (scene w) (scene v)
moves r (Calm.sends w i l o) s =
    stays (changed w i (reported (w.agent i)) _ refl (answer_all i (w.agent i).life ((w.agent i).number + 1) _ (w.agent i).ordered (λ os k. absurd (later' os k)) ∙ sym (answer_all i (w.agent i).life (w.agent i).number w.sent (w.agent i).ordered (λ os k. o os (in_to _ w.sent k)))) (λ j d. answer_up j (w.agent j).life (w.agent j).number i (w.agent i).life ((w.agent i).number + 1) (may_run (w.agent i).runs (w.agent i).ordered) w.sent (w.agent j).ordered)) s
  where
    a : Agent
    a = w.agent i

    later' : (os : List Order) → In (Back i a.life (a.number + 1) os) (Up i a.life (a.number + 1) (may_run a.runs a.ordered) ∷ w.sent) → ⊥
    later' os (inl p) = never (cc)
    later' os (inr k) = let z : a.number + 1 ≤ a.number = (((inv_reach r).agents i).backs _ _ os k).1 refl in omega arith
moves r (Calm.hears w i xs os m h e) s = visit i (hears_visit w i xs os r m h e) s
moves r (Calm.hears_not w i l n xs m e) s = stays (record { herd = sym (hears_not_lem i l n xs w.herd e); life = λ j. refl; ordered = λ j. refl }) s
moves r (Calm.heeds w i os m) s = stays (changed w i (obeys os (w.agent i)) w.sent refl (answer_some i (w.agent i).life (w.agent i).number os w.sent os (w.agent i).ordered (in_from m)) (λ j d. refl)) s
moves r (Calm.ticks w t h) s = does_is (λ (o : Out). Sound o.state → Move [] (scene w) (scene (record { herd = o.state; agent = w.agent; sent = w.sent }))) (Tick t) w.herd (λ k z. stays (record { herd = refl; life = λ j. refl; ordered = λ j. refl }) z) (λ z. tick (record { time = later t w.herd.now; herd = refl; stay = λ m i. h m (in_to m w.herd.machines i); life = λ j. refl; ordered = λ j. refl }) z) s
moves r (Calm.starts w i o m n) s = stays (changed w i (running _ (w.agent i)) w.sent refl refl (λ j d. refl)) s
moves r (Calm.becomes w i before behind x b e) s = stays (changed w i (running _ (w.agent i)) w.sent refl refl (λ j d. refl)) s
moves r (Calm.dies w i before behind x e) s = stays (changed w i (running _ (w.agent i)) w.sent refl refl (λ j d. refl)) s

pub runs : {P : State → Type 0} {ks : List ℕ} {w v : World} → Reach w → Course P ks w v → Moves P ks (scene w) (scene v)
runs r (Course.stop w) = stop (scene w)
runs r (Course.go c p rest) = let q = calm_reach r c in go (moves r c (inv_reach q).sound) p (runs q rest)

pub run_reach : {P : State → Type 0} {ks : List ℕ} {w v : World} → Reach w → Course P ks w v → Reach v
run_reach r (Course.stop w) = r
run_reach r (Course.go c p rest) = run_reach (calm_reach r c) rest

pub rounds : {P : State → Type 0} {n : ℕ} {w v : World} → Reach w → Rounds P n w v → Turns P n (scene w) (scene v)
rounds r (Rounds.none w) = Turns.none (scene w)
rounds r (Rounds.more ro rest) = Turns.more (ro.0, runs r ro.1, ro.2) (rounds (run_reach r ro.1) rest)

pub rounds_reach : {P : State → Type 0} {n : ℕ} {w v : World} → Reach w → Rounds P n w v → Reach v
rounds_reach r (Rounds.none w) = r
rounds_reach r (Rounds.more ro rest) = rounds_reach (run_reach r ro.1) rest

-- IT COMES TO REST, AND STAYS SO

pub comes_to_rest : ComesToRest
comes_to_rest w u v n r (m, mi) ra rest h =
    let ru = run_reach r ra.1 in
    let q = scene_rests (scene w) (scene u) (scene v) n (inv_reach r).sound (steady_reach w r) m (in_from mi) (ra.0, runs r ra.1, ra.2) (rounds ru rest) h in
    (rest_to v.herd q.1, λ ks x rs. let z = rest_run (runs (rounds_reach ru rest) rs) q.0 q.1 in (z.0, rest_to x.herd z.1))
