-- What holds of what really runs, from what tells of it.
-- Assumes nothing.
use Rattle.std.proofs.Common.{◌≡◌, ℕ, Bool, not, T, ◌⊎◌, List, [], ◌∷◌, ◌++◌, sym, refl, ap, ◌∙◌, subst, subst₂, inl, inr}
use Rattle.model.specs.Promise.{seen_in}
use mathlib.Core.List.{Memᴰ}
use Rattle.model.specs.State.{Machine, State}
use Rattle.model.specs.Settle.{settle}
use Rattle.model.specs.Calls.{Seen, does, down}
use Rattle.model.specs.World.{Agent, World, Reach}
use Rattle.model.specs.Memory.{Memory, Doing, comes_to, Halfway, Stand, asleep, awake}
use Rattle.model.specs.Wire.{Bytes}
use Rattle.model.specs.Lines.{core_kind, call_in, bytes_say, answer_line, line_leaves}
use Rattle.model.specs.Always.{Within, entered, TakesFew, NoneWaits, ReadyThere}
use Rattle.model.proofs.Worlds.{never_twice_lem}
use Rattle.model.proofs.Ordered.{fits_everywhere_lem}
use Rattle.model.proofs.Replies.{always_takes_few_lem}
use Rattle.model.proofs.Waits.{never_waits_lem}
use Rattle.model.proofs.Present.{always_ready_there_lem}
use Rattle.serving.specs.Herd.{Held, state_in, Tells, Awake, herd_code}
use Rattle.serving.proofs.Standing.{herd_right}
use Rattle.together.specs.Real.{Body, up, lost, off, Move}
use Rattle.together.specs.Telling.{StandsFor, Bodied, Told}
use Rattle.together.specs.Now.{state_now, herd_state, agent_in, RunsFit, RunsOnce, Passes, TakesFewAlways, NeverWaits, ReadyNow, AnswersStand, FitsIn, AlwaysFits}
use Rattle.together.proofs.Says.{Outcome, outcome}
use Rattle.together.proofs.Telling.{all_told_lem}

-- the state that is told of is the one that the words stand for
asleep_is : (m : Memory) (s : State) → Tells m s → s ≡ state_now (asleep m)
asleep_is m s t = (herd_right.wakes m s t).1.stands.1

pub told_is : (h : Stand Held) (s : State) → StandsFor h s → s ≡ state_now h
told_is (asleep m) s t = asleep_is m s t
told_is (awake x m) s a = a.stands.1

-- and its agents are those that are there
pub runs_same : (b : Body) (a : Agent) → Bodied b a → a.runs ≡ (agent_in b).runs
runs_same (up x) a e = ap (λ (y : Agent). y.runs) e
runs_same (lost x) a e = ap (λ (y : Agent). y.runs) e
runs_same (off d) a r = r.runs

-- a.
pub runs_fit_now : RunsFit
runs_fit_now w c i = pick (w.body i) (t.bodies i) (fits_everywhere_lem v t.reached i)
  where
    t : Told w
    t = all_told_lem w c

    v : World
    v = record { herd = t.state; agent = t.agents; sent = t.words }

    -- the state of the other world, and an agent there
    Fitting : State → Agent → Type 0
    Fitting s a = (m : Machine) × Memᴰ m s.machines × (m.num ≡ i) × (m.life ≡ a.life) × Within s m a

    there : (a : Agent) → t.agents i ≡ a → ((t.agents i).runs ≡ []) ⊎ Fitting t.state (t.agents i) → (a.runs ≡ []) ⊎ Fitting (herd_state w) a
    there a e h = subst₂ (λ (s : State) (b : Agent). (b.runs ≡ []) ⊎ Fitting s b) (told_is w.herd t.state t.stands) e h

    pick : (b : Body) → Bodied b (t.agents i) → ((t.agents i).runs ≡ []) ⊎ Fitting t.state (t.agents i) → ((agent_in b).runs ≡ []) ⊎ Fitting (herd_state w) (agent_in b)
    pick (up x) e h = there x e h
    pick (lost x) e h = there x e h
    pick (off d) r h = inl refl

-- b.
pub runs_once : RunsOnce
runs_once w c i j k h =
    let t = all_told_lem w c in let v : World = record { herd = t.state; agent = t.agents; sent = t.words } in
    let e = runs_same (w.body i) (t.agents i) (t.bodies i) in let f = runs_same (w.body j) (t.agents j) (t.bodies j) in
    subst₂ (λ (xs ys : List Seen). Claim i j k xs ys) e f (λ q. never_twice_lem v t.reached i j k q) h
  where
    Claim : ℕ → ℕ → ℕ → List Seen → List Seen → Type 0
    Claim i j k xs ys = T (seen_in k xs) → (T (seen_in k ys) → i ≡ j) × ((before behind : List Seen) (b : Bool) → xs ≡ before ++ record { id = k; ready = b } ∷ behind → T (not (seen_in k before)) × T (not (seen_in k behind)))

-- e.
pub never_waits_now : NeverWaits
never_waits_now w c = let t = all_told_lem w c in subst NoneWaits (told_is w.herd t.state t.stands) (never_waits_lem (record { herd = t.state; agent = t.agents; sent = t.words }) t.reached)

pub ready_now : ReadyNow
ready_now w c = let t = all_told_lem w c in subst ReadyThere (told_is w.herd t.state t.stands) (always_ready_there_lem (record { herd = t.state; agent = t.agents; sent = t.words }) t.reached)

-- f. and d.
module _ (x : Held) (m : Memory) (s : State) (a : Awake x m s) where
  here : s ≡ state_in x
  here = a.stands.1

  pub stays_dark : state_now (asleep m) ≡ down (state_in x)
  stays_dark = sym (asleep_is m (down s) (herd_right.goes_dark x m s a)) ∙ ap down here

  module _ (b : Bytes) (d : Doing (record { reply : Bytes; mind : Held })) (way : herd_code.Does b x d) where
    pub stays_answered : ((comes_to d m).reply ≡ answer_line core_kind b (state_in x)) × (state_in (comes_to d m).mind ≡ line_leaves core_kind b (state_in x))
    stays_answered =
        let r = (herd_right.answers x m s b d a way).1 in
        (r.1.0 ∙ ap (answer_line core_kind b) here, sym r.2.stands.1 ∙ r.1.1 ∙ ap (line_leaves core_kind b) here)

    pub stays_cut : (n : Memory) → Halfway d m n → (state_now (asleep n) ≡ down (state_in x)) ⊎ (state_now (asleep n) ≡ down (line_leaves core_kind b (state_in x)))
    stays_cut n h = pick (herd_right.cut_answering x m n s b d a way h)
      where
        pick : Tells n (down s) ⊎ ((r : Bytes) × (t : State) × ((r ≡ answer_line core_kind b s) × (t ≡ line_leaves core_kind b s)) × Tells n (down t)) → (state_now (asleep n) ≡ down (state_in x)) ⊎ (state_now (asleep n) ≡ down (line_leaves core_kind b (state_in x)))
        pick (inl t) = inl (sym (asleep_is n (down s) t) ∙ ap down here)
        pick (inr p) = inr (sym (asleep_is n (down p.1) p.3) ∙ ap down (p.2.1 ∙ ap (line_leaves core_kind b) here))

pub answers_stand_lem : AnswersStand
answers_stand_lem w v c (Move.answers x m g bs cs b d k way) = let t = all_told_lem _ c in stays_answered x m t.state t.stands b d way
answers_stand_lem w v c (Move.is_cut x m n g bs cs b d k way h) = let t = all_told_lem _ c in stays_cut x m t.state t.stands b d way n h
answers_stand_lem w v c (Move.darkens x m g bs cs) = let t = all_told_lem _ c in stays_dark x m t.state t.stands
answers_stand_lem w v c (Move.is_cut_waking m n g bs cs h) = let t = all_told_lem _ c in sym (asleep_is n t.state (herd_right.cut_waking m n t.state t.stands h)) ∙ asleep_is m t.state t.stands
answers_stand_lem w v c (Move.wakes m g bs cs) = tt
answers_stand_lem w v c (Move.turns h g bs cs i b u) = tt
answers_stand_lem w v c (Move.reports h g bs cs i a o p q) = tt
answers_stand_lem w v c (Move.hears h g bs cs i a b o m) = tt

-- what a line leaves is what a call and its pass leave
passes : (w : World) → Reach w → (b : Bytes) → Passes b w.herd (line_leaves core_kind b w.herd)
passes w r b = pick (outcome (call_in b) w.herd)
  where
    pick : Outcome (call_in b) w.herd (bytes_say core_kind (call_in b) w.herd) → Passes b w.herd (line_leaves core_kind b w.herd)
    pick (Outcome.quiet k a t) = inl t
    pick (Outcome.done c e k a t) = by_call (always_takes_few_lem w r c)
      where
        by_call : ((does c w.herd).state ≡ w.herd) ⊎ (((does c w.herd).state ≡ settle (entered c w.herd)) × TakesFew (entered c w.herd) (does c w.herd).state) → Passes b w.herd (line_leaves core_kind b w.herd)
        by_call (inl q) = inl (t ∙ q)
        by_call (inr q) = inr (c, e, t ∙ q.0, subst (TakesFew (entered c w.herd)) (sym t) q.1)

passes_now : (x : Held) (m : Memory) (w : World) → Reach w → Awake x m w.herd → (b : Bytes) → Passes b (state_in x) (line_leaves core_kind b (state_in x))
passes_now x m w r a b = subst (λ (s : State). Passes b s (line_leaves core_kind b s)) a.stands.1 (passes w r b)

pub takes_few_lem : TakesFewAlways
takes_few_lem w v c (Move.answers x m g bs cs b d k way) =
    let t = all_told_lem _ c in subst (Passes b (state_in x)) (sym (stays_answered x m t.state t.stands b d way).1) (passes_now x m (record { herd = t.state; agent = t.agents; sent = t.words }) t.reached t.stands b)
takes_few_lem w v c (Move.is_cut x m n g bs cs b d k way h) = let t = all_told_lem _ c in pick (stays_cut x m t.state t.stands b d way n h) (passes_now x m (record { herd = t.state; agent = t.agents; sent = t.words }) t.reached t.stands b)
  where
    pick : (state_now (asleep n) ≡ down (state_in x)) ⊎ (state_now (asleep n) ≡ down (line_leaves core_kind b (state_in x))) → Passes b (state_in x) (line_leaves core_kind b (state_in x)) → (state_now (asleep n) ≡ down (state_in x)) ⊎ ((t : State) × Passes b (state_in x) t × (state_now (asleep n) ≡ down t))
    pick (inl e) p = inl e
    pick (inr e) p = inr (line_leaves core_kind b (state_in x), p, e)
takes_few_lem w v c (Move.darkens x m g bs cs) = let t = all_told_lem _ c in stays_dark x m t.state t.stands
takes_few_lem w v c (Move.is_cut_waking m n g bs cs h) = let t = all_told_lem _ c in sym (asleep_is n t.state (herd_right.cut_waking m n t.state t.stands h)) ∙ asleep_is m t.state t.stands
takes_few_lem w v c (Move.wakes m g bs cs) = tt
takes_few_lem w v c (Move.turns h g bs cs i b u) = tt
takes_few_lem w v c (Move.reports h g bs cs i a o p q) = tt
takes_few_lem w v c (Move.hears h g bs cs i a b o m) = tt

-- g.
pub always_fits_lem : AlwaysFits
always_fits_lem w c = let t = all_told_lem w c in pick w.herd t.state t.stands
  where
    pick : (h : Stand Held) (s : State) → StandsFor h s → FitsIn h
    pick (asleep m) s t = (herd_right.wakes m s t).0
    pick (awake x m) s a = λ b d way. (herd_right.answers x m s b d a way).0
