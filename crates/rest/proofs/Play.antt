-- Rounds of one machine, number 1, step by step: what each step asks for is a test, to be computed.
-- Assumes nothing.
use Rattle.std.proofs.Common.{◌≡◌, ℕ, ◌+◌, Bool, true, false, cond, not, ◌&&◌, T, eqb, ltb, List, [], ◌∷◌, sym, refl, ap, ◌∙◌, subst, inl, inr}
use mathlib.Core.List.{Memᴰ}
use Rattle.std.proofs.lemmas.Bool.{true≢false, and_from, ltb-true, eqb-true, eq-eqb}
use Rattle.model.specs.Lists.{some, every}
use Rattle.model.specs.State.{Machine, Job, State}
use Rattle.model.specs.Settle.{takes, fresh}
use Rattle.model.specs.Calls.{Seen, Call, SetJob, EndJob, AddMachine, Close, Reopen, Forget, Report, Tick, Show, Order, Run, does}
use Rattle.model.specs.World.{Word, Up, Back, World, is_seen, running, with_agent, Step, Reach}
use Rattle.rest.specs.Rounds.{Obeyed, Calm, Course, Anyhow, Roomy, Round}
use Rattle.rest.specs.Rest.{said_by}
use Rattle.rest.specs.Example.{told, came_up, has_sent, was_heard, turned, started, brought_up}
use Rattle.model.proofs.Lists.{from_true, never, In, in_from, in_to, every_at, some_at}

-- TESTS

pub ready_all_of : (xs : List Seen) → every (λ (x : Seen). x.ready) xs ≡ true → (x : Seen) → Memᴰ x xs → x.ready ≡ true
ready_all_of xs e x m = every_at (λ (y : Seen). y.ready) xs e x (in_from m)

pub roomy : (s : State) → ltb s.next_id 4611686018427387904 ≡ true → every (λ (j : Job). some (takes s.now (fresh j 0) s.tasks) s.machines) s.jobs ≡ true → Roomy s
roomy s n e = (
  ltb-true s.next_id 4611686018427387904 n,
  λ j i. let w = some_at (takes s.now (fresh j 0) s.tasks) s.machines (every_at (λ (k : Job). some (takes s.now (fresh k 0) s.tasks) s.machines) s.jobs e j (in_from i)) in (w.0, in_to w.0 s.machines w.1, from_true _ w.2),
)

-- all the answers to that report
unfoldable pub answers : ℕ → ℕ → ℕ → List Word → List (List Order)
answers i l n [] = []
answers i l n (Up j l' n' xs ∷ ws) = answers i l n ws
answers i l n (Back j l' n' os ∷ ws) = cond ((eqb i j && eqb l l') && eqb n n') (os ∷ answers i l n ws) (answers i l n ws)

answers_have : (i l n : ℕ) (os : List Order) (ws : List Word) → In (Back i l n os) ws → In os (answers i l n ws)
unfolding answers
answers_have i l n os [] k = absurd k
answers_have i l n os (Up j l' n' xs ∷ ws) (inl p) = never (cc)
answers_have i l n os (Up j l' n' xs ∷ ws) (inr k) = answers_have i l n os ws k
answers_have i l n os (Back j l' n' ps ∷ ws) (inl p) =
    let a : i ≡ j = cc in let b : l ≡ l' = cc in let c : n ≡ n' = cc in let d : os ≡ ps = cc in
    subst (λ (t : Bool). In os (cond t (ps ∷ answers i l n ws) (answers i l n ws))) (sym (and_from _ _ (and_from _ _ (eq-eqb i j a) (eq-eqb l l' b)) (eq-eqb n n' c))) (inl d)
answers_have i l n os (Back j l' n' ps ∷ ws) (inr k) = pick ((eqb i j && eqb l l') && eqb n n') (answers_have i l n os ws k)
  where
    pick : (b : Bool) → In os (answers i l n ws) → In os (cond b (ps ∷ answers i l n ws) (answers i l n ws))
    pick true h = inr h
    pick false h = h

pub obeyed_one : (w : World) (i : ℕ) → answers i (w.agent i).life (w.agent i).number w.sent ≡ (w.agent i).ordered ∷ [] → Obeyed w i
obeyed_one w i e os m = pick (subst (In os) e (answers_have i _ _ os w.sent (in_from m)))
  where
    pick : In os ((w.agent i).ordered ∷ []) → (w.agent i).ordered ≡ os
    pick (inl p) = sym p
    pick (inr k) = absurd k

pub obeyed_none : (w : World) (i : ℕ) → answers i (w.agent i).life (w.agent i).number w.sent ≡ [] → Obeyed w i
obeyed_none w i e os m = absurd (subst (In os) e (answers_have i _ _ os w.sent (in_from m)))

-- REACHED

-- neither a report nor a forgetting: what a person or the clock says
abbrev pub outside : Call → Bool
outside (SetJob n a c l m) = true
outside (EndJob n) = true
outside (AddMachine k c m t) = true
outside (Close k) = true
outside (Reopen k) = true
outside (Forget k) = false
outside (Report k l n xs) = false
outside (Tick t) = true
outside (Show n) = true

pub say : (c : Call) → outside c ≡ true → (w : World) → Reach w → Reach (told c w)
say c o w r = Reach.then r (Step.says w c (λ k l n xs e. true≢false (sym o ∙ ap outside e)) (λ k e. true≢false (sym o ∙ ap outside e)))

pub up : (w : World) → Reach w → Reach (came_up w)
up w r = Reach.then r (Step.comes_up w 1)

-- it reports, is heard, and obeys
pub turn : (os : List Order) (w : World) → ltb 0 (w.agent 1).life ≡ true → (does (Report 1 (w.agent 1).life ((w.agent 1).number + 1) (said_by (w.agent 1))) w.herd).reply ≡ Run ((w.agent 1).number + 1) os → Reach w → Reach (turned os w)
turn os w l e r = Reach.then (Reach.then (Reach.then r (Step.reports w 1 (ltb-true 0 (w.agent 1).life l))) (Step.hears (has_sent w) 1 _ _ (said_by (w.agent 1)) _ os (Memᴰ.head refl) e)) (Step.obeyed (was_heard os (has_sent w)) 1 os (Memᴰ.head refl))

-- with nothing running there, a task that is ordered is started
begun_calm : (o : Order) (w : World) → Memᴰ o (w.agent 1).ordered → (w.agent 1).runs ≡ [] → Calm [] w (started o.id false w)
unfolding some
begun_calm o w m e = subst (λ (xs : List Seen). Calm [] w (with_agent 1 (running (record { id = o.id; ready = false } ∷ xs) (w.agent 1)) w)) e (Calm.starts w 1 o m (subst (λ (xs : List Seen). T (not (some (is_seen o.id) xs))) (sym e) tt))

begun_step : (o : Order) (w : World) → Memᴰ o (w.agent 1).ordered → (w.agent 1).runs ≡ [] → Step w (started o.id false w)
unfolding some
begun_step o w m e = subst (λ (xs : List Seen). Step w (with_agent 1 (running (record { id = o.id; ready = false } ∷ xs) (w.agent 1)) w)) e (Step.starts w 1 o m (subst (λ (xs : List Seen). T (not (some (is_seen o.id) xs))) (sym e) tt))

pub bring_up : (o : Order) (w : World) → Memᴰ o (w.agent 1).ordered → (w.agent 1).runs ≡ [] → Reach w → Reach (brought_up o.id w)
bring_up o w m e r = Reach.then (Reach.then r (begun_step o w m e)) (Step.becomes (started o.id false w) 1 [] [] (record { id = o.id; ready = false }) true refl)

-- ROUNDS

pub cycle : (P : State → Type 0) (os : List Order) (w : World) → ltb 0 (w.agent 1).life ≡ true → Obeyed w 1 → every (λ (x : Seen). x.ready) (said_by (w.agent 1)) ≡ true →
    (does (Report 1 (w.agent 1).life ((w.agent 1).number + 1) (said_by (w.agent 1))) w.herd).reply ≡ Run ((w.agent 1).number + 1) os → P w.herd → P (turned os w).herd → Course P (1 ∷ []) w (turned os w)
cycle P os w l o d e p q =
    Course.go (Calm.sends w 1 (ltb-true 0 (w.agent 1).life l) o) p (Course.go (Calm.hears (has_sent w) 1 (said_by (w.agent 1)) os (Memᴰ.head refl) (ready_all_of (said_by (w.agent 1)) d) e) q (Course.go (Calm.heeds (was_heard os (has_sent w)) 1 os (Memᴰ.head refl)) q (Course.stop (turned os w))))

pub starting : (P : State → Type 0) {ks : List ℕ} {v : World} (o : Order) (w : World) → Memᴰ o (w.agent 1).ordered → (w.agent 1).runs ≡ [] → P w.herd → Course P ks (brought_up o.id w) v → Course P ks w v
starting P o w m e p c = Course.go (begun_calm o w m e) p (Course.go (Calm.becomes (started o.id false w) 1 [] [] (record { id = o.id; ready = false }) true refl) p c)

pub round_of : (P : State → Type 0) (w v : World) → Course P (1 ∷ []) w v → every (λ (m : Machine). eqb 1 m.num) w.herd.machines ≡ true → Round P w v
round_of P w v c e = (1 ∷ [], c, λ m i. in_to m.num (1 ∷ []) (inl (sym (eqb-true 1 m.num (every_at (λ (x : Machine). eqb 1 x.num) w.herd.machines e m (in_from i))))))

-- a first round, and one of those with room
pub any_round : (os : List Order) (w : World) → ltb 0 (w.agent 1).life ≡ true → answers 1 (w.agent 1).life (w.agent 1).number w.sent ≡ (w.agent 1).ordered ∷ [] → every (λ (x : Seen). x.ready) (said_by (w.agent 1)) ≡ true →
    (does (Report 1 (w.agent 1).life ((w.agent 1).number + 1) (said_by (w.agent 1))) w.herd).reply ≡ Run ((w.agent 1).number + 1) os → every (λ (m : Machine). eqb 1 m.num) w.herd.machines ≡ true → Round Anyhow w (turned os w)
any_round os w l o d e m = round_of Anyhow w (turned os w) (cycle Anyhow os w l (obeyed_one w 1 o) d e tt tt) m

pub calm_round : (os : List Order) (w : World) → ltb 0 (w.agent 1).life ≡ true → answers 1 (w.agent 1).life (w.agent 1).number w.sent ≡ (w.agent 1).ordered ∷ [] → every (λ (x : Seen). x.ready) (said_by (w.agent 1)) ≡ true →
    (does (Report 1 (w.agent 1).life ((w.agent 1).number + 1) (said_by (w.agent 1))) w.herd).reply ≡ Run ((w.agent 1).number + 1) os → every (λ (m : Machine). eqb 1 m.num) w.herd.machines ≡ true → Roomy w.herd → Roomy (turned os w).herd → Round Roomy w (turned os w)
calm_round os w l o d e m p q = round_of Roomy w (turned os w) (cycle Roomy os w l (obeyed_one w 1 o) d e p q) m
