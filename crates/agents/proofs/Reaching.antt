-- An agent's moves, as steps of the world.
-- Assumes nothing.
use Rattle.std.proofs.Common.{◌≡◌, ℕ, Bool, true, false, cond, not, T, eqb, List, [], ◌∷◌, sym, refl, ap, ◌∙◌, subst}
use mathlib.Core.Path.{fun_ext}
use mathlib.Core.List.{Memᴰ}
use Rattle.std.proofs.lemmas.Bool.{eq-eqb, eqb-true}
use Rattle.model.specs.Lists.{some}
use Rattle.model.specs.Calls.{Seen, Order}
use Rattle.model.specs.World.{Agent, World, Back, Step, Reach, is_seen, put, with_agent, running, obeys}
use Rattle.model.proofs.Lists.Tests.{from_true}
use Rattle.agents.specs.Moves.{started}
use Rattle.agents.specs.Steps.{starting}
use Rattle.agents.specs.Worlds.{AllMovesReach}

put_at : (i : ℕ) (a : Agent) (f : ℕ → Agent) → put i a f i ≡ a
put_at i a f = ap (λ (b : Bool). cond b a (f i)) (eq-eqb i i refl)

put_same : (i : ℕ) (f : ℕ → Agent) → f ≡ put i (f i) f
put_same i f = fun_ext (λ j. pick j (eqb j i) refl)
  where
    pick : (j : ℕ) (b : Bool) → eqb j i ≡ b → f j ≡ cond b (f i) (f j)
    pick j true e = ap f (eqb-true j i e)
    pick j false e = refl

put_again : (i : ℕ) (a b : Agent) (f : ℕ → Agent) → put i a (put i b f) ≡ put i a f
put_again i a b f = fun_ext (λ j. pick j (eqb j i))
  where
    pick : (j : ℕ) (t : Bool) → cond t a (cond t b (f j)) ≡ cond t a (f j)
    pick j true = refl
    pick j false = refl

module _ (w : World) (i : ℕ) where
  at_with : (b : Agent) → (with_agent i b w).agent i ≡ b
  at_with b = put_at i b w.agent

  with_again : (a b : Agent) → with_agent i a (with_agent i b w) ≡ with_agent i a w
  with_again a b = ap (λ (f : ℕ → Agent). record { herd = w.herd; agent = f; sent = w.sent }) (put_again i a b w.agent)

  with_same : w ≡ with_agent i (w.agent i) w
  with_same = ap (λ (f : ℕ → Agent). record { herd = w.herd; agent = f; sent = w.sent }) (put_same i w.agent)

  -- one order more is started
  start_one_lem : (b : Agent) (o : Order) → Memᴰ o b.ordered → some (is_seen o.id) b.runs ≡ false → Reach (with_agent i b w) → Reach (with_agent i (running (record { id = o.id; ready = false } ∷ b.runs) b) w)
  start_one_lem b o m n r =
      let e = at_with b in
      let s = Step.starts (with_agent i b w) i o (subst (λ (x : Agent). Memᴰ o x.ordered) (sym e) m) (subst (λ (x : Agent). T (not (some (is_seen o.id) x.runs))) (sym e) (from_true _ (ap not n))) in
      subst Reach (ap (λ (x : Agent). with_agent i (running (record { id = o.id; ready = false } ∷ x.runs) x) (with_agent i b w)) e ∙ with_again _ b) (Reach.then r s)

  -- and so all of them, from the last to the first
  start_all_lem : (os : List Order) → ((o : Order) → Memᴰ o os → Memᴰ o (w.agent i).ordered) → Reach w → Reach (with_agent i (running (started os (w.agent i).runs) (w.agent i)) w)
  unfolding started
  start_all_lem [] f r = subst Reach with_same r
  start_all_lem (o ∷ os) f r = pick (some (is_seen o.id) (started os (w.agent i).runs)) refl (start_all_lem os (λ p m. f p (Memᴰ.tail m)) r)
    where
      pick : (b : Bool) → some (is_seen o.id) (started os (w.agent i).runs) ≡ b → Reach (with_agent i (running (started os (w.agent i).runs) (w.agent i)) w) →
          Reach (with_agent i (running (cond b (started os (w.agent i).runs) (record { id = o.id; ready = false } ∷ started os (w.agent i).runs)) (w.agent i)) w)
      pick true e h = h
      pick false e h = start_one_lem (running (started os (w.agent i).runs) (w.agent i)) o (f o (Memᴰ.head refl)) e h

  all_started : Reach w → Reach (with_agent i (starting (w.agent i)) w)
  all_started r = start_all_lem (w.agent i).ordered (λ o m. m) r

obeyed_reach : (w : World) (i : ℕ) (os : List Order) → Reach w → Memᴰ (Back i (w.agent i).life (w.agent i).number os) w.sent → Reach (with_agent i (starting (obeys os (w.agent i))) w)
obeyed_reach w i os r m =
    let h = all_started (with_agent i (obeys os (w.agent i)) w) i (Reach.then r (Step.obeyed w i os m)) in
    subst Reach (ap (λ (x : Agent). with_agent i (starting x) (with_agent i (obeys os (w.agent i)) w)) (at_with w i (obeys os (w.agent i))) ∙ with_again w i (starting (obeys os (w.agent i))) (obeys os (w.agent i))) h

pub all_moves_reach_lem : AllMovesReach
all_moves_reach_lem w i r =
    record {
      rises = Reach.then r (Step.comes_up w i);
      reports = λ l. Reach.then r (Step.reports w i l);
      starts = all_started w i r;
      obeyed = λ os m. obeyed_reach w i os r m;
      becomes = λ t b ys k. subst (λ (xs : List Seen). Reach (with_agent i (running xs (w.agent i)) w)) (sym k.is) (Reach.then r (Step.becomes w i k.before k.behind k.found b k.was));
      dies = λ t ys k. subst (λ (xs : List Seen). Reach (with_agent i (running xs (w.agent i)) w)) (sym k.is) (Reach.then r (Step.dies w i k.before k.behind k.found k.was));
    }
