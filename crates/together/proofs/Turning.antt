-- Machines alone: what happens on one, its agent in the other world does, or has done, or does twice.
-- Assumes nothing.
use Rattle.std.proofs.Common.{◌≡◌, ℕ, ◌+◌, ◌<◌, Bool, true, false, cond, not, ◌&&◌, T, eqb, ◌⊎◌, List, ◌∷◌, ◌++◌, length, sym, refl, ap, ◌∙◌, subst, inl, inr}
use mathlib.Core.Path.{fun_ext}
use mathlib.Core.List.{Memᴰ}
use Rattle.std.proofs.lemmas.Bool.{eqb-true, and_parts, cond_both}
use Rattle.model.specs.Lists.{some}
use Rattle.model.specs.State.{State}
use Rattle.model.specs.Calls.{Order}
use Rattle.model.specs.World.{Agent, Word, Back, World, put, is_seen, running, risen, obeys, Step, Reach}
use Rattle.model.specs.Wire.{Bytes, Read, garbled, meant, Answer, Refused, Done, Runs, Shown}
use Rattle.model.specs.Answers.{read_answer_lem}
use Rattle.agents.specs.Steps.{takes_in}
use Rattle.together.specs.Real.{Body, up, off, fresh, Turn, set}
use Rattle.together.specs.Telling.{Carried, Bodied}

abbrev pub world : State → (ℕ → Agent) → List Word → World
world s f ws = record { herd = s; agent = f; sent = ws }

pub put_same : (i : ℕ) (f : ℕ → Agent) → f ≡ put i (f i) f
put_same i f = fun_ext (λ j. cond_both (eqb j i) (f i) (f j) (λ (a : Agent). f j ≡ a) (λ e. ap f (eqb-true j i e)) (λ e. refl))

pub unmoved : (s : State) (f : ℕ → Agent) (ws : List Word) (i : ℕ) → Reach (world s f ws) → Reach (world s (put i (f i) f) ws)
unmoved s f ws i r = subst (λ (g : ℕ → Agent). Reach (world s g ws)) (put_same i f) r

-- each body with its agent
abbrev pub Same : (ℕ → Body) → (ℕ → Agent) → Type 0
Same g f = (i : ℕ) → Bodied (g i) (f i)

pub same_put : (g : ℕ → Body) (f : ℕ → Agent) (i : ℕ) (b : Body) (a : Agent) → Bodied b a → Same g f → Same (set i b g) (put i a f)
same_put g f i b a h q j = pick (eqb j i)
  where
    pick : (v : Bool) → Bodied (cond v b (g j)) (cond v a (f j))
    pick true = h
    pick false = q j

pub record After (s : State) (f : ℕ → Agent) (ws : List Word) (i : ℕ) (b : Body) : Type 0 where
  pub agent : Agent
  pub bodied : Bodied b agent
  pub reached : Reach (world s (put i agent f) ws)

pub turned : {b c : Body} → Turn b c → (s : State) (f : ℕ → Agent) (ws : List Word) (i : ℕ) → Bodied b (f i) → Reach (world s f ws) → After s f ws i c
turned (Turn.ends a) s f ws i h r = record { agent = f i; bodied = h; reached = unmoved s f ws i r }
turned (Turn.clears a) s f ws i h r = record { agent = _; bodied = record { number = refl; ordered = refl; runs = refl; life = inr (ap (λ (x : Agent). x.life + 1) h) }; reached = Reach.then r (Step.comes_up (world s f ws) i) }
turned (Turn.comes_up d l) s f ws i h r = pick h.life
  where
    pick : ((f i).life ≡ d) ⊎ ((f i).life ≡ d + 1) → After s f ws i (up (fresh (d + 1)))
    pick (inl e) = record { agent = risen (f i); bodied = ap (λ (n : ℕ). fresh (n + 1)) e; reached = Reach.then r (Step.comes_up (world s f ws) i) }
    pick (inr e) = record { agent = f i; bodied = λ j. record { life = e j; number = h.number j; ordered = h.ordered j; runs = h.runs j }; reached = unmoved s f ws i r }
turned (Turn.is_cut_up d l) s f ws i h r = pick h.life
  where
    pick : ((f i).life ≡ d) ⊎ ((f i).life ≡ d + 1) → After s f ws i (off (d + 1))
    pick (inl e) = record { agent = risen (f i); bodied = record { number = refl; ordered = refl; runs = refl; life = inl (ap (λ (n : ℕ). n + 1) e) }; reached = Reach.then r (Step.comes_up (world s f ws) i) }
    pick (inr e) = record { agent = f i; bodied = record { number = h.number; ordered = h.ordered; runs = h.runs; life = inl e }; reached = unmoved s f ws i r }
turned (Turn.starts a o m n) s f ws i h r =
    record { agent = _; bodied = ap (λ (x : Agent). running (record { id = o.id; ready = false } ∷ x.runs) x) h; reached = Reach.then r (Step.starts (world s f ws) i o (subst (λ (x : Agent). Memᴰ o x.ordered) (sym h) m) (subst (λ (x : Agent). T (not (some (is_seen o.id) x.runs))) (sym h) n)) }
turned (Turn.becomes a before behind x b e) s f ws i h r =
    record { agent = _; bodied = ap (λ (y : Agent). running (before ++ record { id = x.id; ready = b } ∷ behind) y) h; reached = Reach.then r (Step.becomes (world s f ws) i before behind x b (ap (λ (y : Agent). y.runs) h ∙ e)) }
turned (Turn.dies a before behind x e) s f ws i h r = record { agent = _; bodied = ap (λ (y : Agent). running (before ++ behind) y) h; reached = Reach.then r (Step.dies (world s f ws) i before behind x (ap (λ (y : Agent). y.runs) h ∙ e)) }
turned (Turn.dies_lost a before behind x e) s f ws i h r = record { agent = _; bodied = ap (λ (y : Agent). running (before ++ behind) y) h; reached = Reach.then r (Step.dies (world s f ws) i before behind x (ap (λ (y : Agent). y.runs) h ∙ e)) }

-- AN AGENT HEARS a line
pub heard_by : (s : State) (f : ℕ → Agent) (ws : List Word) → Reach (world s f ws) → (i : ℕ) (bs : Bytes) → Carried bs ws → (a : Read Answer) → read_answer_lem bs ≡ a → Reach (world s (put i (takes_in i a (f i)) f) ws)
heard_by s f ws r i bs c garbled e = unmoved s f ws i r
heard_by s f ws r i bs c (meant (Refused q)) e = unmoved s f ws i r
heard_by s f ws r i bs c (meant Done) e = unmoved s f ws i r
heard_by s f ws r i bs c (meant (Shown ls)) e = unmoved s f ws i r
heard_by s f ws r i bs c (meant (Runs j l n os)) e = cond_both (eqb j i && eqb l (f i).life && eqb n (f i).number) (obeys os (f i)) (f i) (λ (a : Agent). Reach (world s (put i a f) ws)) yes (λ _. unmoved s f ws i r)
  where
    yes : (eqb j i && eqb l (f i).life && eqb n (f i).number) ≡ true → Reach (world s (put i (obeys os (f i)) f) ws)
    yes t =
        let p = and_parts (eqb j i && eqb l (f i).life) (eqb n (f i).number) t in let q = and_parts (eqb j i) (eqb l (f i).life) p.0 in
        let ej = eqb-true j i q.0 in let el = eqb-true l (f i).life q.1 in let en = eqb-true n (f i).number p.1 in
        let z : Back j l n os ≡ Back i (f i).life (f i).number os = (λ k. Back (ej k) (el k) (en k) os) in
        Reach.then r (Step.obeyed (world s f ws) i os (subst (λ (x : Word). Memᴰ x ws) z (c.backs j l n os e)))

-- WHAT AN AGENT THAT IS UP has in its memory fits into the bytes of a report
pub record Able (a : Agent) : Type 0 where
  pub alive : 0 < a.life
  pub life : a.life < 18446744073709551616
  pub few : length a.ordered < 65536
  pub ids : (o : Order) → Memᴰ o a.ordered → o.id < 18446744073709551616
