-- What agents do in a calm time, and what happens on machines alone.
-- Assumes nothing.
use Rattle.std.proofs.Common.{◌≡◌, ℕ, ◌+◌, ◌<◌, ◌%◌, true, false, not, ◌&&◌, T, eqb, List, [], ◌∷◌, ◌++◌, sym, refl, ap, ◌∙◌, subst, inl, inr}
use mathlib.Core.List.{Memᴰ}
use Rattle.std.proofs.lemmas.Bool.{eqb-true, and_parts, cond_both}
use Rattle.model.specs.Lists.{some}
use Rattle.model.specs.State.{State}
use Rattle.model.specs.Calls.{Report, Order}
use Rattle.model.specs.World.{Agent, Word, Back, World, put, is_seen, may_run, report_of, reported, running, obeys, Reach}
use Rattle.model.specs.Memory.{Stand}
use Rattle.model.specs.Wire.{Bytes, Read, garbled, meant, call_bytes, Answer, Refused, Done, Runs, Shown}
use Rattle.model.specs.Answers.{read_answer_lem}
use Rattle.model.specs.Lines.{call_in}
use Rattle.agents.specs.Steps.{takes_in, report_line}
use Rattle.serving.specs.Herd.{Held}
use Rattle.rest.specs.Rounds as rest
use Rattle.rest.specs.Rounds.{Calm, Course}
use Rattle.rest.proofs.Lines.{calm_reach}
use Rattle.together.specs.Real.{Body, up, Turn, Heard, at, set}
use Rattle.together.specs.Telling.{Carried, Bodied}
use Rattle.together.specs.Now.{state_now}
use Rattle.together.proofs.Bearing.{carried_framed, carried_report}
use Rattle.together.proofs.Turning.{world, put_same, unmoved, same_put}
use Rattle.together.proofs.Ables.{AbleIn, able_set, able_turned, able_reported, able_takes, report_fits}
use Rattle.together.proofs.Coming.{Lined, lined_more, lined_cons}
use Rattle.together.proofs.Telling.{Has, no_back}
use Rattle.together.proofs.Now.{told_is}
use Rattle.calm.specs.Rounds.{HasObeyed, IsCalm}
use Rattle.calm.proofs.After.{Any, After}

-- one agent of the other world goes on, as a
pub record Goes (P : State → Type 0) (s : State) (f : ℕ → Agent) (ws : List Word) (i : ℕ) (a : Agent) : Type 0 where
  pub reached : Reach (world s (put i a f) ws)
  pub ahead : (ls : List ℕ) (v : World) → Course P ls (world s (put i a f) ws) v → Course P ls (world s f ws) v

module _ (P : State → Type 0) (s : State) (f : ℕ → Agent) (ws : List Word) (r : Reach (world s f ws)) (p : P s) where
  -- it stays
  stays : (i : ℕ) → Goes P s f ws i (f i)
  stays i = record { reached = unmoved s f ws i r; ahead = λ ls v c. subst (λ (h : ℕ → Agent). Course P ls (world s h ws) v) (sym (put_same i f)) c }

  -- or makes a calm step
  by_step : (i : ℕ) (a : Agent) → Calm [] (world s f ws) (world s (put i a f) ws) → Goes P s f ws i a
  by_step i a c = record { reached = calm_reach r c; ahead = λ ls v q. Course.go c p q }

  -- A LINE COMES to it
  pub heeds : (i : ℕ) (bs : Bytes) → Carried bs ws → (a : Read Answer) → read_answer_lem bs ≡ a → Goes P s f ws i (takes_in i a (f i))
  heeds i bs c garbled e = stays i
  heeds i bs c (meant (Refused q)) e = stays i
  heeds i bs c (meant Done) e = stays i
  heeds i bs c (meant (Shown ls)) e = stays i
  heeds i bs c (meant (Runs j l n os)) e = cond_both (eqb j i && eqb l (f i).life && eqb n (f i).number) (obeys os (f i)) (f i) (Goes P s f ws i) yes (λ _. stays i)
    where
      yes : (eqb j i && eqb l (f i).life && eqb n (f i).number) ≡ true → Goes P s f ws i (obeys os (f i))
      yes t =
          let q = and_parts (eqb j i && eqb l (f i).life) (eqb n (f i).number) t in let k = and_parts (eqb j i) (eqb l (f i).life) q.0 in
          let ej = eqb-true j i k.0 in let el = eqb-true l (f i).life k.1 in let en = eqb-true n (f i).number q.1 in
          let z : Back j l n os ≡ Back i (f i).life (f i).number os = (λ k. Back (ej k) (el k) (en k) os) in
          by_step i (obeys os (f i)) (rest.Calm.heeds (world s f ws) i os (subst (λ (x : Word). Memᴰ x ws) z (c.backs j l n os e)))

  -- ON A MACHINE ALONE
  abbrev pub Turned : ℕ → Body → Type 0
  Turned i b = (a : Agent) × Bodied b a × Goes P s f ws i a

  pub turned_calm : {b c : Body} (t : Turn b c) → IsCalm t → (i : ℕ) → Bodied b (f i) → Turned i c
  turned_calm (Turn.ends a) k i h = absurd k
  turned_calm (Turn.clears a) k i h = absurd k
  turned_calm (Turn.comes_up d l) k i h = absurd k
  turned_calm (Turn.is_cut_up d l) k i h = absurd k
  turned_calm (Turn.starts a o m n) k i h = (
    running (record { id = o.id; ready = false } ∷ (f i).runs) (f i),
    ap (λ (x : Agent). running (record { id = o.id; ready = false } ∷ x.runs) x) h,
    by_step i _ (rest.Calm.starts (world s f ws) i o (subst (λ (x : Agent). Memᴰ o x.ordered) (sym h) m) (subst (λ (x : Agent). T (not (some (is_seen o.id) x.runs))) (sym h) n)),
  )
  turned_calm (Turn.becomes a before behind x b e) k i h =
      (running (before ++ record { id = x.id; ready = b } ∷ behind) (f i), ap (λ (y : Agent). running (before ++ record { id = x.id; ready = b } ∷ behind) y) h, by_step i _ (rest.Calm.becomes (world s f ws) i before behind x b (ap (λ (y : Agent). y.runs) h ∙ e)))
  turned_calm (Turn.dies a before behind x e) k i h = (running (before ++ behind) (f i), ap (λ (y : Agent). running (before ++ behind) y) h, by_step i _ (rest.Calm.dies (world s f ws) i before behind x (ap (λ (y : Agent). y.runs) h ∙ e)))
  turned_calm (Turn.dies_lost a before behind x e) k i h = (running (before ++ behind) (f i), ap (λ (y : Agent). running (before ++ behind) y) h, by_step i _ (rest.Calm.dies (world s f ws) i before behind x (ap (λ (y : Agent). y.runs) h ∙ e)))

-- all together
module _ (P : State → Type 0) (h : Stand Held) (g : ℕ → Body) (bs : List Bytes) (cs : List Heard) (z : Has Any (at h g bs cs)) (i : ℕ) (p' : P (state_now h)) where
  abbrev s' : State
  s' = z.told.state

  abbrev f' : ℕ → Agent
  f' = z.told.agents

  abbrev ws' : List Word
  ws' = z.told.words

  p : P s'
  p = subst P (sym (told_is h s' z.told.stands)) p'

  is_agent : (a : Agent) → g i ≡ up a → f' i ≡ a
  is_agent a o = subst (λ (y : Body). Bodied y (f' i)) o (z.told.bodies i)

  is_able : (a : Agent) → g i ≡ up a → AbleIn (up a)
  is_able a o = subst AbleIn o (z.able i)

  pub after_heeds : (a : Agent) (b : Bytes) → g i ≡ up a → Memᴰ b bs → After P [] (world s' f' ws') (at h (set i (up (takes_in i (read_answer_lem (call_in b)) a)) g) bs cs)
  after_heeds a b o m =
      let e = is_agent a o in let k = is_able a o in let r = read_answer_lem (call_in b) in
      let q = heeds P s' f' ws' z.told.reached p i (call_in b) (z.told.lines b m) r refl in
      record {
        has = record {
          told = record { state = s'; agents = put i (takes_in i r (f' i)) f'; words = ws'; reached = q.reached; bodies = same_put g f' i (up (takes_in i r a)) (takes_in i r (f' i)) (ap (takes_in i r) e) z.told.bodies; stands = z.told.stands; lines = z.told.lines; answered = z.told.answered };
          able = able_set g i (up (takes_in i r a)) (able_takes i (call_in b) ws' (z.told.lines b m) a k r refl) z.able;
          has = tt;
        };
        ahead = q.ahead;
      }

  pub after_turns : (b : Body) (t : Turn (g i) b) → IsCalm t → After P [] (world s' f' ws') (at h (set i b g) bs cs)
  after_turns b t k =
      let q = turned_calm P s' f' ws' z.told.reached p t k i (z.told.bodies i) in
      record {
        has = record {
          told = record { state = s'; agents = put i q.0 f'; words = ws'; reached = q.2.reached; bodies = same_put g f' i b q.0 q.1 z.told.bodies; stands = z.told.stands; lines = z.told.lines; answered = z.told.answered };
          able = able_set g i b (able_turned t (z.able i)) z.able;
          has = tt;
        };
        ahead = q.2.ahead;
      }

  -- IT HAS OBEYED, and so has the agent of the other world
  pub obeyed_there : (a : Agent) → f' i ≡ a → HasObeyed cs i a → (os : List Order) → Memᴰ (Back i (f' i).life (f' i).number os) ws' → (f' i).ordered ≡ os
  obeyed_there a e o os m =
      let u : HasObeyed cs i (f' i) = subst (HasObeyed cs i) (sym e) o in
      let k = z.told.answered i (f' i).life (f' i).number os m in let y = u k.heard k.there k.seens k.says in
      elim k.reply [ inl n ↦ absurd (y.0 n) | inr q ↦ y.1 os q ]

  pub after_reports : (a : Agent) → g i ≡ up a → i < 65536 → a.number + 1 < 18446744073709551616 → HasObeyed cs i a → After P [] (world s' f' ws') (at h (set i (up (reported a)) g) (report_line i a ∷ bs) cs)
  after_reports a o b q ob =
      let e = is_agent a o in let k = is_able a o in
      let step : Calm [] (world s' f' ws') (world s' (put i (reported (f' i)) f') (report_of i (f' i) ∷ ws')) = rest.Calm.sends (world s' f' ws') i (subst (λ (y : Agent). 0 < y.life) (sym e) k.alive) (obeyed_there a e ob) in
      record {
        has = record {
          told = record {
            state = s';
            agents = put i (reported (f' i)) f';
            words = report_of i (f' i) ∷ ws';
            reached = calm_reach z.told.reached step;
            bodies = same_put g f' i (up (reported a)) (reported (f' i)) (ap reported e) z.told.bodies;
            stands = z.told.stands;
            answered = λ i' l' n' os' j. no_back j z.told.answered;
            lines = subst (λ (y : Agent). Lined (report_line i a ∷ bs) (report_of i y ∷ ws')) (sym e)
                (lined_cons (report_line i a) bs _ (carried_framed ((a.number + 1) % 4294967296) (call_bytes (Report i a.life (a.number + 1) (may_run a.runs a.ordered))) _ (carried_report i a.life (a.number + 1) (may_run a.runs a.ordered) _ (report_fits i a b q k) (Memᴰ.head refl))) (lined_more bs (report_of i a) ws' z.told.lines));
          };
          able = able_set g i (up (reported a)) (able_reported a k) z.able;
          has = tt;
        };
        ahead = λ ls v c. Course.go step p c;
      }
