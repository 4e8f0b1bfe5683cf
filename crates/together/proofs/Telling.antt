-- What really runs is told of by the model: each move is a step of it, or several, or none.
-- Assumes nothing.
use Rattle.std.proofs.Common.{◌≡◌, ℕ, ◌+◌, ◌<◌, ◌%◌, ◌⊎◌, List, [], ◌∷◌, Some, None, Option, sym, refl, ap, ◌∙◌, subst, inl, inr}
use mathlib.Core.List.{Memᴰ}
use Rattle.model.specs.State.{Machine, State, blank}
use Rattle.model.specs.Calls.{Seen, Report, Order, down}
use Rattle.model.specs.World.{Agent, Word, Up, Back, reported, may_run, put, report_of, Step, Reach}
use Rattle.model.specs.Memory.{Memory, Doing, comes_to, leaves, asleep, awake}
use Rattle.model.specs.Wire.{Bytes, call_bytes, Answer, Runs, answer_bytes}
use Rattle.model.specs.Answers.{read_answer_lem}
use Rattle.model.specs.Lines.{core_kind, framed, tag_in, call_in, bytes_say, answer_line, line_leaves}
use Rattle.model.proofs.Lists.{never, In, in_from, in_to}
use Rattle.model.proofs.Keeps.{Sound}
use Rattle.model.proofs.Worlds.{inv_reach}
use Rattle.agents.specs.Steps.{takes_in, report_line}
use Rattle.serving.specs.Herd.{Held, Stands, Tells, Awake, herd_code}
use Rattle.serving.proofs.Standing.{herd_right}
use Rattle.together.specs.Real.{Body, up, Heard, heard, Real, at, Comes, Move, Came}
use Rattle.together.specs.Telling.{Carried, Bodied, Answered, Told, AllTold}
use Rattle.together.proofs.Says.{reported_by}
use Rattle.together.proofs.Listing.{few_orders, orders_fit, machine_brief}
use Rattle.together.proofs.Bearing.{carried_framed, carried_report}
use Rattle.together.proofs.Turning.{world, same_put, turned, heard_by}
use Rattle.together.proofs.Ables.{AbleIn, able_set, able_turned, able_reported, able_takes, report_fits}
use Rattle.together.proofs.Coming.{Lined, lined_more, lined_cons, Listable, Next, comes}

-- a state that a mind stands for
pub low_of : (x : Held) (s : State) → Stands x s → (m : Machine) → In m s.machines → m.num < 65536
low_of x s a m i = machine_brief x m (subst (λ (t : State). In m t.machines) a.1 i)

pub listable_of : (x : Held) (s : State) → Stands x s → Listable s
listable_of x s a = subst Listable (sym a.1) (λ k. (few_orders x a.0 k, orders_fit x a.0 k))

-- each report that was answered there came
abbrev pub Kept : List Word → List Heard → Type 0
Kept ws cs = (i l n : ℕ) (os : List Order) → Memᴰ (Back i l n os) ws → Answered cs i l n os

pub answered_more : (h : Heard) (cs : List Heard) (i l n : ℕ) (os : List Order) → Answered cs i l n os → Answered (h ∷ cs) i l n os
answered_more h cs i l n os a = record { heard = a.heard; there = Memᴰ.tail a.there; seens = a.seens; says = a.says; reply = a.reply }

-- a report is no answer
pub no_back : {i l n j k m : ℕ} {xs : List Seen} {os : List Order} {ws : List Word} {cs : List Heard} → Memᴰ (Back i l n os) (Up j k m xs ∷ ws) → Kept ws cs → Answered cs i l n os
no_back {i} {l} {n} {j} {k} {m} {xs} {os} {ws} {cs} p h = pick (in_from p)
  where
    pick : (Back i l n os ≡ Up j k m xs) ⊎ In (Back i l n os) ws → Answered cs i l n os
    pick (inl e) = never (cc)
    pick (inr q) = h i l n os (in_to (Back i l n os) ws q)

-- what is told, with whatever else lines and darkness keep of the herd's state, H
pub record Has (H : List Heard → State → Type 0) (w : Real) : Type 0 where
  pub told : Told w
  pub able : (i : ℕ) → AbleIn (w.body i)
  pub has : H w.came told.state

module _ (H : List Heard → State → Type 0) (H_first : H [] blank) (H_says : (cs : List Heard) (s : State) (b : Bytes) (r : Option Bytes) → (r ≡ None) ⊎ (r ≡ Some (answer_line core_kind b s)) → Sound s → H cs s → H (heard b r ∷ cs) (line_leaves core_kind b s))
    (H_not : (cs : List Heard) (s : State) (b : Bytes) → H cs s → H (heard b None ∷ cs) s) (H_down : (cs : List Heard) (s : State) → H cs s → H cs (down s)) where
  module _ (x : Held) (m : Memory) (g : ℕ → Body) (bs : List Bytes) (cs : List Heard) (z : Has H (at (awake x m) g bs cs)) (b : Bytes) (c : Comes g bs b) (d : Doing (record { reply : Bytes; mind : Held })) (way : herd_code.Does b x d) where
    abbrev before : State
    before = z.told.state

    abbrev after : State
    after = line_leaves core_kind b before

    next : Next z.told.agents z.told.words bs (bytes_say core_kind (call_in b) before).answer after
    next = comes before g z.told.agents z.told.words bs z.told.bodies z.told.reached z.told.lines (low_of x before z.told.stands.stands) b c

    sound : Sound before
    sound = (inv_reach z.told.reached).sound

    kept : (r : Option Bytes) → Kept z.told.words (heard b r ∷ cs)
    kept r i l n os p = answered_more (heard b r) cs i l n os (z.told.answered i l n os p)

    kept_next : (r : Option Bytes) → (r ≡ None) ⊎ (r ≡ Some (answer_line core_kind b before)) → Kept next.words (heard b r ∷ cs)
    kept_next r q i l n os p = pick (next.backs i l n os p)
      where
        pick : Memᴰ (Back i l n os) z.told.words ⊎ ((bytes_say core_kind (call_in b) before).answer ≡ Runs i l n os) → Answered (heard b r ∷ cs) i l n os
        pick (inl j) = kept r i l n os j
        pick (inr e) = let k = reported_by (call_in b) before i l n os e in record { heard = heard b r; there = Memᴰ.head refl; seens = k.seens; says = k.says; reply = either q }
          where
            either : (r ≡ None) ⊎ (r ≡ Some (answer_line core_kind b before)) → (r ≡ None) ⊎ (r ≡ Some (framed (tag_in b) (answer_bytes (Runs i l n os))))
            either (inl u) = inl u
            either (inr u) = inr (u ∙ ap (λ (x : Answer). Some (framed (tag_in b) (answer_bytes x))) e)

    told_answers : Has H (at (awake (comes_to d m).mind (leaves d m)) g ((comes_to d m).reply ∷ bs) (heard b (Some (comes_to d m).reply) ∷ cs))
    told_answers =
        let a = (herd_right.answers x m before b d z.told.stands way).1 in
        let l : Listable after = subst Listable a.1.1 (listable_of (comes_to d m).mind a.0 a.2.stands) in
        record {
          told = record {
            state = after;
            agents = z.told.agents;
            words = next.words;
            reached = next.reached;
            bodies = z.told.bodies;
            stands = subst (λ (u : State). Awake (comes_to d m).mind (leaves d m) u) a.1.1 a.2;
            lines = lined_cons (comes_to d m).reply bs next.words (subst (λ (y : Bytes). Carried (call_in y) next.words) (sym a.1.0) (carried_framed (tag_in b) (answer_bytes (bytes_say core_kind (call_in b) before).answer) next.words (next.reply l))) next.lines;
            answered = kept_next (Some (comes_to d m).reply) (inr (ap Some a.1.0));
          };
          able = z.able;
          has = H_says cs before b (Some (comes_to d m).reply) (inr (ap Some a.1.0)) sound z.has;
        }

    told_cut : (n : Memory) → Tells n (down before) ⊎ ((r : Bytes) × (t : State) × ((r ≡ answer_line core_kind b before) × (t ≡ after)) × Tells n (down t)) → Has H (at (asleep n) g bs (heard b None ∷ cs))
    told_cut n (inl t) =
        record {
          told = record { state = down before; agents = z.told.agents; words = z.told.words; reached = Reach.then z.told.reached (Step.falls (world before z.told.agents z.told.words)); bodies = z.told.bodies; stands = t; lines = z.told.lines; answered = kept None };
          able = z.able;
          has = H_down (heard b None ∷ cs) before (H_not cs before b z.has);
        }
    told_cut n (inr p) =
        record {
          told = record {
            state = down after;
            agents = z.told.agents;
            words = next.words;
            reached = Reach.then next.reached (Step.falls (world after z.told.agents next.words));
            bodies = z.told.bodies;
            stands = subst (λ (u : State). Tells n (down u)) p.2.1 p.3;
            lines = next.lines;
            answered = kept_next None (inl refl);
          };
          able = z.able;
          has = H_down (heard b None ∷ cs) after (H_says cs before b None (inl refl) sound z.has);
        }

  told_move : {w v : Real} → Has H w → Move w v → Has H v
  told_move z (Move.answers x m g bs cs b d c way) = told_answers x m g bs cs z b c d way
  told_move z (Move.is_cut x m n g bs cs b d c way h) = told_cut x m g bs cs z b c d way n (herd_right.cut_answering x m n z.told.state b d z.told.stands way h)
  told_move z (Move.darkens x m g bs cs) =
      let t = z.told in
      record { told = record { state = down t.state; agents = t.agents; words = t.words; reached = Reach.then t.reached (Step.falls (world t.state t.agents t.words)); bodies = t.bodies; answered = t.answered; stands = herd_right.goes_dark x m t.state t.stands; lines = t.lines }; able = z.able; has = H_down cs t.state z.has }
  told_move z (Move.is_cut_waking m n g bs cs h) = let t = z.told in record { told = record { state = t.state; agents = t.agents; words = t.words; reached = t.reached; bodies = t.bodies; answered = t.answered; stands = herd_right.cut_waking m n t.state t.stands h; lines = t.lines }; able = z.able; has = z.has }
  told_move z (Move.wakes m g bs cs) = let t = z.told in record { told = record { state = t.state; agents = t.agents; words = t.words; reached = t.reached; bodies = t.bodies; answered = t.answered; stands = (herd_right.wakes m t.state t.stands).1; lines = t.lines }; able = z.able; has = z.has }
  told_move z (Move.turns h g bs cs i b u) =
      let t = z.told in let q = turned u t.state t.agents t.words i (t.bodies i) t.reached in
      record { told = record { state = t.state; agents = put i q.agent t.agents; words = t.words; reached = q.reached; bodies = same_put g t.agents i b q.agent q.bodied t.bodies; stands = t.stands; lines = t.lines; answered = t.answered }; able = able_set g i b (able_turned u (z.able i)) z.able; has = z.has }
  told_move z (Move.reports h g bs cs i a o p q) =
      let t = z.told in let f = t.agents in let e : f i ≡ a = subst (λ (y : Body). Bodied y (f i)) o (t.bodies i) in let k = subst AbleIn o (z.able i) in
      record {
        told = record {
          state = t.state;
          agents = put i (reported (f i)) f;
          words = report_of i (f i) ∷ t.words;
          reached = Reach.then t.reached (Step.reports (world t.state f t.words) i (subst (λ (y : Agent). 0 < y.life) (sym e) k.alive));
          bodies = same_put g f i (up (reported a)) (reported (f i)) (ap reported e) t.bodies;
          stands = t.stands;
          answered = λ i' l' n' os' p. no_back p t.answered;
          lines = subst (λ (y : Agent). Lined (report_line i a ∷ bs) (report_of i y ∷ t.words)) (sym e)
              (lined_cons (report_line i a) bs _ (carried_framed ((a.number + 1) % 4294967296) (call_bytes (Report i a.life (a.number + 1) (may_run a.runs a.ordered))) _ (carried_report i a.life (a.number + 1) (may_run a.runs a.ordered) _ (report_fits i a p q k) (Memᴰ.head refl))) (lined_more bs (report_of i a) t.words t.lines));
        };
        able = able_set g i (up (reported a)) (able_reported a k) z.able;
        has = z.has;
      }
  told_move z (Move.hears h g bs cs i a b o m) =
      let t = z.told in let f = t.agents in let e : f i ≡ a = subst (λ (y : Body). Bodied y (f i)) o (t.bodies i) in let k = subst AbleIn o (z.able i) in let r = read_answer_lem (call_in b) in
      record {
        told = record {
          state = t.state;
          agents = put i (takes_in i r (f i)) f;
          words = t.words;
          reached = heard_by t.state f t.words t.reached i (call_in b) (t.lines b m) r refl;
          bodies = same_put g f i (up (takes_in i r a)) (takes_in i r (f i)) (ap (takes_in i r) e) t.bodies;
          stands = t.stands;
          lines = t.lines;
          answered = t.answered;
        };
        able = able_set g i (up (takes_in i r a)) (able_takes i (call_in b) t.words (t.lines b m) a k r refl) z.able;
        has = z.has;
      }

  pub has_come : {w : Real} → Came w → Has H w
  has_come Came.begin =
      record {
        told = record { state = blank; agents = λ i. record { life = 0; number = 0; ordered = []; runs = [] }; words = []; reached = Reach.begin; bodies = λ i. record { number = refl; ordered = refl; runs = refl; life = inl refl }; stands = herd_right.at_first_lem; lines = λ b m. absurd (in_from m); answered = λ i l n os m. absurd (in_from m) };
        able = λ i. tt;
        has = H_first;
      }
  has_come (Came.then c m) = told_move (has_come c) m

pub all_told_lem : AllTold
all_told_lem w c = (has_come (λ cs s. Unit {0}) tt (λ cs s b r k q h. tt) (λ cs s b h. tt) (λ cs s h. tt) c).told
