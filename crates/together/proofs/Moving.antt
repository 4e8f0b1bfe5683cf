-- The moves of the programs, as moves of the world as it runs.
-- Assumes nothing.
use Rattle.std.proofs.Common.{◌≡◌, ℕ, ◌+◌, ◌<◌, Bool, true, false, cond, not, ◌&&◌, eqb, List, [], ◌∷◌, Some, Result, sym, refl, ap, ◌∙◌, subst, subst₂}
use Rattle.std.proofs.lemmas.Result.{MatchResult-weaker}
use mathlib.Core.Path.{fun_ext}
use mathlib.Core.List.{Memᴰ}
use Rattle.std.proofs.lemmas.Bool.{eq-eqb, eqb-true, and_from}
use Rattle.model.specs.Lists.{some}
use Rattle.model.specs.Calls.{Seen, Order}
use Rattle.model.specs.World.{Agent, is_seen, risen, running, reported, obeys}
use Rattle.model.specs.Memory.{Memory, Doing, awake}
use Rattle.model.specs.Wire.{Bytes, Read, Answer}
use Rattle.model.specs.Answers.{read_answer_lem}
use Rattle.model.specs.Lines.{call_in}
use Rattle.model.proofs.Lists.Tests.{from_true}
use Rattle.device.specs.Follows.{Ended, FollowsTo}
use Rattle.device.specs.Service.{Said, finishing}
use Rattle.agents.specs.Moves.{started}
use Rattle.agents.specs.Steps.{takes_in, report_line, starting, Obeyed, Marked, Gone}
use Rattle.agents.specs.declared.order.Deed.{Deed}
use Rattle.serving.specs.Herd.{Held, herd_code}
use Rattle.serving.specs.Serves.{Serves}
use Rattle.together.specs.Real.{Body, up, fresh, Turn, heard, at, set, Move, Came}
use Rattle.together.specs.Moves.{HerdAnswers, HerdWakes, ComesUp, GoesOn, Sends, AgentHears}

-- THE HERD
pub herd_answers : {V E : Type 0} (b : Bytes) (x : Held) (m : Memory) (r : Result V E) (y : Said Bytes Held) (n : Memory) (d : Doing (Said Bytes Held)) → herd_code.Does b x d → FollowsTo d m r (λ _. y) n → HerdAnswers b x m r y n
herd_answers b x m r y n d way f g bs cs c k =
    MatchResult-weaker r f
    (λ _ e. subst₂ (λ (z : Said Bytes Held) (o : Memory). Came (at (awake z.mind o) g (z.reply ∷ bs) (heard b (Some z.reply) ∷ cs))) e.comes e.left (Came.then c (Move.answers x m g bs cs b d k way)))
    (λ _ h. Came.then c (Move.is_cut x m n g bs cs b d k way h))

pub herd_wakes : (m : Memory) (x : Held) → Ended herd_code.wakes m x m → HerdWakes m x
herd_wakes m x e g bs cs c = subst₂ (λ (y : Held) (o : Memory). Came (at (awake y o) g bs cs)) e.comes e.left (Came.then c (Move.wakes m g bs cs))

-- MACHINES

set_at : (i : ℕ) (b : Body) (g : ℕ → Body) → set i b g i ≡ b
set_at i b g = ap (λ (v : Bool). cond v b (g i)) (eq-eqb i i refl)

set_same : (i : ℕ) (b : Body) (g : ℕ → Body) → g i ≡ b → g ≡ set i b g
set_same i b g e = fun_ext (λ j. pick j (eqb j i) refl)
  where
    pick : (j : ℕ) (v : Bool) → eqb j i ≡ v → g j ≡ cond v b (g j)
    pick j true q = ap g (eqb-true j i q) ∙ e
    pick j false q = refl

set_again : (i : ℕ) (b c : Body) (g : ℕ → Body) → set i b (set i c g) ≡ set i b g
set_again i b c g = fun_ext (λ j. pick j (eqb j i))
  where
    pick : (j : ℕ) (v : Bool) → cond v b (cond v c (g j)) ≡ cond v b (g j)
    pick j true = refl
    pick j false = refl

-- one move after another, on one machine
then_on : (i : ℕ) (a b c : Agent) → GoesOn i a b → GoesOn i b c → GoesOn i a c
then_on i a b c p q h g bs cs w e = subst (λ (f : ℕ → Body). Came (at h f bs cs)) (set_again i (up c) (up b) g) (q h (set i (up b) g) bs cs (p h g bs cs w e) (set_at i (up b) g))

stays_on : (i : ℕ) (a : Agent) → GoesOn i a a
stays_on i a h g bs cs w e = subst (λ (f : ℕ → Body). Came (at h f bs cs)) (set_same i (up a) g e) w

turns_on : (i : ℕ) (a b : Agent) → Turn (up a) (up b) → GoesOn i a b
turns_on i a b t h g bs cs w e = Came.then w (Move.turns h g bs cs i (up b) (subst (λ (x : Body). Turn x (up b)) (sym e) t))

-- AN AGENT COMES UP
pub comes_up : (i l : ℕ) → l < 18446744073709551616 → ComesUp i l (fresh l)
comes_up i l k h g bs cs d w e q = Came.then w (Move.turns h g bs cs i (up (fresh l)) (subst₂ (λ (x : Body) (n : ℕ). Turn x (up (fresh n))) (sym e) (sym q) (Turn.comes_up d (subst (λ (n : ℕ). n < 18446744073709551616) q k))))

-- IT REPORTS
pub sends : (i : ℕ) (a : Agent) (v : Bytes) (b : Agent) → i < 65536 → a.number + 1 < 18446744073709551616 → v ≡ report_line i a → b ≡ reported a → Sends i a v b
sends i a v b k l p q h g bs cs w e = subst₂ (λ (x : Bytes) (y : Agent). Came (at h (set i (up y) g) (x ∷ bs) cs)) (sym p) (sym q) (Came.then w (Move.reports h g bs cs i a e k l))

-- IT STARTS what is ordered, one after the other
start_all_lem : (i : ℕ) (a : Agent) (os : List Order) → ((o : Order) → Memᴰ o os → Memᴰ o a.ordered) → GoesOn i a (running (started os a.runs) a)
unfolding started
start_all_lem i a [] f = stays_on i a
start_all_lem i a (o ∷ os) f = pick (some (is_seen o.id) (started os a.runs)) refl (start_all_lem i a os (λ p m. f p (Memᴰ.tail m)))
  where
    pick : (b : Bool) → some (is_seen o.id) (started os a.runs) ≡ b → GoesOn i a (running (started os a.runs) a) → GoesOn i a (running (cond b (started os a.runs) (record { id = o.id; ready = false } ∷ started os a.runs)) a)
    pick true e h = h
    pick false e h = then_on i a (running (started os a.runs) a) _ h (turns_on i (running (started os a.runs) a) _ (Turn.starts (running (started os a.runs) a) o (f o (Memᴰ.head refl)) (from_true _ (ap not e))))

pub starts_on : (i : ℕ) (a : Agent) → GoesOn i a (starting a)
starts_on i a = start_all_lem i a a.ordered (λ o m. m)

-- IT OBEYS a line that came, and starts what is ordered there
pub obeys_on : (i : ℕ) (line : Bytes) (a : Agent) (ds : List Deed) (b : Agent) → Obeyed i (read_answer_lem (call_in line)) a ds b → AgentHears i line a b
obeys_on i line a ds b k h g bs cs w e m =
    let c = Came.then w (Move.hears h g bs cs i a line e m) in
    let same : takes_in i (read_answer_lem (call_in line)) a ≡ obeys k.orders a = ap (λ (r : Read Answer). takes_in i r a) k.answered ∙ ap (λ (v : Bool). cond v (obeys k.orders a) a) (and_from (eqb i i && eqb a.life a.life) (eqb a.number a.number) (and_from (eqb i i) (eqb a.life a.life) (eq-eqb i i refl) (eq-eqb a.life a.life refl)) (eq-eqb a.number a.number refl)) in
    let d = subst (λ (x : Agent). Came (at h (set i (up x) g) bs cs)) same c in
    let z = starts_on i (obeys k.orders a) h (set i (up (obeys k.orders a)) g) bs cs d (set_at i (up (obeys k.orders a)) g) in
    subst (λ (f : ℕ → Body). Came (at h f bs cs)) (set_again i (up (starting (obeys k.orders a))) (up (obeys k.orders a)) g ∙ ap (λ (x : Agent). set i (up x) g) (sym k.after)) z

-- WHAT RUNS BECOMES READY, OR DIES
pub becomes_on : (i t : ℕ) (ready : Bool) (a b : Agent) → Marked t ready a.runs b.runs → b ≡ running b.runs a → GoesOn i a b
becomes_on i t ready a b k e = subst (GoesOn i a) (sym (e ∙ ap (λ (xs : List Seen). running xs a) k.is)) (turns_on i a _ (Turn.becomes a k.before k.behind k.found ready k.was))

pub dies_on : (i t : ℕ) (a b : Agent) → Gone t a.runs b.runs → b ≡ running b.runs a → GoesOn i a b
dies_on i t a b k e = subst (GoesOn i a) (sym (e ∙ ap (λ (xs : List Seen). running xs a) k.is)) (turns_on i a _ (Turn.dies a k.before k.behind k.found k.was))

-- nothing happened
pub same_on : (i : ℕ) (a b : Agent) → b ≡ a → GoesOn i a b
same_on i a b e = subst (GoesOn i a) (sym e) (stays_on i a)

-- FROM CONTRACTS

pub served : {V E : Type 0} (b : Bytes) (x : Held) (m : Memory) (r : Result V E) (y : Said Bytes Held) (n : Memory) → Serves b x m r y n → HerdAnswers b x m r y n
served b x m r y n s = herd_answers b x m r y n (finishing s.changed y.mind.home y) (y, s.changed, s.says, refl) s.follows

pub came_up : (i l : ℕ) (b : Agent) → l < 18446744073709551616 → ((a : Agent) → l ≡ a.life + 1 → b ≡ risen a) → ComesUp i l b
came_up i l b k f h g bs cs d w e q = subst (λ (x : Agent). Came (at h (set i (up x) g) bs cs)) (ap fresh q ∙ sym (f (fresh d) q)) (comes_up i l k h g bs cs d w e q)
