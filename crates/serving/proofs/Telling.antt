-- From what code over a device followed to what that is to a server, to the run so far, and to what is meant.
-- Assumes nothing.
use Rattle.std.proofs.Common.{ℕ, Bool, List, ◌∷◌, Result, subst₂}
use Rattle.std.proofs.lemmas.Result.{MatchResult-weaker}
use Rattle.model.specs.Memory.{Memory, Doing, done, Meant, Happens, answered, asleep, awake}
use Rattle.model.specs.Ways.{Ways, RightWays, WaysRun}
use Rattle.device.specs.Follows.{Ended, Follows, FollowsTo}
use Rattle.device.specs.Halves.{wakening}
use Rattle.device.specs.Service.{Said, keeping, finishing}
use Rattle.device.specs.Server.{Server, ways_of}
use Rattle.serving.specs.Told.{GoesOn, DoesSo}
use Rattle.device.proofs.Doings.{leads_here, leads_part, leads_part_cut, leads_done}

-- A CALL: once the words are kept the answer is handed on
pub finished : {A E : Type 0} (b : Bool) (h : List ℕ) (a : A) (m n : Memory) (r : Result (Unit {0}) E) → Follows (keeping b h) m r (tt {0}) n → FollowsTo (finishing b h a) m r (λ _. a) n
finished b h a m n r k =
    MatchResult-weaker r k
    (λ _ e. leads_done a (leads_part (λ _. done a) (leads_here (finishing b h a) m) e))
    (λ _ w. leads_part_cut (λ _. done a) (leads_here (finishing b h a) m) w)

-- WAKING
pub woken : {C R X : Type 0} (v : Server C R X) (h : List ℕ) (m : Memory) → Ended (wakening v.size) m h m → Ended (ways_of v).wakes m (v.wake_of h) m
woken v h m e = leads_done (v.wake_of h) (leads_part (λ ws. done (v.wake_of ws)) (leads_here (ways_of v).wakes m) e)

pub runs_woken : {C R : Type 0} (e : Ways C R) (m : Memory) (x : e.Mind) (n : Memory) → Ended e.wakes m x n → (es : List (Happens C R)) → WaysRun e es (asleep m) → WaysRun e es (awake x n)
runs_woken e m x n k es r = subst₂ (λ (y : e.Mind) (o : Memory). WaysRun e es (awake y o)) k.comes k.left (WaysRun.wakes r)

pub awakes : {C R : Type 0} (e : Ways C R) (j : Meant C R) (T : Memory → j.State → Type 0) (A : e.Mind → Memory → j.State → Type 0) → RightWays j e T A → (m : Memory) (x : e.Mind) (n : Memory) → Ended e.wakes m x n → (s : j.State) → T m s → A x n s
awakes e j T A right m x n k s t = subst₂ (λ (y : e.Mind) (o : Memory). A y o s) k.comes k.left (right.wakes m s t).1

-- TO THE RUN, and to what is meant
module _ {C R V E : Type 0} (e : Ways C R) (c : C) (x : e.Mind) (m : Memory) (r : Result V E) (y : Said R e.Mind) (n : Memory) (d : Doing (Said R e.Mind)) (way : e.Does c x d) (follows : FollowsTo d m r (λ _. y) n) where
  pub goes_on : GoesOn e c x m r y n
  goes_on es run =
      MatchResult-weaker r follows
      (λ _ k. subst₂ (λ (z : Said R e.Mind) (o : Memory). WaysRun e (answered c z.reply ∷ es) (awake z.mind o)) k.comes k.left (WaysRun.does c d way run))
      (λ _ h. WaysRun.is_cut c d way run h)

  pub does_so : (j : Meant C R) (T : Memory → j.State → Type 0) (A : e.Mind → Memory → j.State → Type 0) → RightWays j e T A → DoesSo j e T A c x m r y n
  does_so j T A right s a =
      MatchResult-weaker r follows
      (λ _ k. subst₂ (λ (z : Said R e.Mind) (o : Memory). (t : j.State) × j.May c s z.reply t × A z.mind o t) k.comes k.left (right.answers x m s c d a way).1)
      (λ _ h. right.cut_answering x m n s c d a way h)
