-- From what code over a device followed to what that is to a service, to the run so far, and to what is meant.
-- Assumes nothing.
use Rattle.std.proofs.Common.{◌≡◌, ℕ, Bool, List, ◌∷◌, Result, sym, ap, ◌∙◌, subst, subst₂}
use Rattle.std.proofs.lemmas.Result.{MatchResult-weaker}
use Rattle.model.specs.Memory.{Memory, Doing, done, comes_to, leaves, Code, Meant, answered, Run, asleep, awake, Halfway}
use Rattle.model.specs.Right.{RightBy}
use Rattle.device.specs.Follows.{Ended, FollowsTo}
use Rattle.device.specs.Halves.{wakening}
use Rattle.device.specs.Service.{Said, Service, keeping, finishing, waking, answering}
use Rattle.device.specs.Told.{GoesOn, DoesSo, Runs}
use Rattle.device.proofs.Doings.{comes_to_then, leaves_then, leads_here, leads_part, leads_part_cut, leads_done, halfway_before}

-- what is handed on is what was given, and it is handed on where the words are kept
finishing_comes : {A : Type 0} (b : Bool) (h : List ℕ) (a : A) (m : Memory) → comes_to (finishing b h a) m ≡ a
unfolding comes_to
finishing_comes b h a m = comes_to_then (keeping b h) (λ _. done a) m

finishing_leaves : {A : Type 0} (b : Bool) (h : List ℕ) (a : A) (m : Memory) → leaves (finishing b h a) m ≡ leaves (keeping b h) m
unfolding leaves
finishing_leaves b h a m = leaves_then (keeping b h) (λ _. done a) m

-- A CALL of a service: in memory it said f a and changed its mind, b tells whether home words may have changed, and these are h now
module _ {C R X V : Type 0} (v : Service C R X) (c : C) (x : X) (f : V → R) (a : V) (mind : X) (is : v.says c x ≡ record { reply = f a; mind = mind }) (b : Bool) (is_b : v.keeps c x ≡ b) (h : List ℕ) (isH : v.home_of mind ≡ h) where
  same : answering v c x ≡ finishing b h (v.says c x)
  same =
      ap (λ (k : Bool). finishing k (v.home_of (v.says c x).mind) (v.says c x)) is_b ∙
      ap (λ (ws : List ℕ). finishing b ws (v.says c x)) (ap (λ (y : Said R X). v.home_of y.mind) is ∙ isH)

  -- then to finish is to follow the service's code
  pub finished : {E : Type 0} (m n : Memory) (r : Result V E) → FollowsTo (finishing b h a) m r (λ z. z) n → FollowsTo (answering v c x) m r (λ z. record { reply = f z; mind = mind }) n
  finished m n r k =
      MatchResult-weaker r k
      (λ z e.
      let at : a ≡ z = sym (finishing_comes b h a m) ∙ e.comes in
      record {
        comes = ap (λ (p : Doing (Said R X)). comes_to p m) same ∙ finishing_comes b h (v.says c x) m ∙ is ∙ ap (λ (y : V). record { reply = f y; mind = mind }) at;
        left = ap (λ (p : Doing (Said R X)). leaves p m) same ∙ finishing_leaves b h (v.says c x) m ∙ sym (finishing_leaves b h a m) ∙ e.left;
      })
      (λ _ w. subst (λ (p : Doing (Said R X)). Halfway p m n) (sym same) (leads_part_cut (λ _. done (v.says c x)) (leads_here (finishing b h (v.says c x)) m) (halfway_before (keeping b h) (λ _. a) m n w)))

-- WAKING of a service
pub woken : {C R X : Type 0} (v : Service C R X) (h : List ℕ) (m : Memory) → Ended (wakening v.size) m h m → Ended (waking v) m (v.wake_of h) m
woken v h m e = leads_done (v.wake_of h) (leads_part (λ ws. done (v.wake_of ws)) (leads_here (waking v) m) e)

-- TO THE RUN, and to what is meant
module _ {C R V E : Type 0} (e : Code C R) (c : C) (x : e.Mind) (m : Memory) (r : Result V E) (f : V → Said R e.Mind) (n : Memory) (follows : FollowsTo (e.does c x) m r f n) where
  pub goes_on : GoesOn e c x m r f n
  goes_on es run =
      MatchResult-weaker r follows
      (λ v k. subst₂ (λ (y : Said R e.Mind) (o : Memory). Run e (answered c y.reply ∷ es) (awake y.mind o)) k.comes k.left (Run.does c run))
      (λ _ h. Run.is_cut c run h)

  pub does_so : (j : Meant C R) (T : Memory → j.State → Type 0) (A : e.Mind → Memory → j.State → Type 0) → RightBy j e T A → DoesSo j e T A c x m r f n
  does_so j T A right s a =
      MatchResult-weaker r follows
      (λ v k. subst₂ (λ (y : Said R e.Mind) (o : Memory). (t : j.State) × j.May c s y.reply t × A y.mind o t) k.comes k.left (right.answers x m s c a).1)
      (λ _ h. right.cut_answering x m n s c a h)

pub runs_woken : {C R : Type 0} (e : Code C R) (m : Memory) (x : e.Mind) (n : Memory) → Ended e.wakes m x n → Runs e (asleep m) → Runs e (awake x n)
runs_woken e m x n k r = (r.0, subst₂ (λ (y : e.Mind) (o : Memory). Run e r.0 (awake y o)) k.comes k.left (Run.wakes r.1))
