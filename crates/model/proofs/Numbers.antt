-- Task numbers are given once: a task keeps its job, version and spec as long as it is there, and whoever is gone never comes back.
-- Assumes nothing.
use Rattle.std.proofs.Common.{◌≡◌, ℕ, ◌<◌, not, ◌⊎◌, List, sym, ap, ◌∙◌, subst, inl, inr, arith}
use Rattle.model.specs.State.{Job, Task, State, on_machine, with_tasks}
use Rattle.model.specs.Settle.{fresh, more, settle}
use Rattle.model.specs.Calls.{Call, SetJob, EndJob, AddMachine, Close, Reopen, Forget, Report, Tick, Show, later, does, down}
use Rattle.model.specs.World.{World}
use Rattle.model.specs.Always.{Later, SameNumber, NeverBack}
use Rattle.model.proofs.Lists.{In, in_from, in_to, in_end, Pass, pass_from}
use Rattle.model.proofs.Tasks.{rising_one}
use Rattle.model.proofs.Settles.{Fine}
use Rattle.model.proofs.Acts.{pre_both, Pre, does_keeps, fine_pre, fine_settle}
use Rattle.model.proofs.Kin.{Same, Any, heard_kin, keep_kin, timed_kin, down_kin, settle_keeps, step_herd}
use Rattle.model.proofs.Worlds.{Inv, inv_step, inv_reach}

-- A NUMBER THAT WAS GIVEN: it is below the next, and whoever is there by it is as P says

abbrev pub Given : ℕ → (Task → Type 0) → State → Type 0
Given i P s = (i < s.next_id) × ((u : Task) → In u s.tasks → u.id ≡ i → P u)

-- what P says of a task it says of it later, too
abbrev pub Lasts : (Task → Type 0) → Type 0
Lasts P = (x y : Task) → Same x y → P x → P y

module _ (i : ℕ) (P : Task → Type 0) (last : Lasts P) where
  given_tasks : (s : State) (ts : List Task) → Pass Any Same s.tasks ts → Given i P s → Given i P (with_tasks ts s)
  given_tasks s ts p h = (h.0, λ u j e. let f = pass_from Any Same p u j in let a = ap (λ (x : Task). x.id) f.4 ∙ f.3.0 in subst P (sym f.4) (last f.0 f.2 f.3 (h.1 f.0 f.1 (sym a ∙ e))))

  given_more : (j : Job) (s : State) → Given i P s → Given i P (more j s)
  given_more j s h = (let a = h.0 in omega arith, λ u k e. pick u e (in_end u (fresh j s.next_id) s.tasks k))
    where
      pick : (u : Task) → u.id ≡ i → In u s.tasks ⊎ (u ≡ fresh j s.next_id) → P u
      pick u e (inl k) = h.1 u k e
      pick u e (inr q) = let a : u.id ≡ s.next_id = ap (λ (x : Task). x.id) q in let b : i < s.next_id = h.0 in absurd (omega arith)

  given_settle : (s : State) → Fine s × Given i P s → Fine (settle s) × Given i P (settle s)
  given_settle s h = (fine_settle s h.0, settle_keeps (Given i P) given_tasks s (λ j k u t g q. given_more j u q) h.0.tidy h.1)

  given_pre : (c : Call) (s : State) → Given i P s → Pre (Given i P) c s
  given_pre (SetJob n a c l m) s h = (λ e. h, λ j js e. h)
  given_pre (EndJob n) s h = h
  given_pre (AddMachine k c m tags) s h = λ e. h
  given_pre (Close k) s h = h
  given_pre (Reopen k) s h = h
  given_pre (Forget k) s h = given_tasks s _ (keep_kin (λ (x : Task). not (on_machine k x)) s.tasks) h
  given_pre (Report k l n xs) s h = λ m ms e q. given_tasks s _ (heard_kin k l xs s.tasks) h
  given_pre (Tick t) s h = given_tasks s _ (timed_kin (later t s.now) s.machines s.tasks) h
  given_pre (Show n) s h = tt

  pub given_does : (c : Call) (s : State) → Fine s → Given i P s → Given i P (does c s).state
  given_does c s f h = (does_keeps (λ (u : State). Fine u × Given i P u) given_settle c s (f, h) (pre_both Fine (Given i P) c s (fine_pre c s f) (given_pre c s h))).1

  pub given_down : (s : State) → Given i P s → Given i P (down s)
  given_down s h = given_tasks s _ (down_kin s) h

  given_later : {w v : World} → Inv w → Later w v → Given i P w.herd → Inv v × Given i P v.herd
  given_later h Later.same g = (h, g)
  given_later h (Later.then l s) g =
      let r = given_later h l g in (inv_step r.0 s, step_herd (Given i P) (λ c u f q. given_does c u f.fine q) (λ u f q. given_down u q) s r.0.sound r.1)

-- IN EVERY RUN

abbrev Likeness : Task → Task → Type 0
Likeness t u = (u.job ≡ t.job) × (u.version ≡ t.version) × (u.spec ≡ t.spec)

pub same_number : SameNumber
same_number w v r l t u ti ui e = (given_later t.id (Likeness t) (λ x y p q. (p.2 ∙ q.0, p.3 ∙ q.1, p.1 ∙ q.2)) h l (f.tidy.1 t (in_from ti), mine)).1.1 u (in_from ui) e
  where
    h : Inv w
    h = inv_reach r

    f : Fine w.herd
    f = h.sound.fine

    mine : (x : Task) → In x w.herd.tasks → x.id ≡ t.id → Likeness t x
    mine x i q = let p = rising_one 0 w.herd.tasks f.tidy.0 x t i (in_from ti) q in (ap (λ (y : Task). y.job) p, ap (λ (y : Task). y.version) p, ap (λ (y : Task). y.spec) p)

pub never_back : NeverBack
never_back w u v r a b t ti lost x xi e = (given_later t.id (λ y. ⊥) (λ y z p q. q) m.0 b (m.1.0, λ y i q. lost y (in_to y u.herd.tasks i) q)).1.1 x (in_from xi) e
  where
    h : Inv w
    h = inv_reach r

    m : Inv u × Given t.id (λ y. Unit {0}) u.herd
    m = given_later t.id (λ y. Unit {0}) (λ y z p q. tt) h a (h.sound.fine.tidy.1 t (in_from ti), λ y i q. tt)
