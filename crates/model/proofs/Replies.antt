-- A refusal leaves the state as it was; any other call leaves it too, or makes its own change, followed by one pass.
-- Assumes nothing.
use Rattle.std.proofs.Common.{◌≡◌, ℕ, cond, ◌⊎◌, List, [], ◌∷◌, ◌++◌, sym, refl, ap, subst, inl, inr}
use Rattle.model.specs.Lists.{find, change, none}
use Rattle.model.specs.State.{Name, Spec, Job, State, is_job, with_jobs}
use Rattle.model.specs.Settle.{settle}
use Rattle.model.specs.Calls.{Call, SetJob, EndJob, AddMachine, Close, Reopen, Forget, Report, Tick, Show, No, Out, new_job, reset_job_lem, does}
use Rattle.model.specs.Always.{entered, RefusalKeeps, TakesFew, AlwaysTakesFew}
use Rattle.model.proofs.Lists.{never}
use Rattle.model.proofs.Settles.{Fine}
use Rattle.model.proofs.Acts.{Must, does_is, fine_pre}
use Rattle.model.proofs.Least.{fine_takes_few}
use Rattle.model.proofs.Worlds.{inv_reach}

abbrev Refused : ℕ → State → Out → Type 0
Refused k s o = o.reply ≡ No k → o.state ≡ s

refused_must : (k : ℕ) (c : Call) (s : State) → Must (Refused k s) c s
refused_must k (SetJob n a c l m) s = (λ e q. never (cc), λ j js e q. never (cc))
refused_must k (EndJob n) s = λ q. never (cc)
refused_must k (AddMachine i c m tags) s = λ e q. never (cc)
refused_must k (Close i) s = λ q. never (cc)
refused_must k (Reopen i) s = λ q. never (cc)
refused_must k (Forget i) s = λ q. never (cc)
refused_must k (Report i l n xs) s = λ m ms e g q. never (cc)
refused_must k (Tick t) s = λ q. never (cc)
refused_must k (Show n) s = λ q. refl

pub refusal_keeps_lem : RefusalKeeps
refusal_keeps_lem c s k = does_is (Refused k s) c s (λ i q. refl) (refused_must k c s)

-- A CALL'S OWN CHANGE, AND THE PASS

abbrev Entered : Call → State → Out → Type 0
Entered c s o = (o.state ≡ s) ⊎ ((o.state ≡ settle (entered c s)) × Fine (entered c s))

-- what the pass begins in is what the call enters
enters : (c : Call) (s u : State) → u ≡ entered c s → Fine u → (settle u ≡ s) ⊎ ((settle u ≡ settle (entered c s)) × Fine (entered c s))
enters c s u e f = inr (ap settle e, subst Fine e f)

is_new_lem : (n : Name) (a : Spec) (c l m : ℕ) (s : State) → find (is_job n) s.jobs ≡ [] → with_jobs (s.jobs ++ (new_job n a c l m ∷ [])) s ≡ entered (SetJob n a c l m) s
unfolding entered none
is_new_lem n a c l m s e = ap (λ (xs : List Job). with_jobs (cond (none xs) (s.jobs ++ (new_job n a c l m ∷ [])) (change (is_job n) (reset_job_lem n a c l m) s.jobs)) s) (sym e)

is_reset : (n : Name) (a : Spec) (c l m : ℕ) (s : State) (j : Job) (js : List Job) → find (is_job n) s.jobs ≡ j ∷ js → with_jobs (change (is_job n) (reset_job_lem n a c l m) s.jobs) s ≡ entered (SetJob n a c l m) s
unfolding entered none
is_reset n a c l m s j js e = ap (λ (xs : List Job). with_jobs (cond (none xs) (s.jobs ++ (new_job n a c l m ∷ [])) (change (is_job n) (reset_job_lem n a c l m) s.jobs)) s) (sym e)

enters_must : (c : Call) (s : State) → Fine s → Must (Entered c s) c s
unfolding entered
enters_must (SetJob n a c l m) s f =
    let g = fine_pre (SetJob n a c l m) s f in
    (λ e. enters (SetJob n a c l m) s _ (is_new_lem n a c l m s e) (g.0 e), λ j js e. enters (SetJob n a c l m) s _ (is_reset n a c l m s j js e) (g.1 j js e))
enters_must (EndJob n) s f = enters (EndJob n) s _ refl (fine_pre (EndJob n) s f)
enters_must (AddMachine k c m tags) s f = λ e. enters (AddMachine k c m tags) s _ refl (fine_pre (AddMachine k c m tags) s f e)
enters_must (Close k) s f = enters (Close k) s _ refl (fine_pre (Close k) s f)
enters_must (Reopen k) s f = enters (Reopen k) s _ refl (fine_pre (Reopen k) s f)
enters_must (Forget k) s f = enters (Forget k) s _ refl (fine_pre (Forget k) s f)
enters_must (Report k l n xs) s f = λ m ms e q. enters (Report k l n xs) s _ refl (fine_pre (Report k l n xs) s f m ms e q)
enters_must (Tick t) s f = enters (Tick t) s _ refl (fine_pre (Tick t) s f)
enters_must (Show n) s f = inl refl

pub does_enters : (c : Call) (s : State) → Fine s → Entered c s (does c s)
does_enters c s f = does_is (Entered c s) c s (λ k. inl refl) (enters_must c s f)

pub always_takes_few_lem : AlwaysTakesFew
always_takes_few_lem w r c = elim (does_enters c w.herd (inv_reach r).sound.fine) [ inl e ↦ inl e | inr p ↦ inr (p.0, subst (λ (v : State). TakesFew (entered c w.herd) v) (sym p.0) (fine_takes_few (entered c w.herd) p.1)) ]
