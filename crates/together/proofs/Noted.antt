-- Each job was set as it is by a line that came; and a job of which there are tasks is there, if no line ended it.
-- Assumes nothing.
use Rattle.std.proofs.Common.{◌≡◌, ℕ, Bool, true, false, cond, not, ◌⊎◌, List, [], ◌∷◌, ◌++◌, Some, None, Option, sym, refl, ap, ◌∙◌, subst, inl, inr}
use Rattle.std.proofs.lemmas.Bool.{cond_both}
use Rattle.model.specs.Lists.{keep, find, change, none}
use Rattle.model.specs.State.{Name, Job, Task, State, is_job, on_machine}
use Rattle.model.specs.Settle.{fresh, more, settle}
use Rattle.model.specs.Calls.{Call, SetJob, EndJob, AddMachine, Close, Reopen, Forget, Report, Tick, Show, Order, Line, Reply, No, Yes, Run, Lines, new_job, reset_job_lem, later, does, down}
use Rattle.model.specs.Wire.{Bytes, garbled, meant, kind_of, Answer, Refused, Done, Runs, Shown, answer_bytes, answer_to}
use Rattle.model.specs.Answers.{read_answer_lem}
use Rattle.model.specs.Lines.{core_kind, framed, tag_in, call_in, answer_line, bytes_say, line_leaves}
use Rattle.model.specs.Always.{entered, Spares}
use Rattle.model.proofs.Lists.{never, bool, In, in_from, in_to, in_end, in_left, in_keep, keep_in, Pass, pass_from, pass_change}
use Rattle.model.proofs.Tasks.{same_eq}
use Rattle.model.proofs.Settles.{unplaced_alike, Fine}
use Rattle.model.proofs.Kin.{Same, Any, heard_kin, keep_kin, timed_kin, down_kin, settle_keeps}
use Rattle.model.proofs.Keeps.{Sound}
use Rattle.model.proofs.Replies.{refusal_keeps_lem, does_enters}
use Rattle.model.proofs.Most.{FitIn, fit_does, fit_down}
use Rattle.together.specs.Real.{Heard, heard}
use Rattle.together.specs.Now.{NotRefused, SetsTo, Ends, Unlowered}
use Rattle.together.proofs.Says.{Outcome, outcome}
use Rattle.together.proofs.Bearing.{call_framed}

-- WHAT IS ANSWERED BY NO REFUSAL is not read as one
runs_only : (b : Bool) (i l n : ℕ) (os : List Order) (k : ℕ) → cond b (meant (Runs i l n os)) garbled ≡ meant (Refused k) → ⊥
runs_only true i l n os k q = never (cc)
runs_only false i l n os k q = never (cc)

shown_only : (b : Bool) (ls : List Line) (k : ℕ) → cond b (meant (Shown ls)) garbled ≡ meant (Refused k) → ⊥
shown_only true ls k q = never (cc)
shown_only false ls k q = never (cc)

unrefused : (x : Answer) → ((k : ℕ) → x ≡ Refused k → ⊥) → (k : ℕ) → read_answer_lem (answer_bytes x) ≡ meant (Refused k) → ⊥
unrefused (Refused j) f k e = f j refl
unrefused Done f k e = never (cc)
unrefused (Runs i l n os) f k e = runs_only _ _ _ _ _ k e
unrefused (Shown ls) f k e = shown_only _ _ k e

not_refused : (tag : ℕ) (x : Answer) → ((k : ℕ) → x ≡ Refused k → ⊥) → (k : ℕ) → read_answer_lem (call_in (framed tag (answer_bytes x))) ≡ meant (Refused k) → ⊥
not_refused tag x f k e = pick (call_framed tag (answer_bytes x))
  where
    pick : (call_in (framed tag (answer_bytes x)) ≡ answer_bytes x) ⊎ (call_in (framed tag (answer_bytes x)) ≡ []) → ⊥
    pick (inl q) = unrefused x f k (sym (ap read_answer_lem q) ∙ e)
    pick (inr q) = let z : garbled ≡ meant (Refused k) = sym (ap read_answer_lem q) ∙ e in never (cc)

-- a job that was set by a line that came
abbrev pub SetIn : Name → List Heard → List Job → Type 0
SetIn n hs js = (j : Job) → In j js → j.name ≡ n → (p : Heard) × In p hs × SetsTo n j.most p

-- tasks of a job that is there
abbrev pub Owned : Name → List Job → List Task → Type 0
Owned n js ts = (t : Task) → In t ts → t.job ≡ n → (j : Job) × In j js × (j.name ≡ n)

abbrev pub Unended : Name → List Heard → Type 0
Unended n hs = (p : Heard) → In p hs → Ends n p → ⊥

owned_pass : (n : Name) (js : List Job) (xs ys : List Task) → Pass Any Same xs ys → Owned n js xs → Owned n js ys
owned_pass n js xs ys p h t i q = let f = pass_from Any Same p t i in h f.0 f.1 (sym (ap (λ (x : Task). x.job) f.4 ∙ f.3.2) ∙ q)

owned_settle : (n : Name) (s : State) → Fine s → Owned n s.jobs s.tasks → Owned n s.jobs (settle s).tasks
owned_settle n s f h = settle_keeps (λ (u : State). Owned n s.jobs u.tasks) (λ u ts p q. owned_pass n s.jobs u.tasks ts p q) s (λ j i u t g q. anew j i u q) f.tidy h
  where
    anew : (j : Job) → In j s.jobs → (u : State) → Owned n s.jobs u.tasks → Owned n s.jobs (more j u).tasks
    anew j i u q t ti e = elim (in_end t (fresh j u.next_id) u.tasks ti) [ inl m ↦ q t m e | inr z ↦ (j, i, sym (ap (λ (x : Task). x.job) z) ∙ e) ]

change_to : {A : Type 0} (f : A → Bool) (g : A → A) (xs : List A) (x : A) → In x xs → In x (change f g xs) ⊎ ((f x ≡ true) × In (g x) (change f g xs))
unfolding change
change_to f g [] x i = absurd i
change_to {A} f g (y ∷ ys) x i = pick (f y) refl i (λ j. change_to f g ys x j)
  where
    pick : (b : Bool) → f y ≡ b → (x ≡ y) ⊎ In x ys → (In x ys → In x (change f g ys) ⊎ ((f x ≡ true) × In (g x) (change f g ys))) → In x (cond b (g y ∷ ys) (y ∷ change f g ys)) ⊎ ((f x ≡ true) × In (g x) (cond b (g y ∷ ys) (y ∷ change f g ys)))
    pick true e (inl q) r = inr (ap f q ∙ e, inl (ap g q))
    pick true e (inr j) r = inl (inr j)
    pick false e (inl q) r = inl (inl q)
    pick false e (inr j) r = elim (r j) [ inl h ↦ inl (inr h) | inr h ↦ inr (h.0, inr h.1) ]

-- WHAT A CALL ITSELF CHANGES
module _ (n : Name) (hs : List Heard) (h : Heard) (s : State) where
  -- it sets the job of that name
  abbrev ByCall : Call → Type 0
  ByCall (SetJob x a c l m) = x ≡ n → SetsTo n m h
  ByCall (EndJob x) = x ≡ n → Ends n h
  ByCall (AddMachine k c m t) = Unit {0}
  ByCall (Close k) = Unit {0}
  ByCall (Reopen k) = Unit {0}
  ByCall (Forget k) = Unit {0}
  ByCall (Report k l i xs) = Unit {0}
  ByCall (Tick t) = Unit {0}
  ByCall (Show x) = Unit {0}

  set_more : (js : List Job) → SetIn n hs js → SetIn n (h ∷ hs) js
  set_more js f j i e = let p = f j i e in (p.0, inr p.1, p.2)

  set_entered : (c : Call) → ByCall c → SetIn n hs s.jobs → SetIn n (h ∷ hs) (entered c s).jobs
  unfolding entered
  set_entered (SetJob x a c l m) b f = cond_both (none (find (is_job x) s.jobs)) _ _ (λ (js : List Job). SetIn n (h ∷ hs) js) (λ _. added) (λ _. reset)
    where
      this : (j : Job) → j.name ≡ x → j.most ≡ m → j.name ≡ n → (p : Heard) × In p (h ∷ hs) × SetsTo n j.most p
      this j e q r = (h, inl refl, subst (λ (k : ℕ). SetsTo n k h) (sym q) (b (sym e ∙ r)))

      added : SetIn n (h ∷ hs) (s.jobs ++ (new_job x a c l m ∷ []))
      added j i e = elim (in_end j (new_job x a c l m) s.jobs i) [ inl k ↦ set_more s.jobs f j k e | inr z ↦ this j (ap (λ (y : Job). y.name) z) (ap (λ (y : Job). y.most) z) e ]

      R : Job → Job → Type 0
      R y z = (z ≡ y) ⊎ (z ≡ reset_job_lem x a c l m y)

      reset : SetIn n (h ∷ hs) (change (is_job x) (reset_job_lem x a c l m) s.jobs)
      reset j i e = let p = pass_from (λ y. ⊥) R (pass_change (λ y. ⊥) R (is_job x) (reset_job_lem x a c l m) s.jobs (λ y k. inl refl) (λ y k q. inr refl)) j i in pick p.0 p.2 p.1 p.3 p.4
        where
          pick : (y z : Job) → In y s.jobs → R y z → j ≡ z → (p : Heard) × In p (h ∷ hs) × SetsTo n j.most p
          pick y z k (inl q) d = set_more s.jobs f j (subst (λ (v : Job). In v s.jobs) (sym (d ∙ q)) k) e
          pick y z k (inr q) d = this j (ap (λ (v : Job). v.name) (d ∙ q)) (ap (λ (v : Job). v.most) (d ∙ q)) e
  set_entered (EndJob x) b f = λ j i e. set_more s.jobs f j (in_keep (λ (y : Job). not (is_job x y)) s.jobs j i).0 e
  set_entered (AddMachine k c m t) b f = set_more s.jobs f
  set_entered (Close k) b f = set_more s.jobs f
  set_entered (Reopen k) b f = set_more s.jobs f
  set_entered (Forget k) b f = set_more s.jobs f
  set_entered (Report k l i xs) b f = set_more s.jobs f
  set_entered (Tick t) b f = set_more s.jobs f
  set_entered (Show x) b f = set_more s.jobs f

  owned_entered : (c : Call) → ByCall c → (Ends n h → ⊥) → Owned n s.jobs s.tasks → Owned n (entered c s).jobs (entered c s).tasks
  unfolding entered
  owned_entered (SetJob x a c l m) b u f = cond_both (none (find (is_job x) s.jobs)) _ _ (λ (js : List Job). Owned n js s.tasks) (λ _. added) (λ _. reset)
    where
      added : Owned n (s.jobs ++ (new_job x a c l m ∷ [])) s.tasks
      added t i e = let p = f t i e in (p.0, in_left s.jobs (new_job x a c l m) p.0 p.1, p.2)

      reset : Owned n (change (is_job x) (reset_job_lem x a c l m) s.jobs) s.tasks
      reset t i e =
          let p = f t i e in
          elim (change_to (is_job x) (reset_job_lem x a c l m) s.jobs p.0 p.1) [ inl y ↦ (p.0, y, p.2) | inr y ↦ (reset_job_lem x a c l m p.0, y.1, same_eq x p.0.name y.0 ∙ p.2) ]
  owned_entered (EndJob x) b u f = λ t i e. let p = f t i e in kept p.0 p.1 p.2 (bool (is_job x p.0))
    where
      kept : (j : Job) → In j s.jobs → j.name ≡ n → (is_job x j ≡ true) ⊎ (is_job x j ≡ false) → (k : Job) × In k (keep (λ (y : Job). not (is_job x y)) s.jobs) × (k.name ≡ n)
      kept j i e (inl q) = absurd (u (b (same_eq x j.name q ∙ e)))
      kept j i e (inr q) = (j, keep_in (λ (y : Job). not (is_job x y)) s.jobs j i (ap not q), e)
  owned_entered (AddMachine k c m t) b u f = f
  owned_entered (Close k) b u f = f
  owned_entered (Reopen k) b u f = f
  owned_entered (Forget k) b u f = owned_pass n s.jobs _ _ (keep_kin (λ (x : Task). not (on_machine k x)) s.tasks) f
  owned_entered (Report k l i xs) b u f = owned_pass n s.jobs _ _ (heard_kin k l xs s.tasks) f
  owned_entered (Tick t) b u f = owned_pass n s.jobs _ _ (timed_kin (later t s.now) s.machines s.tasks) f
  owned_entered (Show x) b u f = f

-- ALL OF IT, of the job of a name
pub record Noted (n : Name) (hs : List Heard) (s : State) : Type 0 where
  pub set : SetIn n hs s.jobs
  pub owned : Unended n hs → Owned n s.jobs s.tasks
  pub fit : Unlowered n hs → FitIn n s

pub noted_more : (n : Name) (hs : List Heard) (h : Heard) (s : State) → Noted n hs s → Noted n (h ∷ hs) s
noted_more n hs h s k = record { set = set_more n hs h s s.jobs k.set; owned = λ u. k.owned (λ p i. u p (inr i)); fit = λ u. k.fit u.1 }

pub noted_down : (n : Name) (hs : List Heard) (s : State) → Noted n hs s → Noted n hs (down s)
noted_down n hs s k = record { set = k.set; owned = λ u. owned_pass n s.jobs s.tasks (down s).tasks (down_kin s) (k.owned u); fit = λ u. fit_down n s (k.fit u) }

-- a call that was not refused
noted_does : (n : Name) (hs : List Heard) (h : Heard) (s : State) (c : Call) → Fine s → ByCall n hs h s c → Noted n hs s → Noted n (h ∷ hs) (does c s).state
noted_does n hs h s c f b k = record { set = parts.0; owned = parts.1; fit = λ u. fit_does n c s f (k.fit u.1) (spares u c b) }
  where
    Parts : State → Type 0
    Parts t = SetIn n (h ∷ hs) t.jobs × (Unended n (h ∷ hs) → Owned n t.jobs t.tasks)

    after : Fine (entered c s) → Parts (settle (entered c s))
    after g =
        let a = set_entered n hs h s c b k.set in
        let o : Unended n (h ∷ hs) → Owned n (entered c s).jobs (settle (entered c s)).tasks = λ u. owned_settle n (entered c s) g (owned_entered n hs h s c b (u h (inl refl)) (k.owned (λ p i. u p (inr i)))) in
        subst (λ (js : List Job). SetIn n (h ∷ hs) js × (Unended n (h ∷ hs) → Owned n js (settle (entered c s)).tasks)) (sym (unplaced_alike (entered c s)).2) (a, o)

    parts : Parts (does c s).state
    parts = elim (does_enters c s f) [ inl e ↦ subst Parts (sym e) (let m = noted_more n hs h s k in (m.set, m.owned)) | inr p ↦ subst Parts (sym p.0) (after p.1) ]

    spares : Unlowered n (h ∷ hs) → (d : Call) → ByCall n hs h s d → Spares n d s
    spares u (SetJob x a q l m) y = λ e r. (λ j i z. let p = k.set j (in_from i) z in (u.0 m (y e) p.0 (in_to p.0 hs p.1)).0 j.most p.2, λ t i z. let p = k.owned (λ p i'. (u.0 m (y e) p (in_to p hs i')).1) t (in_from i) z in (p.0, in_to p.0 s.jobs p.1, p.2))
    spares u (EndJob x) y = tt
    spares u (AddMachine i q m t) y = tt
    spares u (Close i) y = tt
    spares u (Reopen i) y = tt
    spares u (Forget i) y = tt
    spares u (Report i l q xs) y = tt
    spares u (Tick t) y = tt
    spares u (Show x) y = tt

-- A LINE
pub noted_says : (n : Name) (hs : List Heard) (s : State) (b : Bytes) (r : Option Bytes) → (r ≡ None) ⊎ (r ≡ Some (answer_line core_kind b s)) → Sound s → Noted n hs s → Noted n (heard b r ∷ hs) (line_leaves core_kind b s)
noted_says n hs s b r w f k = pick (outcome (call_in b) s)
  where
    h : Heard
    h = heard b r

    pick : Outcome (call_in b) s (bytes_say core_kind (call_in b) s) → Noted n (h ∷ hs) (line_leaves core_kind b s)
    pick (Outcome.quiet x a t) = subst (Noted n (h ∷ hs)) (sym t) (noted_more n hs h s k)
    pick (Outcome.done c e y a t) = subst (Noted n (h ∷ hs)) (sym t) (reply (does c s).reply refl)
      where
        -- what it was answered, where that is known, is no refusal
        heard_so : ((i : ℕ) → (bytes_say core_kind (call_in b) s).answer ≡ Refused i → ⊥) → NotRefused r
        heard_so z = elim w [ inl q ↦ subst NotRefused (sym q) tt | inr q ↦ subst NotRefused (sym q) (not_refused (tag_in b) (bytes_say core_kind (call_in b) s).answer z) ]

        by_call : (d : Call) → c ≡ d → (v : Reply) → (does c s).reply ≡ v → ((i : ℕ) → v ≡ No i → ⊥) → ByCall n hs h s d
        by_call (SetJob x p q l m) g v o z = λ j. (p, q, l, e ∙ ap meant g ∙ ap (λ (y' : Name). meant (SetJob y' p q l m)) j, heard_so (λ i' u. answer v z i' (sym (a ∙ ap (λ (d : Call). answer_to d (does c s).reply) g ∙ ap (answer_to (SetJob x p q l m)) o) ∙ u)))
          where
            answer : (v : Reply) → ((i : ℕ) → v ≡ No i → ⊥) → (i : ℕ) → answer_to (SetJob x p q l m) v ≡ Refused i → ⊥
            answer (No i) z j u = z i refl
            answer Yes z j u = never (cc)
            answer (Run i os) z j u = never (cc)
            answer (Lines ls) z j u = never (cc)
        by_call (EndJob x) g v o z = λ j. (e ∙ ap meant g ∙ ap (λ (y' : Name). meant (EndJob y')) j, sym (ap (λ (d : Call). core_kind (kind_of d)) g) ∙ y)
        by_call (AddMachine i q m t) g v o z = tt
        by_call (Close i) g v o z = tt
        by_call (Reopen i) g v o z = tt
        by_call (Forget i) g v o z = tt
        by_call (Report i l q xs) g v o z = tt
        by_call (Tick i) g v o z = tt
        by_call (Show x) g v o z = tt

        reply : (v : Reply) → (does c s).reply ≡ v → Noted n (h ∷ hs) (does c s).state
        reply (No i) o = subst (Noted n (h ∷ hs)) (sym (refusal_keeps_lem c s i o)) (noted_more n hs h s k)
        reply Yes o = noted_does n hs h s c f.fine (by_call c refl Yes o (λ i u. never (cc))) k
        reply (Run q os) o = noted_does n hs h s c f.fine (by_call c refl (Run q os) o (λ i u. never (cc))) k
        reply (Lines ls) o = noted_does n hs h s c f.fine (by_call c refl (Lines ls) o (λ i u. never (cc))) k
