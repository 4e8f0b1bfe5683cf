-- In every world that is reached the herd's state is orderly.
-- Assumes nothing.
use Rattle.std.proofs.Common.{◌≡◌, ℕ, ◌+◌, ◌<◌, ◌≤◌, Bool, true, false, cond, not, ◌&&◌, ◌||◌, eqb, ltb, leb, ◌⊎◌, List, [], ◌∷◌, ◌++◌, map, length, sym, refl, ap, ◌∙◌, subst, inl, inr, le_trans, arith}
use Rattle.std.proofs.lemmas.Bool.{true≢false, and_parts, or_cases, not-true, ltb-true, ltb-false, leb-true, eqb-true, cond_both}
use Rattle.model.specs.State.{Name, Machine, Spec, Job, Phase, Told, Ready, Task, State, is_ready_lem, is_ending, is_job, on_machine, phased, with_jobs}
use Rattle.model.specs.Lists.{some, keep, find, change, same}
use Rattle.model.specs.Calls.{Seen, Call, SetJob, EndJob, AddMachine, Close, Reopen, Forget, Report, Tick, Show, Out, no, alike, same_spec_lem, job_ok, all_most, others, sets_job, seen_as, heard_of_lem, heard_all, unsure, later, timed, acts, is_tick, does, down, new_job, reset_job_lem, heard, forgotten}
use Rattle.model.specs.World.{World, Step, Reach}
use Rattle.rest.specs.Rest.{is_alive}
use Rattle.rest.proofs.Stuck.{Lawful}
use Rattle.model.proofs.Lists.{clash, bool, In, in_end, in_keep, keep_yes, keep_no, find_none, some_at, Pass, done, gone, goes, pass_from, pass_keep, pass_change, pass_map, pass_weaken, Once}
use Rattle.model.proofs.Tasks.{same_eq, eq_same, Never}
use Rattle.model.proofs.Acts.{does_is, fine_heard, fine_timed, fine_pre, fine_down}
use Rattle.rest.proofs.Steps.{keep_all}
use Rattle.rest.proofs.Falls.{Wanted, ready_alive}
use Rattle.rest.proofs.Knows.{unsured, unsured_as, Steady}
use Rattle.rest.proofs.Laws.{Like, Laws, Kempt, kempt_settle}

-- CALLS

-- tasks go on as the same, no more alive than before
abbrev As : Task → Task → Type 0
As x y = (y.job ≡ x.job) × (y.version ≡ x.version) × (y.spec ≡ x.spec) × (is_alive y ≡ true → is_alive x ≡ true)

laws_pass : (D : Task → Type 0) (s u : State) → u.jobs ≡ s.jobs → Pass D As s.tasks u.tasks → Laws s → Laws u
laws_pass D s u e p f =
    record {
      lawful = λ j i. f.lawful j (subst (λ (js : List Job). In j js) e i);
      mosts = subst (λ (js : List Job). all_most js ≤ 2048) (sym e) f.mosts;
      like = λ t j i k n a. let w = pass_from D As p t i in let r = w.3 in let d = w.4 in
          let l = f.like w.0 j w.1 (subst (λ (js : List Job). In j js) e k) (n ∙ (ap (λ (z : Task). z.job) d ∙ r.0)) (not-true _ (r.3 (sym (ap is_alive d) ∙ ap not a))) in
          let v : t.version ≡ w.0.version = ap (λ (z : Task). z.version) d ∙ r.1 in
          (subst (λ (x : ℕ). x ≤ j.version) (sym v) l.0, λ q. (ap (λ (z : Task). z.spec) d ∙ r.2) ∙ l.1 (sym v ∙ q));
    }

as_eq : (x y : Task) → y ≡ x → As x y
as_eq x y e = (ap (λ (t : Task). t.job) e, ap (λ (t : Task). t.version) e, ap (λ (t : Task). t.spec) e, λ q. sym (ap is_alive e) ∙ q)

as_phase : (x y : Task) (p : Phase) → is_ending x.phase ≡ false → y ≡ phased p x → As x y
as_phase x y p a e = (ap (λ (t : Task). t.job) e, ap (λ (t : Task). t.version) e, ap (λ (t : Task). t.spec) e, λ q. ap not a)

abbrev Any : Task → Type 0
Any x = Unit {0}

heard_as : (k l : ℕ) (xs : List Seen) (ts : List Task) → Pass Any As ts (heard_all k l xs ts)
unfolding heard_all heard_of_lem
heard_as k l xs [] = done
heard_as k l xs (t ∷ ts) = pick (on_machine k t) (eqb l t.life) (heard_as k l xs ts)
  where
    P : List Task → List Task → Type 0
    P = Pass Any As

    seen : (ss : List Seen) (b : Bool) → is_ending t.phase ≡ b → P ts (heard_all k l xs ts) → P (t ∷ ts) (heard_of_lem ss t ++ heard_all k l xs ts)
    seen [] true f r = rw f (gone tt r)
    seen [] false f r = rw f (goes (as_phase t _ Told f refl) r)
    seen (x ∷ ss) true f r = rw f (goes (as_eq t t refl) r)
    seen (x ∷ ss) false f r = rw f (goes (as_phase t _ (cond x.ready Ready Told) f refl) r)

    pick : (a b : Bool) → P ts (heard_all k l xs ts) → P (t ∷ ts) (cond a (cond b (heard_of_lem (seen_as t.id xs) t ++ heard_all k l xs ts) (heard_all k l xs ts)) (t ∷ heard_all k l xs ts))
    pick true true r = seen (seen_as t.id xs) (is_ending t.phase) refl r
    pick true false r = gone tt r
    pick false b r = goes (as_eq t t refl) r

-- setting a job

alike_eq : (a b : Bool) → alike a b ≡ true → a ≡ b
unfolding alike
alike_eq true b e = sym e
alike_eq false b e = sym (not-true b e)

same_spec : (a b : Spec) → same_spec_lem a b ≡ true → a ≡ b
same_spec a b e =
    let p = and_parts _ _ e in let q = and_parts _ _ p.0 in let r = and_parts _ _ q.0 in let s = and_parts _ _ r.0 in
    let i = eqb-true a.image b.image s.0 in let c = eqb-true a.cpu b.cpu s.1 in let m = eqb-true a.mem b.mem r.1 in let t = same_eq a.tags b.tags q.1 in let h = alike_eq a.apart b.apart p.1 in
    λ k. record { image = i k; cpu = c k; mem = m k; tags = t k; apart = h k }

job_lawful : (n : Name) (a : Spec) (c l m : ℕ) → job_ok n a c l m ≡ true → (l ≤ c) × (c ≤ m) × ((c < m) ⊎ ((l < c) ⊎ (c ≡ 0)))
job_lawful n a c l m e =
    let p = and_parts _ _ e in let q = and_parts _ _ p.0 in let r = and_parts _ _ q.0 in let s = and_parts _ _ r.0 in
    (leb-true l c s.1, leb-true c m r.1, pick (or_cases _ _ p.1))
  where
    pick : (ltb c m || ltb l c ≡ true) ⊎ (eqb c 0 ≡ true) → (c < m) ⊎ ((l < c) ⊎ (c ≡ 0))
    pick (inr z) = inr (inr (eqb-true c 0 z))
    pick (inl z) = elim (or_cases _ _ z) [ inl x ↦ inl (ltb-true c m x) | inr x ↦ inr (inl (ltb-true l c x)) ]

most_none : all_most [] ≤ 2048
unfolding all_most
most_none = omega arith

most_end : (js : List Job) (j : Job) → all_most (js ++ (j ∷ [])) ≡ all_most js + j.most
unfolding all_most
most_end [] j = omega arith
most_end (k ∷ ks) j = let i : all_most (ks ++ (j ∷ [])) ≡ all_most ks + j.most = most_end ks j in omega arith

most_change : (js : List Job) → Once (λ (a b : Job). same a.name b.name) js → (n : Name) (g : Job → Job) (m : ℕ) → ((x : Job) → (g x).most ≡ m) → all_most (change (is_job n) g js) ≤ m + all_most (others n js)
unfolding all_most change
most_change [] o n g m h = omega arith
most_change (j ∷ js) o n g m h = pick (is_job n j) refl (most_change js o.1 n g m h)
  where
    q : Job → Bool
    q x = not (is_job n x)

    rest : is_job n j ≡ true → keep q js ≡ js
    rest e = keep_all q js (λ x i. elim (bool (is_job n x)) [ inl p ↦ clash (same j.name x.name) (eq_same _ _ (sym (same_eq n j.name e) ∙ same_eq n x.name p)) (o.0 x i) | inr p ↦ ap not p ])

    pick : (b : Bool) → is_job n j ≡ b → all_most (change (is_job n) g js) ≤ m + all_most (keep q js) → all_most (cond b (g j ∷ js) (j ∷ change (is_job n) g js)) ≤ m + all_most (keep q (j ∷ js))
    pick true e i = let a : (g j).most ≡ m = h j in rw (keep_no q j js (ap not e), rest e) (omega arith)
    pick false e i = rw (keep_yes q j js (ap not e)) (omega arith)

most_keep : (f : Job → Bool) (js : List Job) → all_most (keep f js) ≤ all_most js
unfolding all_most keep
most_keep f [] = omega arith
most_keep f (j ∷ js) = pick (f j) (most_keep f js)
  where
    pick : (b : Bool) → all_most (keep f js) ≤ all_most js → all_most (cond b (j ∷ keep f js) (keep f js)) ≤ j.most + all_most js
    pick true h = omega arith
    pick false h = omega arith

module _ (n : Name) (a : Spec) (c l m : ℕ) (s : State) (k : Kempt s) (ok : job_ok n a c l m ≡ true) (fits : m + all_most (others n s.jobs) ≤ 2048) where
  laws_new : find (is_job n) s.jobs ≡ [] → Laws (with_jobs (s.jobs ++ (new_job n a c l m ∷ [])) s)
  laws_new e =
      record {
        lawful = λ j i. elim (in_end j (new_job n a c l m) s.jobs i) [ inl x ↦ k.laws.lawful j x | inr p ↦ subst Lawful (sym p) (job_lawful n a c l m ok) ];
        mosts = let z = keep_all (λ (j : Job). not (is_job n j)) s.jobs (λ j i. ap not (find_none (is_job n) s.jobs e j i)) in let x : m + all_most s.jobs ≤ 2048 = subst (λ (js : List Job). m + all_most js ≤ 2048) z fits in let y : all_most (s.jobs ++ (new_job n a c l m ∷ [])) ≡ all_most s.jobs + m = most_end s.jobs (new_job n a c l m) in omega arith;
        like = λ t j i q d f. pick t j i d f (in_end j (new_job n a c l m) s.jobs q);
      }
    where
      nobody : (t : Task) → In t s.tasks → n ≡ t.job → is_ending t.phase ≡ false → ⊥
      nobody t i d f = elim (bool (some (λ (j : Job). same j.name t.job) s.jobs)) [ inl p ↦ let w = some_at (λ (j : Job). same j.name t.job) s.jobs p in true≢false (sym (eq_same n w.0.name (d ∙ sym (same_eq _ _ w.2))) ∙ find_none (is_job n) s.jobs e w.0 w.1) | inr p ↦ true≢false (sym (k.wanted t i (ap not p)) ∙ f) ]

      pick : (t : Task) (j : Job) → In t s.tasks → j.name ≡ t.job → is_ending t.phase ≡ false → In j s.jobs ⊎ (j ≡ new_job n a c l m) → Like t j
      pick t j i d f (inl x) = k.laws.like t j i x d f
      pick t j i d f (inr p) = absurd (nobody t i (sym (ap (λ (z : Job). z.name) p) ∙ d) f)

  laws_reset : Laws (with_jobs (change (is_job n) (reset_job_lem n a c l m) s.jobs) s)
  laws_reset =
      record {
        lawful = λ j i. let w = from j i in elim w.3 [ inl p ↦ subst Lawful (sym (w.4 ∙ p)) (k.laws.lawful w.0 w.1) | inr p ↦ subst Lawful (sym (w.4 ∙ p.1)) (job_lawful n a c l m ok) ];
        mosts = le_trans (most_change s.jobs k.fine.jobs n (reset_job_lem n a c l m) m (λ x. refl)) fits;
        like = λ t j i q d f. let w = from j q in pick t j i d f w.0 w.1 w.2 w.3 w.4;
      }
    where
      R : Job → Job → Type 0
      R x y = (y ≡ x) ⊎ ((is_job n x ≡ true) × (y ≡ reset_job_lem n a c l m x))

      from : (j : Job) → In j (change (is_job n) (reset_job_lem n a c l m) s.jobs) → (x : Job) × In x s.jobs × (z : Job) × R x z × (j ≡ z)
      from j i = pass_from (λ x. ⊥) R (pass_change (λ x. ⊥) R (is_job n) (reset_job_lem n a c l m) s.jobs (λ x q. inl refl) (λ x q e. inr (e, refl))) j i

      resets : (t : Task) (x : Job) → Like t x → (b : Bool) → same_spec_lem a x.spec ≡ b → (t.version ≤ cond b x.version (x.version + 1)) × (t.version ≡ cond b x.version (x.version + 1) → t.spec ≡ a)
      resets t x h true e = (h.0, λ q. h.1 q ∙ sym (same_spec a x.spec e))
      resets t x h false e = let z : t.version ≤ x.version = h.0 in (omega arith, λ q. absurd (omega arith))

      pick : (t : Task) (j : Job) → In t s.tasks → j.name ≡ t.job → is_ending t.phase ≡ false → (x : Job) → In x s.jobs → (z : Job) → R x z → j ≡ z → Like t j
      pick t j i d f x q z (inl p) e = subst (Like t) (sym (e ∙ p)) (k.laws.like t x i q (sym (ap (λ (y : Job). y.name) (e ∙ p)) ∙ d) f)
      pick t j i d f x q z (inr p) e =
          let c' = e ∙ p.1 in
          subst (Like t) (sym c') (resets t x (k.laws.like t x i q (sym (same_eq n x.name p.0) ∙ (sym (ap (λ (y : Job). y.name) c') ∙ d)) f) (same_spec_lem a x.spec) refl)

kempt_set : (n : Name) (a : Spec) (c l m : ℕ) (s : State) → Kempt s → Kempt (does (SetJob n a c l m) s).state
unfolding acts sets_job
kempt_set n a c l m s k = cond_both (eqb s.now 0 && not (is_tick (SetJob n a c l m))) (no 10 s) (acts (SetJob n a c l m) s) P (λ _. k) (λ _. cond_both (job_ok n a c l m) _ (no 1 s) P (λ ok. cond_both (ltb 2048 (m + all_most (others n s.jobs))) (no 8 s) _ P (λ _. k) (λ fits. sets ok (ltb-false _ _ fits) (find (is_job n) s.jobs) refl)) (λ _. k))
  where
    P : Out → Type 0
    P o = Kempt o.state

    sets : job_ok n a c l m ≡ true → m + all_most (others n s.jobs) ≤ 2048 → (js : List Job) → find (is_job n) s.jobs ≡ js → P (sets_job n a c l m js s)
    sets ok fits [] e = cond_both (leb 256 (length s.jobs)) _ _ P (λ _. k) (λ _. kempt_settle _ ((fine_pre (SetJob n a c l m) s k.fine).0 e) (laws_new n a c l m s k ok fits e))
    sets ok fits (j ∷ js) e = cond_both (not (same_spec_lem a j.spec) && leb 4294967295 j.version) _ _ P (λ _. k) (λ _. kempt_settle _ ((fine_pre (SetJob n a c l m) s k.fine).1 j js e) (laws_reset n a c l m s k ok fits))

unsured_pass : (now : ℕ) (ms : List Machine) (ts : List Task) → Pass Never As ts (map (unsure now ms) ts)
unsured_pass now ms ts = pass_weaken (λ x d. d) unsured_as (unsured now ms ts)

pub kempt_does : (c : Call) (s : State) → Kempt s → Kempt (does c s).state
kempt_does (SetJob n a c l m) s k = kempt_set n a c l m s k
kempt_does (EndJob n) s k = does_is (λ (o : Out). Kempt o.state) (EndJob n) s (λ i. k) (kempt_settle _ (fine_pre (EndJob n) s k.fine) (record { lawful = λ j i. k.laws.lawful j (in_keep (λ (x : Job). not (is_job n x)) s.jobs j i).0; mosts = le_trans (most_keep (λ (x : Job). not (is_job n x)) s.jobs) k.laws.mosts; like = λ t j i q. k.laws.like t j i (in_keep (λ (x : Job). not (is_job n x)) s.jobs j q).0 }))
kempt_does (AddMachine i c m tags) s k = does_is (λ (o : Out). Kempt o.state) (AddMachine i c m tags) s (λ i. k) (λ e. kempt_settle _ (fine_pre (AddMachine i c m tags) s k.fine e) (record { lawful = k.laws.lawful; mosts = k.laws.mosts; like = k.laws.like }))
kempt_does (Close i) s k = does_is (λ (o : Out). Kempt o.state) (Close i) s (λ i. k) (kempt_settle _ (fine_pre (Close i) s k.fine) (record { lawful = k.laws.lawful; mosts = k.laws.mosts; like = k.laws.like }))
kempt_does (Reopen i) s k = does_is (λ (o : Out). Kempt o.state) (Reopen i) s (λ i. k) (kempt_settle _ (fine_pre (Reopen i) s k.fine) (record { lawful = k.laws.lawful; mosts = k.laws.mosts; like = k.laws.like }))
kempt_does (Forget i) s k = does_is (λ (o : Out). Kempt o.state) (Forget i) s (λ i. k) (kempt_settle _ (fine_pre (Forget i) s k.fine) (laws_pass Any s (forgotten i s) refl (pass_keep Any As (λ (t : Task). not (on_machine i t)) s.tasks (λ x j e. tt) (λ x j e. as_eq x x refl)) k.laws))
kempt_does (Report i l n xs) s k = does_is (λ (o : Out). Kempt o.state) (Report i l n xs) s (λ i. k) (λ m ms e q. kempt_settle _ (fine_heard i l n xs s k.fine) (laws_pass Any s (heard i l n xs s) refl (heard_as i l xs s.tasks) k.laws))
kempt_does (Tick t) s k = does_is (λ (o : Out). Kempt o.state) (Tick t) s (λ i. k) (kempt_settle _ (fine_timed (later t s.now) s k.fine) (laws_pass Never s (timed (later t s.now) s) refl (unsured_pass (later t s.now) s.machines s.tasks) k.laws))
kempt_does (Show n) s k = does_is (λ (o : Out). Kempt o.state) (Show n) s (λ i. k) k

ready_told : (t : Task) → let y = cond (is_ready_lem t.phase) (phased Told t) t in As t y × (is_ending t.phase ≡ true → is_ending y.phase ≡ true)
ready_told t = cond_both (is_ready_lem t.phase) (phased Told t) t (λ (y : Task). As t y × (is_ending t.phase ≡ true → is_ending y.phase ≡ true)) (λ e. (as_phase t _ Told (ready_alive t.phase e) refl, λ q. clash (is_ending t.phase) q (ready_alive t.phase e))) (λ e. (as_eq t t refl, λ q. q))

abbrev Downed : Task → Task → Type 0
Downed x y = As x y × (is_ending x.phase ≡ true → is_ending y.phase ≡ true)

pub kempt_down : (s : State) → Kempt s → Kempt (down s)
kempt_down s k = record { fine = fine_down s k.fine; laws = laws_pass Never s (down s) refl (pass_weaken (λ x d. d) (λ x y r. r.0) p) k.laws; wanted = wanted }
  where
    p : Pass Never Downed s.tasks (down s).tasks
    p = pass_map Never Downed (λ (t : Task). cond (is_ready_lem t.phase) (phased Told t) t) s.tasks (λ t i. ready_told t)

    wanted : Wanted s.jobs (down s).tasks
    wanted t i e =
        let q = pass_from Never Downed p t i in let r = q.3 in
        ap (λ (z : Task). is_ending z.phase) q.4 ∙ r.1 (k.wanted q.0 q.1 (sym (ap (λ (n : Name). not (some (λ (j : Job). same j.name n) s.jobs)) (ap (λ (z : Task). z.job) q.4 ∙ r.0.0)) ∙ e))

-- EVERY WORLD THAT IS REACHED

pub kempt_step : {w v : World} → Kempt w.herd → Step w v → Kempt v.herd
kempt_step k (Step.says w c nr nf) = kempt_does c w.herd k
kempt_step k (Step.forgets w i) = kempt_does (Forget i) w.herd k
kempt_step k (Step.forgets_off w i n o e) = kempt_does (Forget i) w.herd k
kempt_step k (Step.falls w) = kempt_down w.herd k
kempt_step k (Step.comes_up w i) = k
kempt_step k (Step.reports w i l) = k
kempt_step k (Step.hears w i l n xs j os m r) = kempt_does (Report i l n xs) w.herd k
kempt_step k (Step.hears_not w i l n xs m r) = kempt_does (Report i l n xs) w.herd k
kempt_step k (Step.obeyed w i os m) = k
kempt_step k (Step.starts w i o m n) = k
kempt_step k (Step.becomes w i before behind x b e) = k
kempt_step k (Step.dies w i before behind x e) = k

pub kempt_reach : {w : World} → Reach w → Kempt w.herd
kempt_reach Reach.begin = record { fine = record { jobs = tt; machines = tt; tidy = (tt, λ t i. absurd i) }; laws = record { lawful = λ j i. absurd i; mosts = most_none; like = λ t j i. absurd i }; wanted = λ t i. absurd i }
kempt_reach (Reach.then r s) = kempt_step (kempt_reach r) s

pub steady_reach : (w : World) → Reach w → Steady w.herd
steady_reach w r = let k = kempt_reach r in record { lawful = k.laws.lawful; mosts = k.laws.mosts; like = λ t j i q n v a. (k.laws.like t j i q n a).1 v }
