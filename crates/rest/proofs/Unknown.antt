-- A pass ends no task of a wanted job of which nobody knows whether it is ready.
-- Assumes nothing.
use Rattle.std.proofs.Common.{◌≡◌, ℕ, Bool, true, false, cond, not, ◌&&◌, ◌||◌, ltb, ◌⊎◌, List, [], ◌∷◌, length, sym, refl, ap, ◌∙◌, subst, inl, inr}
use Rattle.std.proofs.lemmas.Bool.{and_parts, not-true, or_cases}
use Rattle.model.specs.State.{Machine, Job, Told, Task, State, is_waiting, is_ready_lem, is_ending, is_machine, of_job, phased, Ending, with_tasks}
use Rattle.model.specs.Lists.{some, keep, same, last_of}
use Rattle.model.specs.Settle.{mine, ready_ones, present, sure, to_end_lem, ended, fresh, for_job, orphans_end, unplaced, settle, old_to_end, new_to_end}
use Rattle.rest.specs.Unknown.{SparesUnknown}
use Rattle.model.proofs.Lists.{to_true, clash, In, in_from, in_to, in_keep, in_left, some_from, last_in, head_in, pass_to}
use Rattle.model.proofs.Tasks.{eq_same, orphans_pass, ended_pass, steps_are, Put, Never}
use Rattle.model.proofs.Settles.{Tidy, tidy_pass, tidy_step, orphan_id, settle_pass, Fine, fine_from}
use Rattle.rest.proofs.Steps.{step_cases, to_end_in}
use Rattle.rest.proofs.Bounds.{onward_step}

-- who is to end is ready, or surely isn't
to_end_known : (s : State) (j : Job) (all xs : List Task) (x : Task) → In x (to_end_lem s j all xs) → (is_ready_lem x.phase ≡ true) ⊎ (sure s x ≡ true)
to_end_known s j all xs x i = first (head_in _ _ x i)
  where
    f : Task → Bool
    f t = not (is_ready_lem t.phase) && sure s t

    second : (b : Bool) → In x (cond b (last_of (ready_ones xs)) []) → is_ready_lem x.phase ≡ true
    second true k = (in_keep (λ (t : Task). is_ready_lem t.phase) xs x (last_in (ready_ones xs) x k)).1
    second false k = absurd k

    first : In x (last_of (keep f xs)) ⊎ In x (cond (ltb j.least (length (ready_ones all))) (last_of (ready_ones xs)) []) → (is_ready_lem x.phase ≡ true) ⊎ (sure s x ≡ true)
    first (inl k) = inr (and_parts (not (is_ready_lem x.phase)) (sure s x) (in_keep f xs x (last_in (keep f xs) x k)).1).1
    first (inr k) = inl (second (ltb j.least (length (ready_ones all))) k)

module _ (t : Task) (p : t.phase ≡ Told) (now : ℕ) (ms : List Machine) (a : some (λ (m : Machine). is_machine t.machine m && present now m) ms ≡ false) where
  waits_not : is_waiting t.phase ≡ false
  waits_not = ap is_waiting p

  abbrev At : State → Type 0
  At s = (s.now ≡ now) × (s.machines ≡ ms)

  unsure_of : (s : State) → At s → sure s t ≡ true → ⊥
  unsure_of s (n, m) e = pick (or_cases (is_waiting t.phase) _ (subst (λ (k : ℕ). is_waiting t.phase || some (λ (x : Machine). is_machine t.machine x && present k x) ms ≡ true) n (subst (λ (xs : List Machine). is_waiting t.phase || some (λ (x : Machine). is_machine t.machine x && present s.now x) xs ≡ true) m e)))
    where
      pick : (is_waiting t.phase ≡ true) ⊎ (some (λ (x : Machine). is_machine t.machine x && present now x) ms ≡ true) → ⊥
      pick (inl w) = clash (is_waiting t.phase) w waits_not
      pick (inr w) = clash (some (λ (x : Machine). is_machine t.machine x && present now x) ms) w a

  -- it isn't picked
  not_picked : (s : State) → At s → (j : Job) (all xs : List Task) (x : Task) → In x (to_end_lem s j all xs) → t ≡ x → ⊥
  not_picked s h j all xs x i e = pick (to_end_known s j all xs x i)
    where
      pick : (is_ready_lem x.phase ≡ true) ⊎ (sure s x ≡ true) → ⊥
      pick (inl r) = clash (is_ready_lem t.phase) (ap (λ (z : Task). is_ready_lem z.phase) e ∙ r) (ap is_ready_lem p)
      pick (inr r) = unsure_of s h (ap (sure s) e ∙ r)

  stays_ended : (s : State) → Tidy s → (x : Task) (xs : List Task) → In x s.tasks → (t ≡ x → ⊥) → In t s.tasks → In t (ended (x ∷ xs) s.tasks)
  stays_ended s h x xs i n k = pick (pass_to _ _ (ended_pass 0 s.tasks h.0 x i xs) t k)
    where
      pick : ((y : Task) × In y (ended (x ∷ xs) s.tasks) × ((y ≡ t) ⊎ ((t ≡ x) × ((is_waiting t.phase ≡ false) × (y ≡ phased Ending t))))) ⊎ ((t ≡ x) × (is_waiting t.phase ≡ true)) → In t (ended (x ∷ xs) s.tasks)
      pick (inl (y, j, inl e)) = subst (λ (z : Task). In z (ended (x ∷ xs) s.tasks)) e j
      pick (inl (y, j, inr e)) = absurd (n e.0)
      pick (inr d) = absurd (n d.0)

  spared_step : (j : Job) (s : State) → Tidy s → At s → In t s.tasks → In t (for_job j s).tasks
  spared_step j s h w i =
      step_cases (λ (u : State). In t u.tasks) j s
      (λ x xs e. let k : In x (old_to_end j s) = subst (In x) (sym e) (inl refl) in let q = stays_ended s h x xs (member x _ k) (not_picked s w j _ _ x k) i in (λ g. in_left (ended (x ∷ xs) s.tasks) _ t q, q))
      (λ r x xs q e. let k : In x (new_to_end j s) = subst (In x) (sym e) (inl refl) in stays_ended s h x xs (member x _ k) (not_picked s w j _ _ x k) i)
      (λ g q r. in_left s.tasks (fresh j s.next_id) t i) (λ o. i)
    where
      member : (x : Task) (f : Task → Bool) → In x (to_end_lem s j (mine j s.tasks) (keep f (keep (λ (z : Task). not (is_ending z.phase)) (mine j s.tasks)))) → In x s.tasks
      member x f k = (in_keep (of_job j.name) s.tasks x (in_keep (λ (z : Task). not (is_ending z.phase)) (mine j s.tasks) x (in_keep f (keep (λ (z : Task). not (is_ending z.phase)) (mine j s.tasks)) x (to_end_in s j _ _ x k)).0).0).0

pub spares_unknown : SparesUnknown
spares_unknown s good j t ji ti tj (p, q) = in_to t (settle s).tasks (placed (pass_to Never Put (settle_pass s f.tidy) t all.2))
  where
    f : Fine s
    f = fine_from s good

    a : some (λ (m : Machine). is_machine t.machine m && present s.now m) s.machines ≡ false
    a = not-true _ (to_true _ q)

    P : State → Type 0
    P u = Tidy u × ((u.now ≡ s.now) × (u.machines ≡ s.machines)) × In t u.tasks

    wanted : some (λ (k : Job). same k.name t.job) s.jobs ≡ true
    wanted = some_from (λ (k : Job). same k.name t.job) s.jobs j (in_from ji) (eq_same j.name t.job (sym tj))

    first : In t (orphans_end s.jobs s.tasks)
    first =
        elim (pass_to _ _ (orphans_pass s.jobs s.tasks) t (in_from ti)) [
          | inl (y, k, r) ↦ elim r [ inl e ↦ subst (λ (z : Task). In z (orphans_end s.jobs s.tasks)) e k | inr e ↦ clash (some (λ (k : Job). same k.name t.job) s.jobs) wanted (not-true _ e.0) ]
          | inr d ↦ clash (some (λ (k : Job). same k.name t.job) s.jobs) wanted (not-true _ d.0)
        ]

    all : P (unplaced s)
    all = steps_are P s.jobs (with_tasks (orphans_end s.jobs s.tasks) s) (λ k i u h. let o = onward_step k u in (tidy_step k u h.0, (o.1 ∙ h.1.0, o.2 ∙ h.1.1), spared_step t p s.now s.machines a k u h.0 h.1 h.2))
        (tidy_pass _ _ (orphan_id s.jobs) s (orphans_pass s.jobs s.tasks) f.tidy, (refl, refl), first)

    placed : ((y : Task) × In y (settle s).tasks × Put t y) ⊎ Never t → In t (settle s).tasks
    placed (inl (y, k, inl e)) = subst (λ (z : Task). In z (settle s).tasks) e k
    placed (inl (y, k, inr e)) = clash (is_waiting t.phase) e.0 (ap is_waiting p)
    placed (inr d) = absurd d
