-- What runs of a job is no more than its tasks.
-- Assumes nothing.
use Rattle.std.proofs.Common.{◌≡◌, ℕ, ◌≤◌, Bool, true, not, ◌&&◌, eqb, List, [], ◌∷◌, length, refl, ap, ◌∙◌, inl, inr, arith}
use Rattle.std.proofs.lemmas.Bool.{and_parts, not-true, eqb-true, eqb-false, ne_eqb}
use Rattle.model.specs.Lists.{some, keep}
use Rattle.model.specs.State.{Name, Job, Task, of_job}
use Rattle.model.specs.Settle.{mine}
use Rattle.model.specs.Calls.{Seen}
use Rattle.model.specs.World.{World}
use Rattle.model.specs.Promise.{ran}
use Rattle.model.specs.Always.{is_of, running_of, differ}
use Rattle.model.proofs.Lists.{In, in_append, some_at, some_not, in_keep, keep_in, pass_keep, Once, once_pass, once_append}
use Rattle.model.proofs.Room.{weigh, weigh_seen, seen_within}
use Rattle.model.proofs.Worlds.{Inv, one_place}

-- numbers that two have in common
abbrev eq_id : Seen → Seen → Bool
eq_id x y = eqb x.id y.id

running_at : (n : Name) (w : World) (is : List ℕ) (x : Seen) → In x (running_of n w is) → (i : ℕ) × In i is × In x (ran w i) × (is_of n w.herd.tasks x ≡ true)
unfolding running_of
running_at n w [] x h = absurd h
running_at n w (i ∷ is) x h = elim (in_append x (keep (is_of n w.herd.tasks) (ran w i)) (running_of n w is) h) [ inl k ↦ let p = in_keep (is_of n w.herd.tasks) (ran w i) x k in (i, inl refl, p.0, p.1) | inr k ↦ let p = running_at n w is x k in (p.0, inr p.1, p.2, p.3) ]

running_once : (n : Name) (w : World) → Inv w → (is : List ℕ) → differ is ≡ true → Once eq_id (running_of n w is)
unfolding running_of differ
running_once n w h [] d = tt
running_once n w h (i ∷ is) d =
    let p = and_parts (not (some (eqb i) is)) (differ is) d in
    once_append eq_id (keep f (ran w i)) (running_of n w is) at_one (running_once n w h is p.1) (λ x y xi yi. let z = running_at n w is y yi in ne_eqb x.id y.id (λ e. eqb-false i z.0 (some_not (eqb i) is (not-true _ p.0) z.0 z.1) (one_place w h i z.0 x y (in_keep f (ran w i) x xi).0 z.2 e)))
  where
    f : Seen → Bool
    f = is_of n w.herd.tasks

    at_one : Once eq_id (keep f (ran w i))
    at_one = once_pass eq_id (λ x. Unit {0}) (λ x y. y ≡ x) (λ x y x' y' p q e. ap (λ (z : Seen). eq_id z y') p ∙ (ap (eq_id x) q ∙ e)) (pass_keep _ _ f (ran w i) (λ x j e. tt) (λ x j e. refl)) (h.agents i).once

weigh_ones : (ts : List Task) → weigh (λ (t : Task). 1) ts ≡ length ts
unfolding weigh
weigh_ones [] = refl
weigh_ones (t ∷ ts) = let h = weigh_ones ts in omega arith

seen_ones : (xs : List Seen) → weigh_seen (λ (x : Seen). 1) xs ≡ length xs
unfolding weigh_seen
seen_ones [] = refl
seen_ones (x ∷ xs) = let h = seen_ones xs in omega arith

pub running_few : (w : World) → Inv w → (j : Job) (is : List ℕ) → differ is ≡ true → length (running_of j.name w is) ≤ length (mine j w.herd.tasks)
running_few w v j is d =
    let a = seen_within (λ (x : Seen). 1) (λ (t : Task). 1) (running_of j.name w is) (mine j w.herd.tasks) (running_once j.name w v is d) its in
    let b = seen_ones (running_of j.name w is) in let c = weigh_ones (mine j w.herd.tasks) in omega arith
  where
    its : (x : Seen) → In x (running_of j.name w is) → (t : Task) × In t (mine j w.herd.tasks) × (t.id ≡ x.id) × (1 ≤ 1)
    its x i =
        let p = running_at j.name w is x i in let q = some_at (λ (t : Task). eqb t.id x.id && of_job j.name t) w.herd.tasks p.3 in let e = and_parts (eqb q.0.id x.id) (of_job j.name q.0) q.2 in
        (q.0, keep_in (of_job j.name) w.herd.tasks q.0 q.1 e.1, eqb-true q.0.id x.id e.0, omega arith)
