-- Of no job is there more than its most, nor does more run.
-- Assumes nothing.
use Rattle.std.proofs.Common.{◌≡◌, ℕ, ◌≤◌, List, [], ◌∷◌, ◌++◌, length, T, sym, refl, subst, le_trans}
use Rattle.model.specs.Lists.{keep}
use Rattle.model.specs.State.{Name, State}
use Rattle.model.specs.Settle.{mine}
use Rattle.model.specs.Calls.{Seen}
use Rattle.model.specs.World.{World}
use Rattle.model.specs.Always as model
use Rattle.model.specs.Always.{is_of, differ}
use Rattle.model.proofs.Lists.{In, to_true, in_from}
use Rattle.model.proofs.Worlds.{inv_reach}
use Rattle.together.specs.Real.{Heard, Real, Came}
use Rattle.together.specs.Telling.{Told}
use Rattle.together.specs.Now.{herd_state, running_of, NeverOver}
use Rattle.together.proofs.Telling.{Has, has_come}
use Rattle.together.proofs.Now.{told_is, runs_same}
use Rattle.together.proofs.Noted.{Noted, noted_more, noted_down, noted_says}
use Rattle.together.proofs.Counting.{running_few}

abbrev AllNoted : List Heard → State → Type 0
AllNoted hs s = (n : Name) → Noted n hs s

all_has : {w : Real} → Came w → Has AllNoted w
all_has c =
    has_come AllNoted (λ n. record { set = λ j i. absurd i; owned = λ u t i. absurd i; fit = λ u j i. absurd i }) (λ cs s b r k q h n. noted_says n cs s b r k q (h n)) (λ cs s b h n. noted_more n cs _ s (h n)) (λ cs s h n. noted_down n cs s (h n)) c

-- what runs of a job is what the other world says
running_same : (w : Real) (t : Told w) (n : Name) (is : List ℕ) → running_of n w is ≡ model.running_of n (record { herd = t.state; agent = t.agents; sent = t.words }) is
unfolding running_of model.running_of
running_same w t n [] = refl
running_same w t n (i ∷ is) =
    let e = told_is w.herd t.state t.stands in let f = runs_same (w.body i) (t.agents i) (t.bodies i) in let r = running_same w t n is in
    (λ k. keep (is_of n (sym e k).tasks) (sym f k) ++ r k)

pub never_over_now : NeverOver
never_over_now w c j ji u = (few, λ is d. le_trans (runs is d) few)
  where
    z : Has AllNoted w
    z = all_has c

    e : z.told.state ≡ herd_state w
    e = told_is w.herd z.told.state z.told.stands

    few : length (mine j (herd_state w).tasks) ≤ j.most
    few = subst (λ (s : State). length (mine j s.tasks) ≤ j.most) e ((z.has j.name).fit u j (subst (λ (s : State). In j s.jobs) (sym e) (in_from ji)) refl)

    runs : (is : List ℕ) → T (differ is) → length (running_of j.name w is) ≤ length (mine j (herd_state w).tasks)
    runs is d =
        let v : World = record { herd = z.told.state; agent = z.told.agents; sent = z.told.words } in
        subst (λ (s : State). length (running_of j.name w is) ≤ length (mine j s.tasks)) e (subst (λ (xs : List Seen). length xs ≤ length (mine j z.told.state.tasks)) (sym (running_same w z.told j.name is)) (running_few v (inv_reach z.told.reached) j is (to_true _ d)))
