-- Each calm move is calm steps of the world that tells of it, or none; and so runs and rounds are runs and rounds of that.
-- Assumes nothing.
use Rattle.std.proofs.Common.{ℕ, List, subst}
use mathlib.Core.List.{Memᴰ}
use Rattle.model.specs.State.{State}
use Rattle.rest.specs.Rounds.{Course, Round, Rounds}
use Rattle.together.specs.Real.{Real}
use Rattle.together.specs.Now.{herd_state}
use Rattle.together.proofs.Telling.{Has}
use Rattle.calm.specs.Rounds.{CalmMove, CalmRun, CalmRound, CalmRounds}
use Rattle.calm.proofs.After.{Any, teller, told_state, After}
use Rattle.calm.proofs.Answering.{told_time, heard_of, refused, passed}
use Rattle.calm.proofs.Machines.{after_heeds, after_turns, after_reports}

-- A MOVE
pub moved : (P : State → Type 0) {ks : List ℕ} {w v : Real} (h : Has Any w) → CalmMove ks w v → P (herd_state v) → After P ks (teller h.told) v
moved P h (CalmMove.tells x m g bs cs b d t way e k) p = told_time P x m g bs cs h b d way p t e k
moved P h (CalmMove.hears x m g bs cs b d i a xs os way j o e ready q) p = heard_of P x m g bs cs h b d way p i a xs os j o e ready q
moved P h (CalmMove.refuses x m g bs cs b d i l n k xs way j e q) p = refused P x m g bs cs h b d way p i l n k xs e q
moved P h (CalmMove.passes_over x m g bs cs b d way e) p = passed P x m g bs cs h b d way p e
moved P h (CalmMove.reports y g bs cs i a o b q ob) p = after_reports P y g bs cs h i p a o b q ob
moved P h (CalmMove.heeds y g bs cs i a b o j) p = after_heeds P y g bs cs h i p a b o j
moved P h (CalmMove.turns y g bs cs i b t k) p = after_turns P y g bs cs h i p b t k

-- A RUN
pub record Ran (P : State → Type 0) (ks : List ℕ) {w : Real} (h : Has Any w) (v : Real) : Type 0 where
  pub has : Has Any v
  pub course : Course P ks (teller h.told) (teller has.told)

pub ran : {P : State → Type 0} {ks : List ℕ} {w v : Real} (h : Has Any w) → CalmRun P ks w v → Ran P ks h v
ran h (CalmRun.stop w) = record { has = h; course = Course.stop (teller h.told) }
ran {P} h (CalmRun.go {ls = ls} c p rest) = let a = moved P h c p in let q = ran a.has rest in record { has = q.has; course = a.ahead ls (teller q.has.told) q.course }

-- ROUNDS
pub record Round' (P : State → Type 0) {w : Real} (h : Has Any w) (v : Real) : Type 0 where
  pub has : Has Any v
  pub round : Round P (teller h.told) (teller has.told)

pub went_round : {P : State → Type 0} {w v : Real} (h : Has Any w) → CalmRound P w v → Round' P h v
went_round {w = w} h r =
    let q = ran h r.1 in
    record { has = q.has; round = (r.0, q.course, λ m j. r.2 m (subst (λ (s : State). Memᴰ m s.machines) (told_state w h.told) j)) }

pub record Rounds' (P : State → Type 0) (n : ℕ) {w : Real} (h : Has Any w) (v : Real) : Type 0 where
  pub has : Has Any v
  pub rounds : Rounds P n (teller h.told) (teller has.told)

pub went_rounds : {P : State → Type 0} {n : ℕ} {w v : Real} (h : Has Any w) → CalmRounds P n w v → Rounds' P n h v
went_rounds h (CalmRounds.none w) = record { has = h; rounds = Rounds.none (teller h.told) }
went_rounds h (CalmRounds.more r rest) = let q = went_round h r in let k = went_rounds q.has rest in record { has = k.has; rounds = Rounds.more q.round k.rounds }
