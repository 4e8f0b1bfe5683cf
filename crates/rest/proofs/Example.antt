-- A world that comes to rest, by computation.
-- Assumes nothing.
use Rattle.std.proofs.Common.{[], ◌∷◌, refl}
use mathlib.Core.List.{Memᴰ}
use Rattle.std.proofs.lemmas.Bool.{leb-true}
use Rattle.model.specs.Lists.{some, every, keep, find, change, none, same, last_of, head_or}
use Rattle.model.specs.State.{cpu_of, mem_of}
use Rattle.model.specs.Settle.{ended, for_jobs, orphans_end, best, place, place_all_lem}
use Rattle.model.specs.Calls.{AddMachine, Tick, alike, all_most, sets_job, seen_as, heard_of_lem, heard_all, orders, reports, unsure, lines_of, acts}
use Rattle.model.specs.World.{start, may_run, Reach}
use Rattle.rest.specs.Rounds.{Anyhow, Roomy, Round, Rounds}
use Rattle.rest.specs.Rest.{wanted_of}
use Rattle.rest.specs.Sooner.{largest, widest}
use Rattle.rest.specs.Example.{told, came_up, turned, brought_up, order, set, at_first, after_one, after_two, after_three, after_four, after_five, RestIsMet}
use Rattle.rest.proofs.Play.{answers, roomy, obeyed_one, say, up, turn, bring_up, cycle, starting, round_of, any_round, calm_round}

reached : Reach at_first
unfolding some every keep find change none same last_of head_or cpu_of mem_of ended for_jobs orphans_end best place place_all_lem alike all_most sets_job seen_as heard_of_lem heard_all orders reports unsure acts may_run at_first
reached =
    let a = came_up (told (AddMachine 1 10 10 []) (told (Tick 1) start)) in
    let b = told (set 1) (turned [] a) in
    let c = turned (order 1 1 ∷ []) b in
    say (set 2) refl (brought_up 1 c) (bring_up (order 1 1) c (Memᴰ.head refl) refl (turn (order 1 1 ∷ []) b refl refl (say (set 1) refl (turned [] a) (turn [] a refl refl (up (told (AddMachine 1 10 10 []) (told (Tick 1) start)) (say (AddMachine 1 10 10 []) refl (told (Tick 1) start) (say (Tick 1) refl start Reach.begin)))))))

-- THE ROUNDS

first : Round Anyhow at_first after_one
unfolding some every keep find change none same last_of head_or cpu_of mem_of ended for_jobs orphans_end best place place_all_lem alike all_most sets_job seen_as heard_of_lem heard_all orders reports unsure acts may_run at_first after_one answers
first = any_round [] at_first refl refl refl refl refl

second : Round Roomy after_one after_two
unfolding some every keep find change none same last_of head_or cpu_of mem_of ended for_jobs orphans_end best place place_all_lem alike all_most sets_job seen_as heard_of_lem heard_all orders reports unsure acts may_run at_first after_one after_two answers
second = calm_round (order 2 2 ∷ []) after_one refl refl refl refl refl (roomy after_one.herd refl refl) (roomy after_two.herd refl refl)

third : Round Roomy after_two after_three
unfolding some every keep find change none same last_of head_or cpu_of mem_of ended for_jobs orphans_end best place place_all_lem alike all_most sets_job seen_as heard_of_lem heard_all orders reports unsure acts may_run at_first after_one after_two after_three answers
third =
    let w = brought_up 2 after_two in
    round_of Roomy after_two after_three (starting Roomy (order 2 2) after_two (Memᴰ.head refl) refl (roomy after_two.herd refl refl) (cycle Roomy (order 2 2 ∷ []) w refl (obeyed_one w 1 refl) refl refl (roomy after_two.herd refl refl) (roomy after_three.herd refl refl))) refl

fourth : Round Roomy after_three after_four
unfolding some every keep find change none same last_of head_or cpu_of mem_of ended for_jobs orphans_end best place place_all_lem alike all_most sets_job seen_as heard_of_lem heard_all orders reports unsure acts may_run at_first after_one after_two after_three after_four answers
fourth = calm_round (order 2 2 ∷ []) after_three refl refl refl refl refl (roomy after_three.herd refl refl) (roomy after_four.herd refl refl)

fifth : Round Roomy after_four after_five
unfolding some every keep find change none same last_of head_or cpu_of mem_of ended for_jobs orphans_end best place place_all_lem alike all_most sets_job seen_as heard_of_lem heard_all orders reports unsure acts may_run at_first after_one after_two after_three after_four after_five answers
fifth = calm_round (order 2 2 ∷ []) after_four refl refl refl refl refl (roomy after_four.herd refl refl) (roomy after_five.herd refl refl)

pub rest_is_met : RestIsMet
unfolding some every keep find change none same last_of head_or cpu_of mem_of ended for_jobs orphans_end best place place_all_lem alike all_most sets_job seen_as heard_of_lem heard_all orders reports unsure lines_of acts may_run wanted_of largest widest at_first after_one after_two after_three after_four after_five
rest_is_met = (
  reached,
  (_, Memᴰ.head refl),
  first,
  Rounds.more second (Rounds.more third (Rounds.more fourth (Rounds.more fifth (Rounds.none after_five)))),
  leb-true _ _ refl,
  leb-true _ _ refl,
  leb-true _ _ refl,
  refl,
  refl,
  refl,
  refl,
)
