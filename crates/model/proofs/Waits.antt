-- At every moment of every run no task waits that a machine would take, also after the herd went dark.
-- Assumes nothing.
use Rattle.std.proofs.Common.{◌≡◌, ℕ, ◌+◌, Bool, true, not, ◌&&◌, eqb, leb, List, refl, ap, ◌∙◌, subst}
use mathlib.Core.List.{Memᴰ}
use Rattle.std.proofs.lemmas.Bool.{and_parts, not-true, eqb-false}
use Rattle.model.specs.Lists.{some, every}
use Rattle.model.specs.State.{Machine, Task, State, of_job, cpu_of, mem_of}
use Rattle.model.specs.Settle.{settle, here, present}
use Rattle.model.specs.Calls.{Call, Reply, Out, does, down}
use Rattle.model.specs.Memory.{Happens, MayHappen}
use Rattle.model.specs.Promise.{Answers, says_so, not_yet, herd}
use Rattle.model.specs.Always.{NoneWaits, NeverWaits, WhateverHappens}
use Rattle.model.proofs.Lists.{to_true, in_from, pass_map, pass_from}
use Rattle.model.proofs.Settles.{unplaced_alike, Fine, fine_to}
use Rattle.model.proofs.Acts.{fine_does, fine_down, must_from, does_is, fine_pre}
use Rattle.model.proofs.Room.{waits_for_room_lem}
use Rattle.model.proofs.Kin.{reach_herd}

waits_settle : (u : State) → Fine u → NoneWaits (settle u)
waits_settle u f t m i w mi h = waits_for_room_lem u t m (fine_to u f) i w (subst (λ (ms : List Machine). Memᴰ m ms) (unplaced_alike u).1 mi) h

waits_does : (c : Call) (s : State) → Fine s → NoneWaits s → NoneWaits (does c s).state
waits_does c s f w = does_is (λ (o : Out). NoneWaits o.state) c s (λ k. w) (must_from Fine NoneWaits waits_settle c s w (fine_pre c s f))

-- in the dark nobody is present
waits_down : (s : State) → NoneWaits (down s)
waits_down s t m i w mi h = eqb-false m.heard 0 (not-true _ heard) silent
  where
    R : Machine → Machine → Type 0
    R x y = y.heard ≡ 0

    silent : m.heard ≡ 0
    silent = let f = pass_from (λ x. ⊥) R (pass_map (λ x. ⊥) R _ s.machines (λ x j. refl)) m (in_from mi) in ap (λ (x : Machine). x.heard) f.4 ∙ f.3

    ts : List Task
    ts = (down s).tasks

    heard : not (eqb m.heard 0) ≡ true
    heard =
        let b3 = every (λ (a : ℕ). some (eqb a) m.tags) t.spec.tags in let b4 = not (t.spec.apart && some (of_job t.job) (here m ts)) in let b5 = leb (cpu_of (here m ts) + t.spec.cpu) m.cpu in let b6 = leb (mem_of (here m ts) + t.spec.mem) m.mem in
        let p = present 0 m in let o = m.open' in
        (and_parts _ _ (and_parts o p (and_parts (o && p) b3 (and_parts (o && p && b3) b4 (and_parts (o && p && b3 && b4) b5 (and_parts (o && p && b3 && b4 && b5) b6 (to_true _ h)).0).0).0).0).1).0

pub never_waits_lem : NeverWaits
never_waits_lem w r = reach_herd NoneWaits (λ t m i. absurd (in_from i)) (λ c s h q. waits_does c s h.fine q) (λ s h q. waits_down s) r

-- WHATEVER HAPPENS TO THE HERD ALONE

Keeping : State → Type 0
Keeping s = Fine s × NoneWaits s

answers_keep : (can : Call → Bool) {c : Call} {s t : State} {r : Reply} → Answers can c s r t → Keeping s → Keeping t
unfolding Keeping
answers_keep can (says_so c s k) h = (fine_does c s h.0, waits_does c s h.0 h.1)
answers_keep can (not_yet c s k) h = h

down_keeps : (s : State) → Keeping s → Keeping (down s)
unfolding Keeping
down_keeps s h = (fine_down s h.0, waits_down s)

happens_keep : (can : Call → Bool) {es : List (Happens Call Reply)} {s : State} → MayHappen (herd can) es s → Keeping s
unfolding Keeping
happens_keep can MayHappen.nothing = (record { jobs = tt; machines = tt; tidy = (tt, λ t i. absurd i) }, λ t m i. absurd (in_from i))
happens_keep can (MayHappen.is_answered p a) = answers_keep can a (happens_keep can p)
happens_keep can (MayHappen.wasnt {s = s} p) = down_keeps s (happens_keep can p)
happens_keep can (MayHappen.was {t = t} p a) = down_keeps t (answers_keep can a (happens_keep can p))
happens_keep can (MayHappen.got_dark {s = s} p) = down_keeps s (happens_keep can p)

pub whatever_happens_lem : WhateverHappens
unfolding Keeping
whatever_happens_lem can es s p = let h = happens_keep can p in (fine_to s h.0, h.1)
