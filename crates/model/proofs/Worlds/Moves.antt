-- Every step keeps what holds of a world, so it holds in every world that is reached.
-- Assumes nothing.
use Rattle.std.proofs.Common.{◌≡◌, ℕ, ◌+◌, ◌<◌, Bool, true, false, ◌&&◌, ◌||◌, eqb, ltb, leb, List, ◌∷◌, ◌++◌, sym, refl, subst, arith}
use Rattle.std.proofs.lemmas.Bool.{eqb-true}
use Rattle.model.specs.State.{Machine, State, is_machine, on_machine}
use Rattle.model.specs.Lists.{keep, find}
use Rattle.model.specs.Settle.{settle}
use Rattle.model.specs.Calls.{Seen, Forget, Report, Order, orders, does, heard}
use Rattle.model.specs.World.{Agent, Up, Back, World, start, may_run, Step, Reach}
use Rattle.model.proofs.Lists.{not_to_false, in_from, Pass, gone, goes}
use Rattle.model.proofs.Acts.{fine_heard}
use Rattle.model.proofs.Hold.{once_machine}
use Rattle.model.proofs.Keeps.{sound_does, sound_down, keeps_settle, keeps_does, keeps_down, keeps_forget, keeps_heard}
use Rattle.model.proofs.Worlds.Agreement.{Agrees, Inv, agrees_keeps, agrees_anew, agrees_off, put_is, agrees_up, agrees_back, numbered_up, numbered_back}
use Rattle.model.proofs.Worlds.Agents.{agrees_reports, agrees_obeys, SameId, AnySeen, agrees_runs, pass_behind, pass_all, agrees_starts}
use Rattle.model.proofs.Worlds.Hearing.{hears_is, hears_not_lem, is_news, agrees_hears}

inv_start : Inv start
inv_start =
    record {
      numbered = (λ i l n xs j. absurd j, λ i l n os j. absurd j);
      sound = record { fine = record { jobs = tt; machines = tt; tidy = (tt, λ t i. absurd i) }; told = λ t i. absurd i; room = λ m i. absurd i };
      agents = λ i. record { ups = λ l n xs j. absurd j; backs = λ l n os j. absurd j; ordered = λ o j. absurd j; runs = λ x j. absurd j; once = tt };
    }

-- Why each step keeps it.
-- says: the herd keeps each machine's number, life and last report, adds only machines that were not there (for which nothing is ordered), and leaves on a machine what is on it (Keeps).
-- falls: the same; only readiness and who was heard of are lost.
-- forgets, comes_up: the agent's life rises above that of every word sent, and it has nothing ordered, so any herd agrees with it; the others keep theirs.
-- reports: the new word lists all that is ordered; every answer so far is to an earlier number, so none counts any more.
-- hears: the report was news. If it is of an earlier life, the machine was not of this life, so nothing is ordered. Otherwise it lists all that is ordered, so nothing of that is taken for gone; an answer to an
--   earlier report is not to the last one; the new answer orders only what is on the machine. Of the other machines nothing changes.
-- hears_not: nothing changes.
-- obeyed: the answer orders only what is on the machine; its report was taken, so no report of this life that was sent is still news.
-- starts, becomes, dies: what runs is ordered, each once.
pub inv_step : {w v : World} → Inv w → Step w v → Inv v
inv_step h (Step.says w c nr nf) = record { numbered = h.numbered; sound = sound_does c w.herd h.sound; agents = λ i. agrees_keeps w.herd _ w.sent i (w.agent i) (keeps_does i c w.herd h.sound.fine nr nf) (h.agents i) }
inv_step h (Step.forgets w k) =
    record {
      numbered = h.numbered;
      sound = sound_does (Forget k) w.herd h.sound;
      agents = put_is (λ (j : ℕ) (a : Agent). Agrees (does (Forget k) w.herd).state w.sent j a) k _ w.agent (agrees_anew w.herd _ w.sent k (w.agent k) (h.agents k)) (λ j e. agrees_keeps w.herd _ w.sent j (w.agent j) (keeps_forget j k w.herd h.sound.fine e) (h.agents j));
    }
inv_step h (Step.forgets_off w k n o x) =
    record { numbered = h.numbered; sound = sound_does (Forget k) w.herd h.sound; agents = λ j. pick j (eqb j k) refl }
  where
    u : State
    u = (does (Forget k) w.herd).state

    pick : (j : ℕ) (b : Bool) → eqb j k ≡ b → Agrees u w.sent j (w.agent j)
    pick j true c = subst (λ (i : ℕ). Agrees u w.sent i (w.agent i)) (sym (eqb-true j k c)) (agrees_off w.herd u w.sent k (w.agent k) h.numbered n o x (h.agents k))
    pick j false c = agrees_keeps w.herd u w.sent j (w.agent j) (keeps_forget j k w.herd h.sound.fine c) (h.agents j)
inv_step h (Step.falls w) = record { numbered = h.numbered; sound = sound_down w.herd h.sound; agents = λ i. agrees_keeps w.herd _ w.sent i (w.agent i) (keeps_down i w.herd) (h.agents i) }
inv_step h (Step.comes_up w i) = record { numbered = h.numbered; sound = h.sound; agents = put_is (λ (j : ℕ) (a : Agent). Agrees w.herd w.sent j a) i _ w.agent (agrees_anew w.herd w.herd w.sent i (w.agent i) (h.agents i)) (λ j e. h.agents j) }
inv_step h (Step.reports w i l) =
    record { numbered = numbered_up _ i _ _ _ (omega arith) h.numbered; sound = h.sound; agents = put_is (λ (j : ℕ) (a : Agent). Agrees w.herd (Up i (w.agent i).life ((w.agent i).number + 1) (may_run (w.agent i).runs (w.agent i).ordered) ∷ w.sent) j a) i _ w.agent (agrees_reports w.herd w.sent i (w.agent i) (h.agents i)) (λ j e. agrees_up w.herd w.sent j (w.agent j) i _ _ _ e (h.agents j)) }
inv_step h (Step.hears w i l n xs k os m r) =
    record { numbered = numbered_back _ i l k os (hears_is (λ (k' : ℕ) (os' : List Order) (u : State). 0 < k') i l n xs w.herd (λ v vs e q. h.numbered.0 i l n xs (in_from m)) k os r) h.numbered; sound = sound_does (Report i l n xs) w.herd h.sound; agents = hears_is (λ (k' : ℕ) (os' : List Order) (u : State). (j : ℕ) → Agrees u (Back i l k' os' ∷ w.sent) j (w.agent j)) i l n xs w.herd taken k os r }
  where
    s : State
    s = w.herd

    taken : (v : Machine) (vs : List Machine) → find (is_machine i) s.machines ≡ v ∷ vs → (ltb l v.life || (eqb l v.life && leb n v.number)) ≡ false → (j : ℕ) → Agrees (settle (heard i l n xs s)) (Back i l n (orders (keep (on_machine i) (settle (heard i l n xs s)).tasks)) ∷ w.sent) j (w.agent j)
    taken v vs e q j = pick (eqb j i) refl
      where
        P : ℕ → Type 0
        P x = Agrees (settle (heard i l n xs s)) (Back i l n (orders (keep (on_machine i) (settle (heard i l n xs s)).tasks)) ∷ w.sent) x (w.agent x)

        pick : (b : Bool) → eqb j i ≡ b → P j
        pick true c = subst P (sym (eqb-true j i c)) (agrees_hears s h.sound w.sent i (w.agent i) (h.agents i) l n xs (in_from m) v vs e (is_news v l n q))
        pick false c = agrees_back _ w.sent j (w.agent j) i l n _ c (agrees_keeps s _ w.sent j (w.agent j) (keeps_settle j s (heard i l n xs s) (fine_heard i l n xs s h.sound.fine).tidy (keeps_heard j i l n xs s c)) (h.agents j))
inv_step h (Step.hears_not w i l n xs m r) = subst (λ (u : State). Inv (record { herd = u; agent = w.agent; sent = w.sent })) (hears_not_lem i l n xs w.herd r) h
inv_step h (Step.obeyed w i os m) = record { numbered = h.numbered; sound = h.sound; agents = put_is (λ (j : ℕ) (a : Agent). Agrees w.herd w.sent j a) i _ w.agent (agrees_obeys w.herd w.sent i (w.agent i) os (in_from m) (once_machine w.herd.machines h.sound.fine.machines) (h.agents i)) (λ j e. h.agents j) }
inv_step h (Step.starts w i o m n) = record { numbered = h.numbered; sound = h.sound; agents = put_is (λ (j : ℕ) (a : Agent). Agrees w.herd w.sent j a) i _ w.agent (agrees_starts w.herd w.sent i (w.agent i) o (in_from m) (not_to_false _ n) (h.agents i)) (λ j e. h.agents j) }
inv_step h (Step.becomes w i before behind x b e) =
    record { numbered = h.numbered; sound = h.sound; agents = put_is (λ (j : ℕ) (a : Agent). Agrees w.herd w.sent j a) i _ w.agent (agrees_runs w.herd w.sent i (w.agent i) _ (subst (λ (zs : List Seen). Pass AnySeen SameId zs (before ++ record { id = x.id; ready = b } ∷ behind)) (sym e) (pass_behind before (x ∷ behind) (record { id = x.id; ready = b } ∷ behind) (goes refl (pass_all behind)))) (h.agents i)) (λ j c. h.agents j) }
inv_step h (Step.dies w i before behind x e) =
    record { numbered = h.numbered; sound = h.sound; agents = put_is (λ (j : ℕ) (a : Agent). Agrees w.herd w.sent j a) i _ w.agent (agrees_runs w.herd w.sent i (w.agent i) _ (subst (λ (zs : List Seen). Pass AnySeen SameId zs (before ++ behind)) (sym e) (pass_behind before (x ∷ behind) behind (gone tt (pass_all behind)))) (h.agents i)) (λ j c. h.agents j) }

-- so it holds in every world that is reached
pub inv_reach : {w : World} → Reach w → Inv w
inv_reach Reach.begin = inv_start
inv_reach (Reach.then r s) = inv_step (inv_reach r) s
