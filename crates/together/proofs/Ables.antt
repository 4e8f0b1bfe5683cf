-- What an agent has in memory goes into the bytes of its reports.
-- Assumes nothing.
use Rattle.std.proofs.Common.{◌≡◌, ℕ, ◌+◌, ◌<◌, Bool, true, false, cond, ◌&&◌, eqb, ltb, List, [], ◌∷◌, length, refl, arith}
use mathlib.Core.List.{Memᴰ}
use Rattle.std.proofs.lemmas.Bool.{and_parts, and_from, lt-ltb, ltb-true, cond_both}
use Rattle.model.specs.Lists.{every}
use Rattle.model.specs.Calls.{Seen, Report, Order}
use Rattle.model.specs.World.{Agent, reported, may_run, running, obeys}
use Rattle.model.specs.Wire.{Bytes, Read, garbled, meant, Answer, Refused, Done, Runs, Shown}
use Rattle.model.specs.Answers.{read_answer_lem, runs_fit_lem, long, order_fits, spec_fits}
use Rattle.model.specs.World.{Word}
use Rattle.model.proofs.Lists.{in_from, every_at}
use Rattle.agents.specs.Steps.{takes_in}
use Rattle.wire.specs.Fits.{brief, long_id, call_fits}
use Rattle.together.specs.Real.{Body, up, lost, off, fresh, Turn, set}
use Rattle.together.specs.Telling.{Carried}
use Rattle.together.proofs.Turning.{Able}

abbrev pub AbleIn : Body → Type 0
AbleIn (up a) = Able a
AbleIn (lost a) = Unit {0}
AbleIn (off d) = Unit {0}

pub able_set : (g : ℕ → Body) (i : ℕ) (b : Body) → AbleIn b → ((j : ℕ) → AbleIn (g j)) → (j : ℕ) → AbleIn (set i b g j)
able_set g i b h q j = pick (eqb j i)
  where
    pick : (v : Bool) → AbleIn (cond v b (g j))
    pick true = h
    pick false = q j

able_fresh : (d : ℕ) → d + 1 < 18446744073709551616 → Able (fresh (d + 1))
able_fresh d l = record { alive = omega arith; life = l; few = omega arith; ids = λ o m. absurd (in_from m) }

able_running : (rs : List Seen) (a : Agent) → Able a → Able (running rs a)
able_running rs a h = record { alive = h.alive; life = h.life; few = h.few; ids = h.ids }

pub able_turned : {b c : Body} → Turn b c → AbleIn b → AbleIn c
able_turned (Turn.ends a) h = tt
able_turned (Turn.clears a) h = tt
able_turned (Turn.comes_up d l) h = able_fresh d l
able_turned (Turn.is_cut_up d l) h = tt
able_turned (Turn.starts a o m n) h = able_running _ a h
able_turned (Turn.becomes a before behind x b e) h = able_running _ a h
able_turned (Turn.dies a before behind x e) h = able_running _ a h
able_turned (Turn.dies_lost a before behind x e) h = tt

pub able_reported : (a : Agent) → Able a → Able (reported a)
able_reported a h = record { alive = h.alive; life = h.life; few = h.few; ids = h.ids }

-- orders that were read are in range
able_obeys : (i l n : ℕ) (os : List Order) (a : Agent) → runs_fit_lem i l n os ≡ true → Able a → Able (obeys os a)
able_obeys i l n os a t h =
    let p = and_parts (brief i && long l && long n && ltb (length os) 65536) (every order_fits os) t in let q = and_parts (brief i && long l && long n) (ltb (length os) 65536) p.0 in
    record {
      alive = h.alive;
      life = h.life;
      few = ltb-true _ _ q.1;
      ids = λ o m. let e = and_parts (long o.id) (spec_fits o.spec) (every_at order_fits os p.1 o (in_from m)) in ltb-true _ _ e.0;
    }

pub able_takes : (i : ℕ) (bs : Bytes) (ws : List Word) → Carried bs ws → (a : Agent) → Able a → (r : Read Answer) → read_answer_lem bs ≡ r → Able (takes_in i r a)
able_takes i bs ws c a h garbled e = h
able_takes i bs ws c a h (meant (Refused q)) e = h
able_takes i bs ws c a h (meant Done) e = h
able_takes i bs ws c a h (meant (Shown ls)) e = h
able_takes i bs ws c a h (meant (Runs j l n os)) e = cond_both (eqb j i && eqb l a.life && eqb n a.number) (obeys os a) a Able (λ _. able_obeys j l n os a (c.fit j l n os e) h) (λ _. h)

-- ITS REPORT
listed_length : (xs : List Seen) (os : List Order) → length (may_run xs os) ≡ length os
unfolding may_run
listed_length xs [] = refl
listed_length xs (o ∷ os) = let h = listed_length xs os in omega arith

listed_long : (xs : List Seen) (os : List Order) → ((o : Order) → Memᴰ o os → o.id < 18446744073709551616) → every long_id (may_run xs os) ≡ true
unfolding may_run every
listed_long xs [] h = refl
listed_long xs (o ∷ os) h = and_from _ _ (lt-ltb o.id 18446744073709551616 (h o (Memᴰ.head refl))) (listed_long xs os (λ p m. h p (Memᴰ.tail m)))

pub report_fits : (i : ℕ) (a : Agent) → i < 65536 → a.number + 1 < 18446744073709551616 → Able a → call_fits (Report i a.life (a.number + 1) (may_run a.runs a.ordered)) ≡ true
report_fits i a b l h =
    let xs = may_run a.runs a.ordered in let e = listed_length a.runs a.ordered in let f = h.few in let v = h.life in
    and_from (ltb (length xs) 65536) (brief i && long a.life && long (a.number + 1) && every long_id xs) (lt-ltb (length xs) 65536 (omega arith))
    (and_from (brief i && long a.life && long (a.number + 1)) (every long_id xs) (and_from (brief i && long a.life) (long (a.number + 1)) (and_from (brief i) (long a.life) (lt-ltb i 65536 b) (lt-ltb a.life 18446744073709551616 v)) (lt-ltb (a.number + 1) 18446744073709551616 l)) (listed_long a.runs a.ordered h.ids))
