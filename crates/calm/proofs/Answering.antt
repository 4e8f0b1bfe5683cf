-- A line comes in a calm time and is answered.
-- Assumes nothing.
use Rattle.std.proofs.Common.{◌≡◌, ℕ, ◌<◌, true, false, ◌&&◌, ltb, ◌⊎◌, List, [], ◌∷◌, ◌++◌, length, Some, sym, refl, ap, ◌∙◌, subst, inl, inr, arith}
use mathlib.Core.List.{Memᴰ}
use Rattle.std.proofs.lemmas.Bool.{and_from, lt-ltb}
use Rattle.model.specs.Lists.{every}
use Rattle.model.specs.State.{Machine, State}
use Rattle.model.specs.Calls.{Seen, Call, Report, Tick, Order, Run, does}
use Rattle.model.specs.World.{Agent, Word, Back, World, Reach}
use Rattle.model.specs.Memory.{Memory, Doing, comes_to, leaves, awake}
use Rattle.model.specs.Wire.{Bytes, garbled, meant, read_call, Answer, Refused, Runs, answer_to, answer_bytes}
use Rattle.model.specs.Answers.{is_runs, long, order_fits, runs_fit_lem}
use Rattle.model.specs.Lines.{core_kind, framed, tag_in, call_in, bytes_say, line_leaves}
use Rattle.model.proofs.Lists.{never, In, in_from, in_to}
use Rattle.model.proofs.Worlds.{hears_not_lem}
use Rattle.device.specs.Service.{Said}
use Rattle.wire.specs.Fits.{brief}
use Rattle.serving.specs.Herd.{Held, Awake, state_in, herd_code}
use Rattle.serving.proofs.Standing.{herd_right}
use Rattle.rest.specs.Rounds as rest
use Rattle.rest.specs.Rounds.{Calm, Course}
use Rattle.rest.proofs.Lines.{calm_reach}
use Rattle.together.specs.Real.{Body, up, Heard, heard, at}
use Rattle.together.specs.Telling.{Carried, Bodied, Answered}
use Rattle.together.specs.Now.{herd_state}
use Rattle.together.proofs.Says.{Outcome, outcome, not_runs, no_run, reported_by, Taken, taken}
use Rattle.together.proofs.Bearing.{carried_framed, carried_answer, carried_runs}
use Rattle.together.proofs.Turning.{world}
use Rattle.together.proofs.Coming.{Lined, lined_more, lined_cons, Listable}
use Rattle.together.proofs.Telling.{Has, Kept, answered_more, low_of, listable_of}
use Rattle.together.proofs.Now.{told_is}
use Rattle.calm.specs.Rounds.{Says, KeepsUp, done_with}
use Rattle.calm.proofs.After.{Any, After}

-- an answer to a report of a machine that the herd has goes into bytes
fits : (s t : State) (i l n q : ℕ) (os : List Order) → ((m : Machine) → In m s.machines → m.num < 65536) → Listable t → Taken i l n s t q os → runs_fit_lem i l q os ≡ true
fits s t i l n q os low v k =
    let b : i < 65536 = subst (λ (j : ℕ). j < 65536) k.num (low k.machine k.there) in let c = k.life in let d = k.number in let e = k.same in
    let y : (length os < 65536) × (every order_fits os ≡ true) = subst (λ (zs : List Order). (length zs < 65536) × (every order_fits zs ≡ true)) (sym k.orders) (v i) in
    and_from (brief i && long l && long q && ltb (length os) 65536) (every order_fits os)
    (and_from (brief i && long l && long q) (ltb (length os) 65536) (and_from (brief i && long l) (long q) (and_from (brief i) (long l) (lt-ltb i 65536 b) (lt-ltb l 18446744073709551616 (omega arith))) (lt-ltb q 18446744073709551616 (omega arith))) (lt-ltb (length os) 65536 y.0)) y.1

module _ (P : State → Type 0) (x : Held) (m : Memory) (g : ℕ → Body) (bs : List Bytes) (cs : List Heard) (z : Has Any (at (awake x m) g bs cs)) (b : Bytes) (d : Doing (Said Bytes Held)) (way : herd_code.Does b x d) (p : P (herd_state (done_with m g bs cs b d))) where
  abbrev s : State
  s = z.told.state

  abbrev f : ℕ → Agent
  f = z.told.agents

  abbrev ws : List Word
  ws = z.told.words

  abbrev w : World
  w = world s f ws

  abbrev reply : Bytes
  reply = (comes_to d m).reply

  abbrev said : Answer
  said = (bytes_say core_kind (call_in b) s).answer

  here : s ≡ state_in x
  here = told_is (awake x m) s z.told.stands

  -- the other world goes to the state t and the words us
  goes : {ks : List ℕ} (t : State) (us : List Word) → line_leaves core_kind b s ≡ t → Reach (world t f us) → Lined bs us → (Listable t → Carried (answer_bytes said) us) → Kept us (heard b (Some reply) ∷ cs) → (P t → (ls : List ℕ) (v : World) → Course P ls (world t f us) v → Course P (ks ++ ls) w v) →
      After P ks w (done_with m g bs cs b d)
  goes t us e r h c k ahead =
      let a = (herd_right.answers x m s b d z.told.stands way).1 in let q = a.1.1 ∙ e in
      let y : Awake (comes_to d m).mind (leaves d m) t = subst (λ (u : State). Awake (comes_to d m).mind (leaves d m) u) q a.2 in
      let v : Listable t = listable_of (comes_to d m).mind t y.stands in
      record {
        has = record {
          told = record { state = t; agents = f; words = us; reached = r; bodies = z.told.bodies; stands = y; answered = k; lines = lined_cons reply bs us (subst (λ (o : Bytes). Carried (call_in o) us) (sym a.1.0) (carried_framed (tag_in b) (answer_bytes said) us (c v))) h };
          able = z.able;
          has = tt;
        };
        ahead = ahead (subst P (sym (told_is (awake (comes_to d m).mind (leaves d m)) t y)) p);
      }

  kept : Kept ws (heard b (Some reply) ∷ cs)
  kept i l n os j = answered_more (heard b (Some reply)) cs i l n os (z.told.answered i l n os j)

  -- nothing changes
  still : line_leaves core_kind b s ≡ s → is_runs said ≡ false → After P [] w (done_with m g bs cs b d)
  still e q = goes s ws e z.told.reached z.told.lines (λ v. carried_answer said ws q) kept (λ h ls v c. c)

  -- A TIME IS TOLD
  pub told_time : (t : ℕ) → read_call (call_in b) ≡ meant (Tick t) → KeepsUp (state_in x) t → After P [] w (done_with m g bs cs b d)
  told_time t e k = pick (outcome (call_in b) s)
    where
      up' : KeepsUp s t
      up' = subst (λ (u : State). KeepsUp u t) (sym here) k

      step : Calm [] w (world (does (Tick t) s).state f ws)
      step = rest.Calm.ticks w t up'

      pick : Outcome (call_in b) s (bytes_say core_kind (call_in b) s) → After P [] w (done_with m g bs cs b d)
      pick (Outcome.quiet n a h) = still h (ap is_runs a)
      pick (Outcome.done c q n a h) =
          let o : meant c ≡ meant (Tick t) = sym q ∙ e in let y : c ≡ Tick t = cc in
          goes (does (Tick t) s).state ws (h ∙ ap (λ (u : Call). (does u s).state) y) (calm_reach z.told.reached step) z.told.lines
          (λ v. carried_answer said ws (ap is_runs (a ∙ ap (λ (u : Call). answer_to u (does u s).reply) y) ∙ not_runs (Tick t) (does (Tick t) s).reply (no_run (Tick t) s refl))) kept (λ j ls v c'. Course.go step j c')

  -- A LAST REPORT IS HEARD
  pub heard_of : (i : ℕ) (a : Agent) (xs : List Seen) (os : List Order) → Memᴰ b bs → g i ≡ up a → read_call (call_in b) ≡ meant (Report i a.life a.number xs) → ((y : Seen) → Memᴰ y xs → y.ready ≡ true) → Says x b (Runs i a.life a.number os) → After P (i ∷ []) w (done_with m g bs cs b d)
  heard_of i a xs os mem o e ready h =
      let q : f i ≡ a = subst (λ (y : Body). Bodied y (f i)) o (z.told.bodies i) in
      let h' : said ≡ Runs i a.life a.number os = subst (λ (u : State). (bytes_say core_kind (call_in b) u).answer ≡ Runs i a.life a.number os) (sym here) h in
      let k = subst (λ (y : Agent). (read_call (call_in b) ≡ meant (Report i y.life y.number xs)) × (said ≡ Runs i y.life y.number os)) (sym q) (e, h') in
      with_it k.0 k.1
    where
      l : ℕ
      l = (f i).life

      n : ℕ
      n = (f i).number

      with_it : read_call (call_in b) ≡ meant (Report i (f i).life (f i).number xs) → said ≡ Runs i (f i).life (f i).number os → After P (i ∷ []) w (done_with m g bs cs b d)
      with_it e' h' =
          let r = reported_by (call_in b) s i (f i).life (f i).number os h' in
          let t = (does (Report i (f i).life (f i).number r.seens) s).state in
          let u : meant (Report i (f i).life (f i).number r.seens) ≡ meant (Report i (f i).life (f i).number xs) = sym r.says ∙ e' in let y : r.seens ≡ xs = cc in
          let step : Calm (i ∷ []) w (world t f (Back i (f i).life (f i).number os ∷ ws)) = rest.Calm.hears w i r.seens os ((z.told.lines b mem).ups i (f i).life (f i).number r.seens r.says) (subst (λ (ys : List Seen). (o : Seen) → Memᴰ o ys → o.ready ≡ true) (sym y) ready) r.reply in
          goes t (Back i (f i).life (f i).number os ∷ ws) r.state (calm_reach z.told.reached step) (lined_more bs (Back i (f i).life (f i).number os) ws z.told.lines)
          (λ v. subst (λ (o : Answer). Carried (answer_bytes o) (Back i (f i).life (f i).number os ∷ ws)) (sym h')
          (carried_runs i (f i).life (f i).number os _ (fits s t i (f i).life (f i).number (f i).number os (low_of x s z.told.stands.stands) v (taken i (f i).life (f i).number r.seens s (f i).number os r.reply)) (Memᴰ.head refl)))
          (λ i' l' n' os' j. new r.seens r.says h' i' l' n' os' (in_from j)) (λ j ls v c. Course.go step j c)
        where
          new : (ys : List Seen) → read_call (call_in b) ≡ meant (Report i (f i).life (f i).number ys) → said ≡ Runs i (f i).life (f i).number os → (i' l' n' : ℕ) (os' : List Order) → (Back i' l' n' os' ≡ Back i (f i).life (f i).number os) ⊎ In (Back i' l' n' os') ws → Answered (heard b (Some reply) ∷ cs) i' l' n' os'
          new ys u v i' l' n' os' (inr j) = kept i' l' n' os' (in_to (Back i' l' n' os') ws j)
          new ys u v i' l' n' os' (inl j) =
              let a = (herd_right.answers x m s b d z.told.stands way).1 in
              let ei : i ≡ i' = cc in let el : (f i).life ≡ l' = cc in let en : (f i).number ≡ n' = cc in let eo : os ≡ os' = cc in
              record {
                heard = heard b (Some reply);
                there = Memᴰ.head refl;
                seens = ys;
                says = u ∙ (λ k. meant (Report (ei k) (el k) (en k) ys));
                reply = inr (ap Some (a.1.0 ∙ ap (λ (o : Answer). framed (tag_in b) (answer_bytes o)) (v ∙ (λ k. Runs (ei k) (el k) (en k) (eo k)))));
              }

  -- A REPORT IS REFUSED, or bytes are no call
  pub refused : (i l n k : ℕ) (xs : List Seen) → read_call (call_in b) ≡ meant (Report i l n xs) → Says x b (Refused k) → After P [] w (done_with m g bs cs b d)
  refused i l n k xs e h = pick (outcome (call_in b) s)
    where
      h' : said ≡ Refused k
      h' = subst (λ (u : State). (bytes_say core_kind (call_in b) u).answer ≡ Refused k) (sym here) h

      not_run : (q : ℕ) (os : List Order) → answer_to (Report i l n xs) (does (Report i l n xs) s).reply ≡ Refused k → (does (Report i l n xs) s).reply ≡ Run q os → ⊥
      not_run q os j r = let y : Runs i l q os ≡ Refused k = sym (ap (answer_to (Report i l n xs)) r) ∙ j in never (cc)

      pick : Outcome (call_in b) s (bytes_say core_kind (call_in b) s) → After P [] w (done_with m g bs cs b d)
      pick (Outcome.quiet q a j) = still j (ap is_runs a)
      pick (Outcome.done c q j' a j) =
          let o : meant c ≡ meant (Report i l n xs) = sym q ∙ e in let y : c ≡ Report i l n xs = cc in
          let v : answer_to (Report i l n xs) (does (Report i l n xs) s).reply ≡ Refused k = sym (ap (λ (u : Call). answer_to u (does u s).reply) y) ∙ sym a ∙ h' in
          still (j ∙ ap (λ (u : Call). (does u s).state) y ∙ sym (hears_not_lem i l n xs s (λ q' os. not_run q' os v))) (ap is_runs h')

  pub passed : read_call (call_in b) ≡ garbled → After P [] w (done_with m g bs cs b d)
  passed e = pick (outcome (call_in b) s)
    where
      pick : Outcome (call_in b) s (bytes_say core_kind (call_in b) s) → After P [] w (done_with m g bs cs b d)
      pick (Outcome.quiet q a j) = still j (ap is_runs a)
      pick (Outcome.done c q j' a j) = let o : meant c ≡ garbled = sym q ∙ e in never (cc)
