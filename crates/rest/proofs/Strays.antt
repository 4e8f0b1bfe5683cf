-- Tasks of no job are ending in every world that is reached, and are gone after two rounds.
-- Assumes nothing.
use Rattle.std.proofs.Common.{◌≡◌, ℕ, Bool, true, false, not, eqb, ◌⊎◌, List, [], ◌∷◌, ◌++◌, sym, refl, ap, ◌∙◌, subst, inl, inr}
use Rattle.std.proofs.lemmas.Bool.{eqb-true, eqb-false, and_from, eq-eqb}
use Rattle.model.specs.State.{Job, Task, State, is_waiting, is_ending, on_machine, of_job, with_tasks}
use Rattle.model.specs.Lists.{some, keep, same}
use Rattle.model.specs.Settle.{ended, fresh, orphans_end, unplaced, settle}
use Rattle.model.specs.Calls.{timed}
use Rattle.model.specs.World.{is_order, is_seen}
use Rattle.model.proofs.Lists.{clash, bool, In, in_from, in_to, in_keep, keep_in, some_from, pass_from}
use Rattle.model.proofs.Tasks.{same_refl, jobless, orphans_pass, ended_pass, MayEnd, step_is, steps_are, Put, Never}
use Rattle.model.proofs.Settles.{Tidy, tidy_pass, tidy_step, orphan_id, settle_pass, Fine}
use Rattle.model.proofs.Acts.{fine_heard, fine_timed}
use Rattle.rest.proofs.Falls.{Wanted, waiting_alive, ready_alive, ending_ending}
use Rattle.rest.proofs.Origins.{Went, hear_pass}
use Rattle.rest.proofs.Scenes.{Scene, told, Visits, Move, visit, tick, stays, sound_move, Moves, stop, go, Turn, Turns}
use Rattle.rest.proofs.Knows.{Unsured, unsured}
use Rattle.rest.proofs.Comes.{Going, going_move}
use Rattle.rest.proofs.Quiets.{visit_exact, in_app, going_run, back_run}
use Rattle.rest.proofs.Begins.{jobs_move}
use Rattle.rest.proofs.Own.{keep_pass, keep_off}

-- A PASS LEAVES THEM AS THEY ARE, where they are ending

of_is_wanted : (js : List Job) (j : Job) → In j js → (t : Task) → of_job j.name t ≡ true → jobless js t ≡ false
of_is_wanted js j i t o = ap not (some_from (λ (k : Job). same k.name t.job) js j i o)

strays_pass : (s : State) → Fine s → Wanted s.jobs s.tasks → keep (jobless s.jobs) (settle s).tasks ≡ keep (jobless s.jobs) s.tasks
unfolding ended
strays_pass s f w = placing ∙ all.1
  where
    js : List Job
    js = s.jobs

    st : Task → Bool
    st = jobless js

    P : State → Type 0
    P u = Tidy u × (keep st u.tasks ≡ keep st s.tasks)

    ends : (x : Task) → In x s.tasks → st x ≡ true → is_waiting x.phase ≡ false
    ends x i e = elim (bool (is_waiting x.phase)) [ inl p ↦ clash (is_ending x.phase) (w x i e) (waiting_alive x.phase p) | inr p ↦ p ]

    orphans : keep st (orphans_end js s.tasks) ≡ keep st s.tasks
    orphans =
        keep_pass _ _ st (orphans_pass js s.tasks) (λ x i d. clash (is_waiting x.phase) d.1 (ends x i d.0)) (λ x y i r. elim r [ inl e ↦ ap st e | inr e ↦ ap st e.1.1 ])
        (λ x y i r o. elim r [ inl e ↦ e | inr e ↦ e.1.1 ∙ ending_ending x (w x i o) ])

    ending : (j : Job) → In j js → (u : State) → P u → (xs : List Task) → MayEnd u j xs → keep st (ended xs u.tasks) ≡ keep st s.tasks
    ending j ji u p [] m = p.1
    ending j ji u p (t ∷ ts) m =
        keep_pass _ _ st (ended_pass 0 u.tasks p.0.0 t m.0 ts) (λ x i d. ap st d.0 ∙ of_is_wanted js j ji t m.1) (λ x y i r. elim r [ inl e ↦ ap st e | inr e ↦ ap st e.1.1 ])
        (λ x y i r o. elim r [ inl e ↦ e | inr e ↦ clash (st x) o (ap st e.0 ∙ of_is_wanted js j ji t m.1) ])
        ∙ p.1

    all : P (unplaced s)
    all = steps_are P js (with_tasks (orphans_end js s.tasks) s) (λ j ji u p. (tidy_step j u p.0, step_is (λ (v : State). keep st v.tasks ≡ keep st s.tasks) j u (ending j ji u p) (λ xs m g. keep_off st (ended xs u.tasks) (fresh j u.next_id) (of_is_wanted js j ji (fresh j u.next_id) (same_refl j.name)) ∙ ending j ji u p xs m)))
        (tidy_pass _ _ (orphan_id js) s (orphans_pass js s.tasks) f.tidy, orphans)

    placing : keep st (settle s).tasks ≡ keep st (unplaced s).tasks
    placing =
        keep_pass Never Put st (settle_pass s f.tidy) (λ x i d. absurd d) (λ x y i r. elim r [ inl e ↦ ap st e | inr e ↦ ap st e.3 ])
        (λ x y i r o. elim r [ inl e ↦ e | inr e ↦ clash (is_waiting x.phase) e.0 (let k = in_keep st s.tasks x (subst (In x) all.1 (keep_in st (unplaced s).tasks x i o)) in ends x k.0 k.1) ])

strays_from : (s : State) → Fine s → Wanted s.jobs s.tasks → (t : Task) → In t (settle s).tasks → jobless s.jobs t ≡ true → In t s.tasks
strays_from s f w t i e = (in_keep (jobless s.jobs) s.tasks t (subst (In t) (strays_pass s f w) (keep_in (jobless s.jobs) (settle s).tasks t i e))).0

-- MOVES

abbrev pub Ending' : List Job → Scene → Type 0
Ending' js w = (w.herd.jobs ≡ js) × Wanted js w.herd.tasks

-- what a report leaves of them
told_from : (js : List Job) {w v : Scene} (i : ℕ) (vs : Visits w v i) → Ending' js w → (t : Task) → In t (told w v i vs).tasks → jobless js t ≡ true → In t w.herd.tasks × ((on_machine i t ≡ false) ⊎ (some (is_seen t.id) vs.said ≡ true))
told_from js {w} {v} i vs h t k e = let q = pass_from _ _ (hear_pass i (w.life i) vs.said vs.ready w.herd.tasks) t k in pick q.0 q.1 q.2 q.3 q.4
  where
    pick : (x : Task) → In x w.herd.tasks → (y : Task) → Went i vs.said x y → t ≡ y → In t w.herd.tasks × ((on_machine i t ≡ false) ⊎ (some (is_seen t.id) vs.said ≡ true))
    pick x a y (inl r) c = let z : t ≡ x = c ∙ r.1 in (subst (λ (b : Task). In b w.herd.tasks) (sym z) a, inl (ap (on_machine i) z ∙ r.0))
    pick x a y (inr (o, inl r)) c = let z : t ≡ x = c ∙ r.2 in (subst (λ (b : Task). In b w.herd.tasks) (sym z) a, inr (ap (λ (b : Task). some (is_seen b.id) vs.said) z ∙ r.1))
    pick x a y (inr (o, inr r)) c = let z : t.job ≡ x.job = ap (λ (b : Task). b.job) (c ∙ r.1) in clash (is_ending x.phase) (h.1 x a (sym (ap (λ n. not (some (λ (j : Job). same j.name n) js)) z) ∙ e)) r.0

timed_from : (js : List Job) (t : ℕ) (w : Scene) → Ending' js w → (x : Task) → In x (timed t w.herd).tasks → jobless js x ≡ true → In x w.herd.tasks
timed_from js t w h x k e = let q = pass_from Never Unsured (unsured t w.herd.machines w.herd.tasks) x k in pick q.0 q.1 q.2 q.3 q.4
  where
    pick : (a : Task) → In a w.herd.tasks → (y : Task) → Unsured a y → x ≡ y → In x w.herd.tasks
    pick a i y (inl r) c = subst (λ (b : Task). In b w.herd.tasks) (sym (c ∙ r)) i
    pick a i y (inr r) c = clash (is_ending a.phase) (h.1 a i (sym (ap (jobless js) (c ∙ r.1)) ∙ e)) (ready_alive a.phase r.0)

told_ending : (js : List Job) {w v : Scene} (i : ℕ) (vs : Visits w v i) → Ending' js w → Wanted js (told w v i vs).tasks
told_ending js i vs h t k e = h.1 t (told_from js i vs h t k e).0 e

timed_ending : (js : List Job) (t : ℕ) (w : Scene) → Ending' js w → Wanted js (timed t w.herd).tasks
timed_ending js t w h x k e = h.1 x (timed_from js t w h x k e) e

visit_from : (js : List Job) {w v : Scene} (i : ℕ) → Fine w.herd → (vs : Visits w v i) → Ending' js w → (t : Task) → In t v.herd.tasks → jobless js t ≡ true → In t (told w v i vs).tasks
visit_from js {w} {v} i f vs h t k e =
    let u = told w v i vs in
    strays_from u (fine_heard i _ _ _ w.herd f) (subst (λ (ks : List Job). Wanted ks u.tasks) (sym h.0) (told_ending js i vs h)) t (subst (λ (s : State). In t s.tasks) vs.herd k) (ap (λ (ks : List Job). jobless ks t) h.0 ∙ e)

-- none comes
stray_move : (js : List Job) {ks : List ℕ} {w v : Scene} → Fine w.herd → Move ks w v → Ending' js w → (t : Task) → In t v.herd.tasks → jobless js t ≡ true → In t w.herd.tasks
stray_move js f (visit i vs snd) h t k e = (told_from js i vs h t (visit_from js i f vs h t k e) e).0
stray_move js {w = w} {v = v} f (tick ts snd) h t k e =
    let u = timed ts.time w.herd in
    timed_from js ts.time w h t (strays_from u (fine_timed ts.time w.herd f) (subst (λ (ks : List Job). Wanted ks u.tasks) (sym h.0) (timed_ending js ts.time w h)) t (subst (λ (s : State). In t s.tasks) ts.herd k) (ap (λ (ks : List Job). jobless ks t) h.0 ∙ e)) e
stray_move js f (stays ss snd) h t k e = subst (λ (s : State). In t s.tasks) ss.herd k

ending_move : (js : List Job) {ks : List ℕ} {w v : Scene} → Fine w.herd → Move ks w v → Ending' js w → Ending' js v
ending_move js f c h = (jobs_move c ∙ h.0, λ t i e. h.1 t (stray_move js f c h t i e) e)

abbrev pub Unordered : List Job → Scene → ℕ → Type 0
Unordered js w i = (t : Task) → In t w.herd.tasks → jobless js t ≡ true → on_machine i t ≡ true → some (is_order t.id) (w.ordered i) ≡ false

abbrev pub GoneFrom : List Job → Scene → ℕ → Type 0
GoneFrom js w i = (t : Task) → In t w.herd.tasks → jobless js t ≡ true → on_machine i t ≡ false

unordered_move : (js : List Job) {ks : List ℕ} {w v : Scene} → Fine w.herd → Move ks w v → Ending' js w → (i : ℕ) → Unordered js w i ⊎ In i ks → Unordered js v i
unordered_move js {w = w} {v = v} f (visit k vs snd) h i o = pick (eqb i k) refl o
  where
    hv : Ending' js v
    hv = ending_move js f (visit k vs snd) h

    pick : (b : Bool) → eqb i k ≡ b → Unordered js w i ⊎ In i (k ∷ []) → Unordered js v i
    pick true e x = subst (Unordered js v) (sym (eqb-true i k e)) (λ t a s m. visit_exact k f vs t a m ∙ ap not (hv.1 t a s))
    pick false e (inr (inl x)) = absurd (eqb-false i k e x)
    pick false e (inr (inr x)) = absurd x
    pick false e (inl x) = λ t a s m. ap (some (is_order t.id)) (vs.others i e) ∙ x t (stray_move js f (visit k vs snd) h t a s) s m
unordered_move js f (tick ts snd) h i (inr x) = absurd x
unordered_move js f (tick ts snd) h i (inl x) = λ t a s m. ap (some (is_order t.id)) (ts.ordered i) ∙ x t (stray_move js f (tick ts snd) h t a s) s m
unordered_move js f (stays ss snd) h i (inr x) = absurd x
unordered_move js f (stays ss snd) h i (inl x) = λ t a s m. ap (some (is_order t.id)) (ss.ordered i) ∙ x t (stray_move js f (stays ss snd) h t a s) s m

gone_move : (js : List Job) {ks : List ℕ} {w v : Scene} → Fine w.herd → Move ks w v → Ending' js w → (i : ℕ) → Unordered js w i → GoneFrom js w i ⊎ In i ks → GoneFrom js v i
gone_move js f c h i x (inl y) = λ t a s. y t (stray_move js f c h t a s) s
gone_move js {w = w} {v = v} f (visit k vs snd) h i x (inr (inl e)) = λ t a s. let q = told_from js k vs h t (visit_from js k f vs h t a s) s in pick t s q.0 q.1
  where
    pick : (t : Task) → jobless js t ≡ true → In t w.herd.tasks → (on_machine k t ≡ false) ⊎ (some (is_seen t.id) vs.said ≡ true) → on_machine i t ≡ false
    pick t s a (inl m) = ap (λ (n : ℕ). on_machine n t) e ∙ m
    pick t s a (inr m) = elim (bool (on_machine i t)) [ inl o ↦ clash (some (is_seen t.id) vs.said) m (vs.seen t.id ∙ (ap (λ (n : ℕ). some (is_order t.id) (w.ordered n)) (sym e) ∙ x t a s o)) | inr o ↦ o ]
gone_move js f (visit k vs snd) h i x (inr (inr e)) = absurd e
gone_move js f (tick ts snd) h i x (inr y) = absurd y
gone_move js f (stays ss snd) h i x (inr y) = absurd y

-- ROUNDS

pub record StraysIn (js : List Job) (ks : List ℕ) (w v : Scene) : Type 0 where
  pub ending : Ending' js v
  pub unordered : (i : ℕ) → Unordered js w i ⊎ In i ks → Unordered js v i
  pub gone : (i : ℕ) → Unordered js w i → GoneFrom js w i ⊎ In i ks → GoneFrom js v i

pub strays_run : {P : State → Type 0} (js : List Job) {ks : List ℕ} {w v : Scene} → Moves P ks w v → Fine w.herd → Ending' js w → StraysIn js ks w v
strays_run js (stop w) f h = record { ending = h; unordered = λ i o. elim o [ inl x ↦ x | inr x ↦ absurd x ]; gone = λ i x o. elim o [ inl y ↦ y | inr y ↦ absurd y ] }
strays_run js (go {ks = ks} {ls = ls} {w = w} {u = u} {v = v} c r rest) f h = join (strays_run js rest (sound_move c).fine (ending_move js f c h))
  where
    join : StraysIn js ls u v → StraysIn js (ks ++ ls) w v
    join b = record { ending = b.ending; unordered = unordered; gone = gone }
      where
        unordered : (i : ℕ) → Unordered js w i ⊎ In i (ks ++ ls) → Unordered js v i
        unordered i (inl x) = b.unordered i (inl (unordered_move js f c h i (inl x)))
        unordered i (inr x) = elim (in_app i ks ls x) [ inl y ↦ b.unordered i (inl (unordered_move js f c h i (inr y))) | inr y ↦ b.unordered i (inr y) ]

        gone : (i : ℕ) → Unordered js w i → GoneFrom js w i ⊎ In i (ks ++ ls) → GoneFrom js v i
        gone i x (inl y) = b.gone i (unordered_move js f c h i (inl x)) (inl (gone_move js f c h i x (inl y)))
        gone i x (inr y) = elim (in_app i ks ls y) [ inl z ↦ b.gone i (unordered_move js f c h i (inl x)) (inl (gone_move js f c h i x (inr z))) | inr z ↦ b.gone i (unordered_move js f c h i (inl x)) (inr z) ]

abbrev pub NoStrays : List Job → Scene → Type 0
NoStrays js w = (t : Task) → In t w.herd.tasks → jobless js t ≡ true → ⊥

-- after two rounds there are none
pub strays_gone : {P Q : State → Type 0} (js : List Job) (w u v : Scene) → Fine w.herd → Ending' js w → Turn P w u → Turn Q u v → Fine u.herd → Going v → NoStrays js v
strays_gone js w u v f h (ks, ra, ca) (ls, rb, cb) fu gv t i e =
    let a = strays_run js ra f h in
    let b = strays_run js rb fu a.ending in
    let n : is_waiting t.phase ≡ false = elim (bool (is_waiting t.phase)) [ inl p ↦ clash (is_ending t.phase) (b.ending.1 t i e) (waiting_alive t.phase p) | inr p ↦ p ] in
    let x = gv.sound.told t i n in
    let y = back_run rb x.0 x.1 in let z = back_run ra y.0 y.1 in
    let k : In y.0.num ls = in_from (cb y.0 (in_to y.0 u.herd.machines y.1)) in
    let l : In y.0.num ks = subst (λ (q : ℕ). In q ks) (sym z.2) (in_from (ca z.0 (in_to z.0 w.herd.machines z.1))) in
    let o : on_machine y.0.num t ≡ true = and_from _ _ (ap not n) (eq-eqb y.0.num t.machine (sym y.2 ∙ x.2)) in
    clash (on_machine y.0.num t) o (b.gone y.0.num (a.unordered y.0.num (inr l)) (inr k) t i e)

pub strays_stay : {P : State → Type 0} (js : List Job) {n : ℕ} {w v : Scene} → Turns P n w v → Going w → Ending' js w → NoStrays js w → NoStrays js v
strays_stay js (Turns.none w) g h x = x
strays_stay {P} js (Turns.more {w = w} {u = u} ro rest) g h x = let a = strays_run js ro.1 g.sound.fine h in strays_stay js rest (going_run ro.1 g) a.ending (none ro.1 g h x)
  where
    none : {ks : List ℕ} {a b : Scene} → Moves P ks a b → Going a → Ending' js a → NoStrays js a → NoStrays js b
    none (stop a) g h x = x
    none (go c r more) g h x = none more (going_move g c) (ending_move js g.sound.fine c h) (λ t i e. x t (stray_move js g.sound.fine c h t i e) e)
