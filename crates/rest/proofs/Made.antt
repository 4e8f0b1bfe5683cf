-- A round can always be made, as long as numbers are left.
-- Assumes nothing.
use Rattle.std.proofs.Common.{◌≡◌, ℕ, zero, suc, ◌+◌, ◌*◌, ◌<◌, ◌≤◌, Bool, true, false, cond, ◌&&◌, eqb, ◌⊎◌, List, [], ◌∷◌, ◌++◌, length, sym, refl, ap, ◌∙◌, subst, inl, inr, append_assoc, arith}
use mathlib.Core.List.{Memᴰ}
use Rattle.std.proofs.lemmas.Bool.{true≢false, and_parts, and_from, eqb-true, eq-eqb}
use Rattle.model.specs.State.{Machine, State, is_machine}
use Rattle.model.specs.Settle.{settle}
use Rattle.model.specs.Calls.{Seen, Report, Order, Run, heard_from, does, heard}
use Rattle.model.specs.World.{Agent, Word, Up, Back, World, put, is_seen, is_ready_in, obeys, Reach, reported}
use Rattle.rest.specs.Rounds.{Anyhow, Obeyed, Calm, Course, Round, Rounds}
use Rattle.std.proofs.Math.Nat.{suc-mul}
use Rattle.model.specs.Lists.{change}
use Rattle.model.specs.Calls.{timed}
use Rattle.rest.proofs.Scenes.{Scene, told, Move, visit, tick, stays, Moves, stop, go}
use Rattle.rest.proofs.Quiets.{back_run}
use Rattle.rest.specs.Rest.{next_report, said_by, RoundCanBe, RoundsCanBe}
use Rattle.model.proofs.Lists.{bool, In, in_from, in_to, some_from, some_at, pass_change, pass_to}
use Rattle.model.proofs.Settles.{unplaced_alike}
use Rattle.model.proofs.Worlds.{hears_is, put_is}
use Rattle.rest.proofs.Origins.{says_ready}
use Rattle.rest.proofs.Answered.{is_answered}
use Rattle.rest.proofs.Lines.{runs, run_reach}
use Rattle.rest.proofs.Alone.{not_up, one_reach, put_at, put_off, Near, near_then, Started, start_all, Readied, ready_all}

-- THE ANSWER THAT IT HAS IS OBEYED

find_back : (i l n : ℕ) (ws : List Word) → ((os : List Order) × In (Back i l n os) ws) ⊎ ((os : List Order) → In (Back i l n os) ws → ⊥)
find_back i l n [] = inr (λ os k. k)
find_back i l n (Up j l' n' xs ∷ ws) = elim (find_back i l n ws) [ inl (os, k) ↦ inl (os, inr k) | inr f ↦ inr (λ os k. f os (not_up j l' n' xs i l n os ws k)) ]
find_back i l n (Back j l' n' ps ∷ ws) = pick (bool ((eqb i j && eqb l l') && eqb n n')) (find_back i l n ws)
  where
    Z : Type 0
    Z = ((os : List Order) × In (Back i l n os) (Back j l' n' ps ∷ ws)) ⊎ ((os : List Order) → In (Back i l n os) (Back j l' n' ps ∷ ws) → ⊥)

    neither : ((eqb i j && eqb l l') && eqb n n') ≡ false → ((os : List Order) → In (Back i l n os) ws → ⊥) → (os : List Order) → In (Back i l n os) (Back j l' n' ps ∷ ws) → ⊥
    neither e f os (inl p) = let a : i ≡ j = cc in let b : l ≡ l' = cc in let c : n ≡ n' = cc in true≢false (sym (and_from _ _ (and_from _ _ (eq-eqb i j a) (eq-eqb l l' b)) (eq-eqb n n' c)) ∙ e)
    neither e f os (inr k) = f os k

    pick : (((eqb i j && eqb l l') && eqb n n') ≡ true) ⊎ (((eqb i j && eqb l l') && eqb n n') ≡ false) → ((os : List Order) × In (Back i l n os) ws) ⊎ ((os : List Order) → In (Back i l n os) ws → ⊥) → Z
    pick (inl e) r = let p = and_parts (eqb i j && eqb l l') (eqb n n') e in let q = and_parts (eqb i j) (eqb l l') p.0 in let a = eqb-true i j q.0 in let b = eqb-true l l' q.1 in let c = eqb-true n n' p.1 in inl (ps, inl (λ k. Back (a k) (b k) (c k) ps))
    pick (inr e) (inl (os, k)) = inl (os, inr k)
    pick (inr e) (inr f) = inr (neither e f)

-- as Near, but for what is ordered
pub record By (i : ℕ) (w v : World) : Type 0 where
  pub herd : v.herd ≡ w.herd
  pub life : (v.agent i).life ≡ (w.agent i).life
  pub number : (v.agent i).number ≡ (w.agent i).number
  pub others : (j : ℕ) → eqb j i ≡ false → v.agent j ≡ w.agent j

heed_it : (w : World) (i : ℕ) → Reach w → (v : World) × Course Anyhow [] w v × By i w v × Obeyed v i
heed_it w i r = pick (find_back i (w.agent i).life (w.agent i).number w.sent)
  where
    pick : ((os : List Order) × In (Back i (w.agent i).life (w.agent i).number os) w.sent) ⊎ ((os : List Order) → In (Back i (w.agent i).life (w.agent i).number os) w.sent → ⊥) → (v : World) × Course Anyhow [] w v × By i w v × Obeyed v i
    pick (inr f) = (w, Course.stop w, record { herd = refl; life = refl; number = refl; others = λ j e. refl }, λ os k. absurd (f os (in_from k)))
    pick (inl (os, k)) =
        let at = put_at i (obeys os (w.agent i)) w.agent in
        let v : World = record { herd = w.herd; agent = put i (obeys os (w.agent i)) w.agent; sent = w.sent } in (
          v,
          Course.go (Calm.heeds w i os (in_to _ w.sent k)) tt (Course.stop v),
          record { herd = refl; life = ap (λ (a : Agent). a.life) at; number = ap (λ (a : Agent). a.number) at; others = λ j e. put_off i j (obeys os (w.agent i)) w.agent e },
          subst (λ (b : Agent). (ps : List Order) → Memᴰ (Back i b.life b.number ps) w.sent → b.ordered ≡ ps) (sym at) (λ ps q. one_reach r i os ps k (in_from q)),
        )

-- ONE MACHINE'S PART

runs_then : {P : State → Type 0} {ks ls : List ℕ} {w u v : World} → Course P ks w u → Course P ls u v → Course P (ks ++ ls) w v
runs_then (Course.stop w) q = q
runs_then {P} {ls = ms} {v = v} (Course.go {ks = ks} {ls = ls} {w = w} c p rest) q = subst (λ (zs : List ℕ). Course P zs w v) (sym (append_assoc ks ls ms)) (Course.go c p (runs_then rest q))

pub record After (w v : World) : Type 0 where
  pub now : v.herd.now ≡ w.herd.now
  pub on : (x : Machine) → In x w.herd.machines → (y : Machine) × In y v.herd.machines × (y.num ≡ x.num)
  pub life : (j : ℕ) → (v.agent j).life ≡ (w.agent j).life
  pub number : (j : ℕ) → (v.agent j).number ≤ suc (w.agent j).number

abbrev NumSame : Machine → Machine → Type 0
NumSame x y = y.num ≡ x.num

heard_after : (i l n : ℕ) (xs : List Seen) (s : State) (k : ℕ) (os : List Order) → (does (Report i l n xs) s).reply ≡ Run k os → let u = (does (Report i l n xs) s).state in (u.now ≡ s.now) × ((x : Machine) → In x s.machines → (y : Machine) × In y u.machines × (y.num ≡ x.num))
heard_after i l n xs s k os e = hears_is (λ (k' : ℕ) (os' : List Order) (u : State). (u.now ≡ s.now) × ((x : Machine) → In x s.machines → (y : Machine) × In y u.machines × (y.num ≡ x.num))) i l n xs s (λ m ms f g. ((unplaced_alike (heard i l n xs s)).0, to)) k os e
  where
    to : (x : Machine) → In x s.machines → (y : Machine) × In y (settle (heard i l n xs s)).machines × (y.num ≡ x.num)
    to x j = pick (pass_to (λ z. ⊥) NumSame (pass_change (λ z. ⊥) NumSame (is_machine i) (heard_from l n s.now) s.machines (λ z q. refl) (λ z q d. refl)) x j)
      where
        pick : ((y : Machine) × In y (heard i l n xs s).machines × NumSame x y) ⊎ ⊥ → (y : Machine) × In y (settle (heard i l n xs s)).machines × (y.num ≡ x.num)
        pick (inl (y, q, r)) = (y, subst (λ (ms : List Machine). In y ms) (sym (unplaced_alike (heard i l n xs s)).1) q, r)
        pick (inr z) = absurd z

-- what is ready is reported, heard and answered
send_hear : (c : World) (i : ℕ) (m : Machine) → m.num ≡ i → Reach c → Memᴰ m c.herd.machines → 0 < c.herd.now → 0 < (c.agent i).life → (c.agent i).life ≤ 4611686018427387904 → (c.agent i).number < 4611686018427387904 → Obeyed c i → ((x : Seen) → In x (said_by (c.agent i)) → x.ready ≡ true) → (v : World) × Course Anyhow (i ∷ []) c v × After c v
send_hear c i m mi r mm t l lo no' ob rd = (e, Course.go (Calm.sends c i l ob) tt (Course.go {ls = []} (Calm.hears d i xs os mem (λ x k. rd x (in_from k)) reply) tt (Course.stop e)), after)
  where
    a : Agent
    a = c.agent i

    xs : List Seen
    xs = said_by a

    d : World
    d = record { herd = c.herd; agent = put i (reported a) c.agent; sent = Up i a.life (a.number + 1) xs ∷ c.sent }

    at : d.agent i ≡ reported a
    at = put_at i (reported a) c.agent

    answer : (os : List Order) × ((does (next_report c i) c.herd).reply ≡ Run (a.number + 1) os)
    answer = subst (λ (k : ℕ). (c.agent k).life ≤ 4611686018427387904 → (c.agent k).number < 4611686018427387904 → (os : List Order) × ((does (next_report c k) c.herd).reply ≡ Run ((c.agent k).number + 1) os)) mi (λ p q. is_answered c m r mm t p q) lo no'

    os : List Order
    os = answer.0

    mem : Memᴰ (Up i (d.agent i).life (d.agent i).number xs) d.sent
    mem = subst (λ (b : Agent). Memᴰ (Up i b.life b.number xs) d.sent) (sym at) (Memᴰ.head refl)

    reply : (does (Report i (d.agent i).life (d.agent i).number xs) d.herd).reply ≡ Run (d.agent i).number os
    reply = subst (λ (b : Agent). (does (Report i b.life b.number xs) c.herd).reply ≡ Run b.number os) (sym at) answer.1

    e : World
    e = record { herd = (does (Report i (d.agent i).life (d.agent i).number xs) d.herd).state; agent = d.agent; sent = Back i (d.agent i).life (d.agent i).number os ∷ d.sent }

    after : After c e
    after =
        let h = heard_after i (d.agent i).life (d.agent i).number xs c.herd _ os reply in
        record { now = h.0; on = h.1; life = put_is (λ (j : ℕ) (b : Agent). b.life ≡ (c.agent j).life) i (reported a) c.agent refl (λ j q. refl); number = put_is (λ (j : ℕ) (b : Agent). b.number ≤ suc (c.agent j).number) i (reported a) c.agent (omega arith) (λ j q. omega arith) }

obeyed_near : {i : ℕ} {w v : World} → Near i w v → Obeyed w i → Obeyed v i
obeyed_near {i} {w} {v} n o os k =
    n.ordered ∙ o os (subst (λ (ws : List Word). Memᴰ (Back i (w.agent i).life (w.agent i).number os) ws) n.sent (subst (λ (x : ℕ). Memᴰ (Back i (w.agent i).life x os) v.sent) n.number (subst (λ (x : ℕ). Memᴰ (Back i x (v.agent i).number os) v.sent) n.life k)))

visit_made : (w : World) (i : ℕ) (m : Machine) → m.num ≡ i → Reach w → Memᴰ m w.herd.machines → 0 < w.herd.now → 0 < (w.agent i).life → (w.agent i).life ≤ 4611686018427387904 → (w.agent i).number < 4611686018427387904 → (v : World) × Course Anyhow (i ∷ []) w v × After w v
visit_made w i m mi r mm t l lo no' = (z.0, runs_then way z.1, after)
  where
    A : (v : World) × Course Anyhow [] w v × By i w v × Obeyed v i
    A = heed_it w i r

    B : Started i (A.0.agent i).ordered A.0
    B = start_all i (A.0.agent i).ordered A.0 (λ o j. j)

    C : Readied i B.0
    C = ready_all i (B.0.agent i).runs [] B.0 refl (λ x j. absurd j)

    c : World
    c = C.0

    n : Near i A.0 c
    n = near_then B.2 C.2

    way : Course Anyhow [] w c
    way = runs_then A.1 (runs_then B.1 C.1)

    herd : c.herd ≡ w.herd
    herd = n.herd ∙ A.2.herd

    life : (c.agent i).life ≡ (w.agent i).life
    life = n.life ∙ A.2.life

    number : (c.agent i).number ≡ (w.agent i).number
    number = n.number ∙ A.2.number

    ready : (o : Order) → In o (c.agent i).ordered → is_ready_in o.id (c.agent i).runs ≡ true
    ready o j =
        let s = C.3 o.id (B.4 o (subst (λ (os : List Order). In o os) n.ordered j)) in let q = some_at (is_seen o.id) (c.agent i).runs s in
        some_from (λ (x : Seen). eqb o.id x.id && x.ready) (c.agent i).runs q.0 q.1 (and_from _ _ q.2 (C.4 q.0 q.1))

    z : (v : World) × Course Anyhow (i ∷ []) c v × After c v
    z = send_hear c i m mi (run_reach r way) (subst (λ (s : State). Memᴰ m s.machines) (sym herd) mm) (subst (λ (s : State). 0 < s.now) (sym herd) t) (subst (λ (k : ℕ). 0 < k) (sym life) l) (subst (λ (k : ℕ). k ≤ 4611686018427387904) (sym life) lo) (subst (λ (k : ℕ). k < 4611686018427387904) (sym number) no') (obeyed_near n A.3) (says_ready (c.agent i).runs (c.agent i).ordered ready)

    others : (j : ℕ) → eqb j i ≡ false → c.agent j ≡ w.agent j
    others j e = n.others j e ∙ A.2.others j e

    both : (P : ℕ → Type 0) → P i → ((j : ℕ) → eqb j i ≡ false → P j) → (j : ℕ) → P j
    both P p q j = elim (bool (eqb j i)) [ inl e ↦ subst P (sym (eqb-true j i e)) p | inr e ↦ q j e ]

    after : After w z.0
    after =
        record {
          now = z.2.now ∙ ap (λ (s : State). s.now) herd;
          on = λ x j. z.2.on x (subst (λ (s : State). In x s.machines) (sym herd) j);
          life = λ j. z.2.life j ∙ both (λ (k : ℕ). (c.agent k).life ≡ (w.agent k).life) life (λ k e. ap (λ (a : Agent). a.life) (others k e)) j;
          number = λ j. subst (λ (k : ℕ). (z.0.agent j).number ≤ suc k) (both (λ (k : ℕ). (c.agent k).number ≡ (w.agent k).number) number (λ k e. ap (λ (a : Agent). a.number) (others k e)) j) (z.2.number j);
        }

-- ALL MACHINES, ONE AFTER THE OTHER

abbrev Able : World → ℕ → ℕ → Type 0
Able w k i = (0 < (w.agent i).life) × ((w.agent i).life ≤ 4611686018427387904) × ((w.agent i).number + k ≤ 4611686018427387904)

-- a report of each is heard; times and lives stay, and no report number rises by more than there are machines
pub record Made (ms : List Machine) (w : World) : Type 0 where
  pub after : World
  pub heard_of : List ℕ
  pub way : Course Anyhow heard_of w after
  pub each : (x : Machine) → In x ms → In x.num heard_of
  pub now : after.herd.now ≡ w.herd.now
  pub life : (j : ℕ) → (after.agent j).life ≡ (w.agent j).life
  pub number : (j : ℕ) → (after.agent j).number ≤ (w.agent j).number + length ms

all_made : (ms : List Machine) (w : World) → Reach w → 0 < w.herd.now → ((x : Machine) → In x ms → (y : Machine) × In y w.herd.machines × (y.num ≡ x.num)) → ((x : Machine) → In x ms → Able w (length ms) x.num) → Made ms w
all_made [] w r t h a = record { after = w; heard_of = []; way = Course.stop w; each = λ x j. absurd j; now = refl; life = λ j. refl; number = λ j. omega arith }
all_made (m ∷ ms) w r t h a = join (all_made ms v (run_reach r z.1) (subst (λ (k : ℕ). 0 < k) (sym z.2.now) t) there able)
  where
    y : (x : Machine) × In x w.herd.machines × (x.num ≡ m.num)
    y = h m (inl refl)

    a₀ : Able w (suc (length ms)) m.num
    a₀ = a m (inl refl)

    z : (v : World) × Course Anyhow (m.num ∷ []) w v × After w v
    z = visit_made w m.num y.0 y.2 r (in_to y.0 w.herd.machines y.1) t a₀.0 a₀.1 (let b : (w.agent m.num).number + suc (length ms) ≤ 4611686018427387904 = a₀.2 in omega arith)

    v : World
    v = z.0

    there : (x : Machine) → In x ms → (q : Machine) × In q v.herd.machines × (q.num ≡ x.num)
    there x j = let p = h x (inr j) in let q = z.2.on p.0 p.1 in (q.0, q.1, q.2 ∙ p.2)

    able : (x : Machine) → In x ms → Able v (length ms) x.num
    able x j =
        let p = a x (inr j) in let b : (w.agent x.num).number + suc (length ms) ≤ 4611686018427387904 = p.2 in let c : (v.agent x.num).number ≤ suc (w.agent x.num).number = z.2.number x.num in
        (subst (λ (k : ℕ). 0 < k) (sym (z.2.life x.num)) p.0, subst (λ (k : ℕ). k ≤ 4611686018427387904) (sym (z.2.life x.num)) p.1, omega arith)

    join : Made ms v → Made (m ∷ ms) w
    join q =
        record {
          after = q.after;
          heard_of = m.num ∷ q.heard_of;
          way = runs_then z.1 q.way;
          each = each;
          now = q.now ∙ z.2.now;
          life = λ j. q.life j ∙ z.2.life j;
          number = λ j. let b : (q.after.agent j).number ≤ (v.agent j).number + length ms = q.number j in let c : (v.agent j).number ≤ suc (w.agent j).number = z.2.number j in omega arith;
        }
      where
        each : (x : Machine) → In x (m ∷ ms) → In x.num (m.num ∷ q.heard_of)
        each x (inl e) = inl (ap (λ (k : Machine). k.num) e)
        each x (inr j) = inr (q.each x j)

whole_round : (w : World) → Reach w → 0 < w.herd.now → ((m : Machine) → Memᴰ m w.herd.machines → Able w (length w.herd.machines) m.num) → Made w.herd.machines w
whole_round w r t h = all_made w.herd.machines w r t (λ x j. (x, j, refl)) (λ x j. h x (in_to x w.herd.machines j))

round_from : {w : World} → (z : Made w.herd.machines w) → Round Anyhow w z.after
round_from {w} z = (z.heard_of, z.way, λ m j. in_to m.num z.heard_of (z.each m (in_from j)))

pub round_can_be : RoundCanBe
round_can_be w r t h = let z = whole_round w r t h in (z.after, round_from z)

-- ROUND AFTER ROUND

length_change : {A : Type 0} (f : A → Bool) (g : A → A) (xs : List A) → length (change f g xs) ≡ length xs
unfolding change
length_change f g [] = refl
length_change {A} f g (x ∷ xs) = pick (f x) (length_change f g xs)
  where
    pick : (b : Bool) → length (change f g xs) ≡ length xs → length (cond b (g x ∷ xs) (x ∷ change f g xs)) ≡ suc (length xs)
    pick true e = refl
    pick false e = ap suc e

count_move : {ks : List ℕ} {w v : Scene} → Move ks w v → length v.herd.machines ≡ length w.herd.machines
count_move {w = w} {v = v} (visit i vs snd) = ap (λ (s : State). length s.machines) vs.herd ∙ (ap length (unplaced_alike (told w v i vs)).1 ∙ length_change (is_machine i) _ w.herd.machines)
count_move {w = w} (tick ts snd) = ap (λ (s : State). length s.machines) ts.herd ∙ ap length (unplaced_alike (timed ts.time w.herd)).1
count_move (stays ss snd) = ap (λ (s : State). length s.machines) ss.herd

count_run : {P : State → Type 0} {ks : List ℕ} {w v : Scene} → Moves P ks w v → length v.herd.machines ≡ length w.herd.machines
count_run (stop w) = refl
count_run (go c p rest) = count_run rest ∙ count_move c

pub rounds_can_be : RoundsCanBe
rounds_can_be w zero r t h = (w, Rounds.none w)
rounds_can_be w (suc n) r t h = join (rounds_can_be z.after n (run_reach r z.way) (subst (λ (k : ℕ). 0 < k) (sym z.now) t) able)
  where
    k : ℕ
    k = length w.herd.machines

    z : Made w.herd.machines w
    z = whole_round w r t (λ m j. let a = h m j in let b : (w.agent m.num).number + suc n * k ≤ 4611686018427387904 = a.2 in let c : suc n * k ≡ n * k + k = suc-mul n k in (a.0, a.1, omega arith))

    able : (m : Machine) → Memᴰ m z.after.herd.machines → Able z.after (n * length z.after.herd.machines) m.num
    able m j =
        let x = back_run (runs r z.way) m (in_from j) in
        let a = subst (Able w (suc n * k)) (sym x.2) (h x.0 (in_to x.0 w.herd.machines x.1)) in
        let b : (w.agent m.num).number + suc n * k ≤ 4611686018427387904 = a.2 in
        let c : suc n * k ≡ n * k + k = suc-mul n k in
        let d : (z.after.agent m.num).number ≤ (w.agent m.num).number + k = z.number m.num in
        (subst (λ (q : ℕ). 0 < q) (sym (z.life m.num)) a.0, subst (λ (q : ℕ). q ≤ 4611686018427387904) (sym (z.life m.num)) a.1, subst (λ (q : ℕ). (z.after.agent m.num).number + n * q ≤ 4611686018427387904) (sym (count_run (runs r z.way))) (omega arith))

    join : (v : World) × Rounds Anyhow n z.after v → (v : World) × Rounds Anyhow (suc n) w v
    join (v, rs) = (v, Rounds.more (round_from z) rs)
