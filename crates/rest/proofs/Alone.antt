-- What an agent does alone: all that is ordered can be started, and all that runs can become ready; and a report has one answer at most.
-- Assumes nothing.
use Rattle.std.proofs.Common.{◌≡◌, ℕ, ◌+◌, ◌≤◌, Bool, true, false, cond, not, ◌||◌, eqb, ◌⊎◌, List, [], ◌∷◌, ◌++◌, sym, refl, ap, ◌∙◌, subst, inl, inr, append_assoc, arith}
use Rattle.std.proofs.lemmas.Bool.{or_left, or_right, eqb-true, eq-eqb}
use Rattle.model.specs.State.{Machine, State, is_machine}
use Rattle.model.specs.Lists.{some, find}
use Rattle.model.specs.Calls.{Seen, Report, Order, does}
use Rattle.model.specs.World.{Agent, Word, Up, Back, World, put, is_seen, may_run, Step, Reach, running}
use Rattle.rest.specs.Rounds.{Anyhow, Calm, Course}
use Rattle.model.proofs.Lists.{from_true, In, in_to, find_in}
use Rattle.model.proofs.Hold.{once_machine}
use Rattle.model.proofs.Worlds.{Inv, inv_reach, News, is_news, hears_is, put_is}

never : {C : Type 0} → ◌≡◌ {A = ℕ} 0 1 → C
never z = absurd (omega arith)

-- ONE ANSWER TO A REPORT

abbrev One : List Word → ℕ → Agent → Type 0
One ws i a = (os ps : List Order) → In (Back i a.life a.number os) ws → In (Back i a.life a.number ps) ws → os ≡ ps

pub not_up : (i l n : ℕ) (xs : List Seen) (j l' n' : ℕ) (os : List Order) (ws : List Word) → In (Back j l' n' os) (Up i l n xs ∷ ws) → In (Back j l' n' os) ws
not_up i l n xs j l' n' os ws (inl p) = never (cc)
not_up i l n xs j l' n' os ws (inr k) = k

one_step : {w v : World} → Inv w → ((i : ℕ) → One w.sent i (w.agent i)) → Step w v → (i : ℕ) → One v.sent i (v.agent i)
one_step h f (Step.says w c nr nf) = f
one_step h f (Step.forgets w k) = put_is (One w.sent) k _ w.agent (λ os ps m q. let z : (w.agent k).life + 1 ≤ (w.agent k).life = ((h.agents k).backs _ _ os m).0 in absurd (omega arith)) (λ j e. f j)
one_step h f (Step.forgets_off w k n o e) = f
one_step h f (Step.falls w) = f
one_step h f (Step.comes_up w k) = put_is (One w.sent) k _ w.agent (λ os ps m q. let z : (w.agent k).life + 1 ≤ (w.agent k).life = ((h.agents k).backs _ _ os m).0 in absurd (omega arith)) (λ j e. f j)
one_step h f (Step.reports w i l) =
    put_is (One (Up i (w.agent i).life ((w.agent i).number + 1) (may_run (w.agent i).runs (w.agent i).ordered) ∷ w.sent)) i _ w.agent (λ os ps m q. let z : (w.agent i).number + 1 ≤ (w.agent i).number = ((h.agents i).backs _ _ os (not_up i _ _ _ i _ _ os w.sent m)).1 refl in absurd (omega arith)) (λ j e os ps m q. f j os ps (not_up i _ _ _ j _ _ os w.sent m) (not_up i _ _ _ j _ _ ps w.sent q))
one_step h f (Step.hears w i l n xs k os m r) = λ j. both j
  where
    Q : ℕ → List Order → State → Type 0
    Q k' os' s = (x : Machine) × (ms : List Machine) × (find (is_machine i) w.herd.machines ≡ x ∷ ms) × (k' ≡ n) × News x l n

    q : Q k os (does (Report i l n xs) w.herd).state
    q = hears_is Q i l n xs w.herd (λ x ms e g. (x, ms, e, refl, is_news x l n g)) k os r

    fresh : (j l' n' : ℕ) (ps : List Order) → j ≡ i → l' ≡ l → n' ≡ k → l' ≡ (w.agent j).life → In (Back j l' n' ps) w.sent → ⊥
    fresh j l' n' ps a b c d z =
        let e = ((h.agents j).backs l' n' ps z).2 d in let g = find_in (is_machine i) w.herd.machines q.0 q.1 q.2 in
        let y : e.0 ≡ q.0 = once_machine w.herd.machines h.sound.fine.machines e.0 q.0 e.1.0 g.0 (e.1.1 ∙ (a ∙ eqb-true i q.0.num g.1)) in
        late q.4 (sym (ap (λ (z : Machine). z.life) y) ∙ (e.1.2 ∙ b)) (subst (λ (z : Machine). n' ≤ z.number) y e.2) (c ∙ q.3)
      where
        late : News q.0 l n → q.0.life ≡ l → n' ≤ q.0.number → n' ≡ n → ⊥
        late (inl z) x y t = omega arith
        late (inr z) x y t = omega arith

    both : (j : ℕ) (os' ps : List Order) → In (Back j (w.agent j).life (w.agent j).number os') (Back i l k os ∷ w.sent) → In (Back j (w.agent j).life (w.agent j).number ps) (Back i l k os ∷ w.sent) → os' ≡ ps
    both j os' ps (inl p) (inl q') = cc
    both j os' ps (inl p) (inr q') = let a : j ≡ i = cc in let b : (w.agent j).life ≡ l = cc in let c : (w.agent j).number ≡ k = cc in absurd (fresh j _ _ ps a b c refl q')
    both j os' ps (inr p) (inl q') = let a : j ≡ i = cc in let b : (w.agent j).life ≡ l = cc in let c : (w.agent j).number ≡ k = cc in absurd (fresh j _ _ os' a b c refl p)
    both j os' ps (inr p) (inr q') = f j os' ps p q'
one_step h f (Step.hears_not w i l n xs m r) = f
one_step h f (Step.obeyed w i os m) = put_is (One w.sent) i _ w.agent (f i) (λ j e. f j)
one_step h f (Step.starts w i o m n) = put_is (One w.sent) i _ w.agent (f i) (λ j e. f j)
one_step h f (Step.becomes w i before behind x b e) = put_is (One w.sent) i _ w.agent (f i) (λ j e'. f j)
one_step h f (Step.dies w i before behind x e) = put_is (One w.sent) i _ w.agent (f i) (λ j e'. f j)

pub one_reach : {w : World} → Reach w → (i : ℕ) → One w.sent i (w.agent i)
one_reach Reach.begin = λ i os ps k. absurd k
one_reach (Reach.then r s) = one_step (inv_reach r) (one_reach r) s

-- AN AGENT'S OWN STEPS

pub put_at : (i : ℕ) (a : Agent) (f : ℕ → Agent) → put i a f i ≡ a
put_at i a f = ap (λ (b : Bool). cond b a (f i)) (eq-eqb i i refl)

pub put_off : (i j : ℕ) (a : Agent) (f : ℕ → Agent) → eqb j i ≡ false → put i a f j ≡ f j
put_off i j a f e = ap (λ (b : Bool). cond b a (f j)) e

pub record Near (i : ℕ) (w v : World) : Type 0 where
  pub herd : v.herd ≡ w.herd
  pub sent : v.sent ≡ w.sent
  pub life : (v.agent i).life ≡ (w.agent i).life
  pub number : (v.agent i).number ≡ (w.agent i).number
  pub ordered : (v.agent i).ordered ≡ (w.agent i).ordered
  pub others : (j : ℕ) → eqb j i ≡ false → v.agent j ≡ w.agent j

near_refl : (i : ℕ) (w : World) → Near i w w
near_refl i w = record { herd = refl; sent = refl; life = refl; number = refl; ordered = refl; others = λ j e. refl }

pub near_then : {i : ℕ} {w u v : World} → Near i w u → Near i u v → Near i w v
near_then p q = record { herd = q.herd ∙ p.herd; sent = q.sent ∙ p.sent; life = q.life ∙ p.life; number = q.number ∙ p.number; ordered = q.ordered ∙ p.ordered; others = λ j e. q.others j e ∙ p.others j e }

near_put : (i : ℕ) (w : World) (rs : List Seen) → Near i w (record { herd = w.herd; agent = put i (running rs (w.agent i)) w.agent; sent = w.sent })
near_put i w rs =
    let e = put_at i (running rs (w.agent i)) w.agent in
    record { herd = refl; sent = refl; life = ap (λ (a : Agent). a.life) e; number = ap (λ (a : Agent). a.number) e; ordered = ap (λ (a : Agent). a.ordered) e; others = λ j d. put_off i j (running rs (w.agent i)) w.agent d }

abbrev Sees : World → ℕ → ℕ → Type 0
Sees w i k = some (is_seen k) (w.agent i).runs ≡ true

some_more : (f : Seen → Bool) (x : Seen) (xs : List Seen) → some f xs ≡ true → some f (x ∷ xs) ≡ true
unfolding some
some_more f x xs e = or_right (f x) (some f xs) e

some_first : (f : Seen → Bool) (x : Seen) (xs : List Seen) → f x ≡ true → some f (x ∷ xs) ≡ true
unfolding some
some_first f x xs e = or_left (f x) (some f xs) e

some_swap : (f : Seen → Bool) (before behind : List Seen) (x y : Seen) → f y ≡ f x → some f (before ++ y ∷ behind) ≡ some f (before ++ x ∷ behind)
unfolding some
some_swap f [] behind x y e = ap (λ (b : Bool). b || some f behind) e
some_swap f (b ∷ bs) behind x y e = ap (λ (c : Bool). f b || c) (some_swap f bs behind x y e)

abbrev pub Started : ℕ → List Order → World → Type 0
Started i os w = (v : World) × Course Anyhow [] w v × Near i w v × ((k : ℕ) → Sees w i k → Sees v i k) × ((o : Order) → In o os → Sees v i o.id)

pub start_all : (i : ℕ) (os : List Order) (w : World) → ((o : Order) → In o os → In o (w.agent i).ordered) → Started i os w
start_all i [] w h = (w, Course.stop w, near_refl i w, λ k s. s, λ o j. absurd j)
start_all i (o ∷ os) w h = pick (some (is_seen o.id) (w.agent i).runs) refl (λ u g. start_all i os u g)
  where
    more : (u : World) → Sees u i o.id → (z : Started i os u) → (p : Order) → In p (o ∷ os) → Sees z.0 i p.id
    more u s z p (inl e) = subst (λ (q : Order). Sees z.0 i q.id) (sym e) (z.3 o.id s)
    more u s z p (inr j) = z.4 p j

    x : Seen
    x = record { id = o.id; ready = false }

    u₁ : World
    u₁ = record { herd = w.herd; agent = put i (running (x ∷ (w.agent i).runs) (w.agent i)) w.agent; sent = w.sent }

    at : u₁.agent i ≡ running (x ∷ (w.agent i).runs) (w.agent i)
    at = put_at i (running (x ∷ (w.agent i).runs) (w.agent i)) w.agent

    keeps : (k : ℕ) → Sees w i k → Sees u₁ i k
    keeps k s = ap (λ (a : Agent). some (is_seen k) a.runs) at ∙ some_more (is_seen k) x (w.agent i).runs s

    sees : Sees u₁ i o.id
    sees = ap (λ (a : Agent). some (is_seen o.id) a.runs) at ∙ some_first (is_seen o.id) x (w.agent i).runs (eq-eqb o.id o.id refl)

    pick : (b : Bool) → some (is_seen o.id) (w.agent i).runs ≡ b → ((u : World) → ((p : Order) → In p os → In p (u.agent i).ordered) → Started i os u) → Started i (o ∷ os) w
    pick true e rec = let z = rec w (λ p j. h p (inr j)) in (z.0, z.1, z.2, z.3, more w e z)
    pick false e rec =
        let z = rec u₁ (λ p j. subst (λ (qs : List Order). In p qs) (sym (ap (λ (a : Agent). a.ordered) at)) (h p (inr j))) in
        (z.0, Course.go (Calm.starts w i o (in_to o (w.agent i).ordered (h o (inl refl))) (from_true _ (ap not e))) tt z.1, near_then (near_put i w (x ∷ (w.agent i).runs)) z.2, λ k s. z.3 k (keeps k s), more u₁ sees z)

abbrev pub Readied : ℕ → World → Type 0
Readied i w = (v : World) × Course Anyhow [] w v × Near i w v × ((k : ℕ) → Sees w i k → Sees v i k) × ((x : Seen) → In x (v.agent i).runs → x.ready ≡ true)

in_both : {A : Type 0} (a : A) (xs ys : List A) → In a (xs ++ ys) → In a xs ⊎ In a ys
in_both a [] ys i = inr i
in_both a (x ∷ xs) ys (inl e) = inl (inl e)
in_both a (x ∷ xs) ys (inr i) = elim (in_both a xs ys i) [ inl j ↦ inl (inr j) | inr j ↦ inr j ]

pub ready_all : (i : ℕ) (behind before : List Seen) (w : World) → (w.agent i).runs ≡ before ++ behind → ((x : Seen) → In x before → x.ready ≡ true) → Readied i w
ready_all i [] before w e h = (w, Course.stop w, near_refl i w, λ k s. s, λ x j. elim (in_both x before [] (subst (λ (xs : List Seen). In x xs) e j)) [ inl k ↦ h x k | inr k ↦ absurd k ])
ready_all i (x ∷ behind) before w e h = join (ready_all i behind (before ++ (y ∷ [])) u₁ (ap (λ (a : Agent). a.runs) at ∙ sym (append_assoc before (y ∷ []) behind)) (λ z j. elim (in_both z before (y ∷ []) j) [ inl k ↦ h z k | inr k ↦ last z k ]))
  where
    y : Seen
    y = record { id = x.id; ready = true }

    rs : List Seen
    rs = before ++ y ∷ behind

    u₁ : World
    u₁ = record { herd = w.herd; agent = put i (running rs (w.agent i)) w.agent; sent = w.sent }

    at : u₁.agent i ≡ running rs (w.agent i)
    at = put_at i (running rs (w.agent i)) w.agent

    last : (z : Seen) → In z (y ∷ []) → z.ready ≡ true
    last z (inl p) = ap (λ (v : Seen). v.ready) p
    last z (inr p) = absurd p

    keeps : (k : ℕ) → Sees w i k → Sees u₁ i k
    keeps k s = ap (λ (a : Agent). some (is_seen k) a.runs) at ∙ (some_swap (is_seen k) before behind x y refl ∙ (sym (ap (some (is_seen k)) e) ∙ s))

    join : Readied i u₁ → Readied i w
    join z = (z.0, Course.go (Calm.becomes w i before behind x true e) tt z.1, near_then (near_put i w rs) z.2, λ k s. z.3 k (keeps k s), z.4)
