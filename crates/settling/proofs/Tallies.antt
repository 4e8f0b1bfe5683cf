-- One more row, and what is there of a job.
-- Assumes nothing.
use Rattle.std.proofs.Common.{◌≡◌, ℕ, zero, suc, ◌+◌, ◌%◌, ◌≤◌, Bool, true, false, cond, not, ◌&&◌, ◌||◌, eqb, List, [], ◌∷◌, ◌++◌, length, drop, Some, None, Option, sym, refl, ap, ◌∙◌, inl, inr, arith}
use mir.Val.{bool_byte}
use Rattle.std.proofs.lemmas.List.{append-nil, length_push, length-append}
use Rattle.std.proofs.lemmas.Bool.{cases_Bool, eq-eqb, ne_eqb}
use Rattle.model.specs.Lists.{keep, some, same}
use Rattle.model.specs.State as s
use Rattle.model.specs.State.{is_ready_lem, is_ending, is_waiting}
use Rattle.model.specs.Settle.{mine, alive, new_ones, old_ones, ready_ones}
use Rattle.model.proofs.Lists.Kept.{keep_keep}
use Rattle.jobs.specs.Rows.{at, span}
use Rattle.jobs.specs.Tables.{name_from_lem, version_from_lem, phase_from_lem, task_from, task_row_lem, task_at, machines_of, state_of}
use Rattle.jobs.proofs.Spans.{span_more, span_none}
use Rattle.settling.specs.Scan.{is_present, is_mine, is_alive, is_new, is_old, is_spare, stepped, stepped_by, LastAt, spares, Tallied}
use Rattle.settling.specs.declared.tally.Tally.{Tally}
use Rattle.settling.proofs.Scans.{hole, full, keep_yes, keep_no, length_keep, length_keep_push, last_push}

module _ (f : ℕ → List s.Task) (i : ℕ) where
  more_one : (x : s.Task) → f i ≡ x ∷ [] → span f 0 (i + 1) ≡ span f 0 i ++ x ∷ []
  more_one x e = span_more f i ∙ ap (λ (ys : List s.Task). span f 0 i ++ ys) e

  more_none : f i ≡ [] → span f 0 (i + 1) ≡ span f 0 i
  more_none e = span_more f i ∙ ap (λ (ys : List s.Task). span f 0 i ++ ys) e ∙ append-nil (span f 0 i)

  wider : (o : Option ℕ) (xs : List s.Task) → LastAt f i o xs → LastAt f (i + 1) o xs
  wider None xs k = k
  wider (Some m) xs k = (k.0, omega (arith, k.1), k.2, k.3)

  -- F picks by the test p
  module _ (F : List s.Task → List s.Task) (p : s.Task → Bool) (is : (ts : List s.Task) → F ts ≡ keep p ts) where
    counted : (x : s.Task) (n : ℕ) → f i ≡ x ∷ [] → n ≡ length (F (span f 0 i)) → n + cond (p x) 1 0 ≡ length (F (span f 0 (i + 1)))
    counted x n e q = rw (more_one x e, q, is (span f 0 i), is (span f 0 i ++ x ∷ [])) (sym (length_keep_push p (span f 0 i) x))

    picked : (x : s.Task) (o : Option ℕ) → f i ≡ x ∷ [] → LastAt f i o (F (span f 0 i)) → LastAt f (i + 1) (cond (p x) (Some i) o) (F (span f 0 (i + 1)))
    picked x o e k =
        let a : F (span f 0 i) ≡ keep p (span f 0 i) = is (span f 0 i) in
        let b : F (span f 0 (i + 1)) ≡ keep p (span f 0 i ++ x ∷ []) = is (span f 0 (i + 1)) ∙ ap (keep p) (more_one x e) in
        elim (cases_Bool (p x)) [
          | inl t ↦ rw (t, b, keep_yes p (span f 0 i) x t) (x, (omega arith), e, last_push (keep p (span f 0 i)) x)
          | inr n ↦ rw (n, b, keep_no p (span f 0 i) x n) (wider o _ (rw a at k))
        ]

    few : (n : ℕ) → n ≡ length (F (span f 0 i)) → length (span f 0 i) ≤ i → n ≤ i
    few n e h = omega (arith, ap length (is (span f 0 i)), length_keep p (span f 0 i))

abbrev pub no_tally : Tally
no_tally = record { total = 0; all = 0; new = 0; ready = 0; old = record { idle = None; busy = None }; newer = record { idle = None; busy = None } }

module _ (j : s.Job) (st : s.State) where
  is_ready_fact : (ts : List s.Task) → ready_ones (mine j ts) ≡ keep (λ x. is_mine j st x && is_ready_lem x.phase) ts
  is_ready_fact ts = keep_keep _ _ ts

  is_alive_lem : (ts : List s.Task) → alive (mine j ts) ≡ keep (is_alive j st) ts
  is_alive_lem ts = keep_keep _ _ ts

  is_new_lem : (ts : List s.Task) → new_ones j (alive (mine j ts)) ≡ keep (is_new j st) ts
  is_new_lem ts = ap (new_ones j) (is_alive_lem ts) ∙ keep_keep _ _ ts

  is_old_lem : (ts : List s.Task) → old_ones j (alive (mine j ts)) ≡ keep (is_old j st) ts
  is_old_lem ts = ap (old_ones j) (is_alive_lem ts) ∙ keep_keep _ _ ts

  is_old_busy : (ts : List s.Task) → ready_ones (old_ones j (alive (mine j ts))) ≡ keep (λ x. is_old j st x && is_ready_lem x.phase) ts
  is_old_busy ts = ap ready_ones (is_old_lem ts) ∙ keep_keep _ _ ts

  is_new_busy : (ts : List s.Task) → ready_ones (new_ones j (alive (mine j ts))) ≡ keep (λ x. is_new j st x && is_ready_lem x.phase) ts
  is_new_busy ts = ap ready_ones (is_new_lem ts) ∙ keep_keep _ _ ts

  is_old_idle : (ts : List s.Task) → spares st (old_ones j (alive (mine j ts))) ≡ keep (λ x. is_old j st x && is_spare j st x) ts
  is_old_idle ts = ap (spares st) (is_old_lem ts) ∙ keep_keep _ _ ts

  is_new_idle : (ts : List s.Task) → spares st (new_ones j (alive (mine j ts))) ≡ keep (λ x. is_new j st x && is_spare j st x) ts
  is_new_idle ts = ap (spares st) (is_new_lem ts) ∙ keep_keep _ _ ts

  pub tallied_none : (f : ℕ → List s.Task) → Tallied j st f 0 no_tally
  unfolding span keep
  tallied_none f = record { total = refl; all = refl; new = refl; ready = refl; old_idle = refl; old_busy = refl; new_idle = refl; new_busy = refl }

  one_more : (f : ℕ → List s.Task) (i : ℕ) (y : Tally) (x : s.Task) → f i ≡ x ∷ [] → Tallied j st f i y → Tallied j st f (i + 1) (stepped j st i x y)
  one_more f i y x e k = record {
    total = ap (λ (n : ℕ). n + 1) k.total ∙ sym (ap length (more_one f i x e) ∙ length_push (span f 0 i) x);
    all = counted f i (mine j) (is_mine j st) (λ _. refl) x y.all e k.all;
    new = counted f i (λ ts. new_ones j (alive (mine j ts))) (is_new j st) is_new_lem x y.new e k.new;
    ready = counted f i (λ ts. ready_ones (mine j ts)) (λ x. is_mine j st x && is_ready_lem x.phase) is_ready_fact x y.ready e k.ready;
    old_idle = picked f i (λ ts. spares st (old_ones j (alive (mine j ts)))) (λ x. is_old j st x && is_spare j st x) is_old_idle x y.old.idle e k.old_idle;
    old_busy = picked f i (λ ts. ready_ones (old_ones j (alive (mine j ts)))) (λ x. is_old j st x && is_ready_lem x.phase) is_old_busy x y.old.busy e k.old_busy;
    new_idle = picked f i (λ ts. spares st (new_ones j (alive (mine j ts)))) (λ x. is_new j st x && is_spare j st x) is_new_idle x y.newer.idle e k.new_idle;
    new_busy = picked f i (λ ts. ready_ones (new_ones j (alive (mine j ts)))) (λ x. is_new j st x && is_ready_lem x.phase) is_new_busy x y.newer.busy e k.new_busy;
  }

  same_more : (f : ℕ → List s.Task) (i : ℕ) (y : Tally) → f i ≡ [] → Tallied j st f i y → Tallied j st f (i + 1) y
  same_more f i y e k = let m = more_none f i e in record {
    total = rw m k.total;
    all = rw m k.all;
    new = rw m k.new;
    ready = rw m k.ready;
    old_idle = rw m (wider f i _ _ k.old_idle);
    old_busy = rw m (wider f i _ _ k.old_busy);
    new_idle = rw m (wider f i _ _ k.new_idle);
    new_busy = rw m (wider f i _ _ k.new_busy);
  }

  pub tallied_more : (f : ℕ → List s.Task) (i : ℕ) (y : Tally) (xs : List s.Task) → f i ≡ xs → length xs ≤ 1 → Tallied j st f i y → Tallied j st f (i + 1) (stepped_by j st i xs y)
  tallied_more f i y [] e h k = same_more f i y e k
  tallied_more f i y (x ∷ []) e h k = one_more f i y x e k
  tallied_more f i y (x ∷ z ∷ zs) e h k = absurd (let q : suc (suc (length zs)) ≤ 1 = h in omega arith)

-- no more tasks than rows
pub span_few : (f : ℕ → List s.Task) → ((k : ℕ) → length (f k) ≤ 1) → (i : ℕ) → length (span f 0 i) ≤ i
span_few f h zero = let e = ap length (span_none f 0) in omega arith
span_few f h (suc i) =
    let e : suc i ≡ i + 1 = omega arith in
    let a : length (span f 0 (i + 1)) ≡ length (span f 0 i) + length (f i) = ap length (span_more f i) ∙ length-append (span f 0 i) (f i) in
    let b = span_few f h i in let c = h i in rw e (omega arith)

pub tallied_few : (j : s.Job) (st : s.State) (f : ℕ → List s.Task) (i : ℕ) (y : Tally) → ((k : ℕ) → length (f k) ≤ 1) → Tallied j st f i y → (y.total ≤ i) × (y.all ≤ i) × (y.new ≤ i) × (y.ready ≤ i)
tallied_few j st f i y h k =
    let l = span_few f h i in (
      omega (arith, k.total),
      few f i (mine j) (is_mine j st) (λ _. refl) y.all k.all l,
      few f i (λ ts. new_ones j (alive (mine j ts))) (is_new j st) (is_new_lem j st) y.new k.new l,
      few f i (λ ts. ready_ones (mine j ts)) (λ x. is_mine j st x && is_ready_lem x.phase) (is_ready_fact j st) y.ready k.ready l,
    )

-- THE WAYS THROUGH A STEP

module _ (j : s.Job) (st : s.State) (i : ℕ) (x : s.Task) (y : Tally) where
  pub step_new : (u v : Bool) → is_mine j st x ≡ true → is_ending x.phase ≡ false → eqb x.version j.version ≡ true → u ≡ is_ready_lem x.phase → v ≡ is_spare j st x →
      record { total = y.total + 1; all = y.all + 1; new = y.new + 1; ready = y.ready + cond u 1 0; old = y.old; newer = record { idle = cond v (Some i) y.newer.idle; busy = cond u (Some i) y.newer.busy } } ≡ stepped j st i x y
  step_new u v e f g p q = rw (e, f, g, p, q)

  pub step_old : (u v : Bool) → is_mine j st x ≡ true → is_ending x.phase ≡ false → eqb x.version j.version ≡ false → u ≡ is_ready_lem x.phase → v ≡ is_spare j st x →
      record { total = y.total + 1; all = y.all + 1; new = y.new; ready = y.ready + cond u 1 0; old = record { idle = cond v (Some i) y.old.idle; busy = cond u (Some i) y.old.busy }; newer = y.newer } ≡ stepped j st i x y
  step_old u v e f g p q = let b : y.new ≡ y.new + 0 = omega arith in rw (e, f, g, p, q) (λ k. record { total = y.total + 1; all = y.all + 1; new = b k; ready = y.ready + cond (is_ready_lem x.phase) 1 0; old = record { idle = cond (is_spare j st x) (Some i) y.old.idle; busy = cond (is_ready_lem x.phase) (Some i) y.old.busy }; newer = y.newer })

-- A TASK'S ROW AND ITS KIND, as they are read

module _ (home live : List ℕ) (i : ℕ) (row kind : List ℕ) (r : row ≡ task_row_lem home i) (k : kind ≡ drop 4 row) where
  kind_is : kind ≡ drop 4 (task_row_lem home i)
  kind_is = k ∙ ap (drop 4) r

  pub job_is : name_from_lem kind ≡ name_from_lem (drop 4 (task_row_lem home i))
  job_is = ap name_from_lem kind_is

  pub version_is : version_from_lem kind ≡ version_from_lem (drop 4 (task_row_lem home i))
  version_is = ap version_from_lem kind_is

  pub phase_is : phase_from_lem (at row 1) (at live (256 + i)) ≡ phase_from_lem (at (task_row_lem home i) 1) (at live (256 + i))
  phase_is = ap (λ (x : List ℕ). phase_from_lem (at x 1) (at live (256 + i))) r

  pub machine_is : cond (eqb (at row 1) 0) 0 (at row 2 % 65536) ≡ cond (eqb (at (task_row_lem home i) 1) 0) 0 (at (task_row_lem home i) 2 % 65536)
  machine_is = ap (λ (x : List ℕ). cond (eqb (at x 1) 0) 0 (at x 2 % 65536)) r

pub row_full : (home live row : List ℕ) (i : ℕ) → row ≡ task_row_lem home i → (at row 0 ≡ 0 → ⊥) → task_at home live i ≡ task_from (task_row_lem home i) (at live (256 + i)) ∷ []
row_full home live row i r ne = full (eqb (at (task_row_lem home i) 0) 0) (task_from (task_row_lem home i) (at live (256 + i))) (ne_eqb (at (task_row_lem home i) 0) 0 (λ e. ne (ap (λ (x : List ℕ). at x 0) r ∙ e)))

pub row_hole : (home live row : List ℕ) (i : ℕ) → row ≡ task_row_lem home i → at row 0 ≡ 0 → task_at home live i ≡ []
row_hole home live row i r z = hole (eqb (at (task_row_lem home i) 0) 0) (task_from (task_row_lem home i) (at live (256 + i))) (eq-eqb (at (task_row_lem home i) 0) 0 (sym (ap (λ (x : List ℕ). at x 0) r) ∙ z))

pub row_few : (home live : List ℕ) (i : ℕ) → length (task_at home live i) ≤ 1
row_few home live i = elim (cases_Bool (eqb (at (task_row_lem home i) 0) 0)) [ inl t ↦ rw t (omega arith) | inr n ↦ rw n (omega arith) ]

spare_at_lem : (time : ℕ) (ms : List s.Machine) (p q : s.Phase) (k l : ℕ) → p ≡ q → k ≡ l → (not (is_ready_lem p) && (is_waiting p || some (is_present time k) ms)) ≡ (not (is_ready_lem q) && (is_waiting q || some (is_present time l) ms))
spare_at_lem time ms p q k l e f = rw (e, f)

byte_is : (b : Bool) → bool_byte b ≡ cond b 1 0
byte_is true = refl
byte_is false = refl

module _ (home live : List ℕ) (time i : ℕ) (row kind : List ℕ) (r : row ≡ task_row_lem home i) (k : kind ≡ drop 4 row) (j : s.Job) (y : Tally)
    (mine' : Bool) (m : mine' ≡ same j.name (name_from_lem kind)) (yes' : mine' ≡ true) (p : s.Phase) (a : ℕ) (ph : p ≡ phase_from_lem (at row 1) (at live (256 + i))) (mc : a ≡ cond (eqb (at row 1) 0) 0 (at row 2 % 65536))
    (end : is_ending p ≡ false) (full' : at row 0 ≡ 0 → ⊥) (up idle : Bool) (u : up ≡ is_ready_lem p) (v : idle ≡ (not (is_ready_lem p) && (is_waiting p || some (is_present time a) (machines_of home live)))) where
  ours : same j.name (name_from_lem (drop 4 (task_row_lem home i))) ≡ true
  ours = ap (same j.name) (sym (job_is home live i row kind r k)) ∙ sym m ∙ yes'

  now_p : p ≡ phase_from_lem (at (task_row_lem home i) 1) (at live (256 + i))
  now_p = ph ∙ phase_is home live i row kind r k

  now_a : a ≡ cond (eqb (at (task_row_lem home i) 1) 0) 0 (at (task_row_lem home i) 2 % 65536)
  now_a = mc ∙ machine_is home live i row kind r k

  lives : is_ending (phase_from_lem (at (task_row_lem home i) 1) (at live (256 + i))) ≡ false
  lives = ap is_ending (sym now_p) ∙ end

  pub takes_new : (w : ℕ) → w ≡ version_from_lem kind → w ≡ j.version →
      record { total = y.total + 1; all = y.all + 1; new = y.new + 1; ready = y.ready + bool_byte up; old = y.old; newer = record { idle = cond idle (Some i) y.newer.idle; busy = cond up (Some i) y.newer.busy } } ≡ stepped_by j (state_of home live time) i (task_at home live i) y
  takes_new w q e =
      (λ z. record { total = y.total + 1; all = y.all + 1; new = y.new + 1; ready = y.ready + byte_is up z; old = y.old; newer = record { idle = cond idle (Some i) y.newer.idle; busy = cond up (Some i) y.newer.busy } }) ∙
      step_new j (state_of home live time) i (task_from (task_row_lem home i) (at live (256 + i))) y up idle ours lives (eq-eqb _ j.version (sym (version_is home live i row kind r k) ∙ sym q ∙ e)) (u ∙ ap is_ready_lem now_p) (v ∙ spare_at_lem time (machines_of home live) _ _ _ _ now_p now_a) ∙
      ap (λ (xs : List s.Task). stepped_by j (state_of home live time) i xs y) (sym (row_full home live row i r full'))

  pub takes_old : (w : ℕ) → w ≡ version_from_lem kind → (w ≡ j.version → ⊥) →
      record { total = y.total + 1; all = y.all + 1; new = y.new; ready = y.ready + bool_byte up; old = record { idle = cond idle (Some i) y.old.idle; busy = cond up (Some i) y.old.busy }; newer = y.newer } ≡ stepped_by j (state_of home live time) i (task_at home live i) y
  takes_old w q e =
      (λ z. record { total = y.total + 1; all = y.all + 1; new = y.new; ready = y.ready + byte_is up z; old = record { idle = cond idle (Some i) y.old.idle; busy = cond up (Some i) y.old.busy }; newer = y.newer }) ∙
      step_old j (state_of home live time) i (task_from (task_row_lem home i) (at live (256 + i))) y up idle ours lives (ne_eqb _ j.version (λ z. e (q ∙ version_is home live i row kind r k ∙ z))) (u ∙ ap is_ready_lem now_p) (v ∙ spare_at_lem time (machines_of home live) _ _ _ _ now_p now_a) ∙
      ap (λ (xs : List s.Task). stepped_by j (state_of home live time) i xs y) (sym (row_full home live row i r full'))
