-- Rows of which no two are alike by a test: each is the first of its kind.
-- Assumes nothing.
use Rattle.std.proofs.Common.{add-one, zero-add, zero, suc, ◌≡◌, ℕ, ◌+◌, ◌-◌, ◌%◌, ◌<◌, Bool, true, false, cond, not, ◌&&◌, eqb, List, [], ◌∷◌, ◌++◌, take, Some, None, Option, sym, refl, ap, ◌∙◌, subst, inl, inr, arith}
use Rattle.std.specs.Option.{option_eq}
use Rattle.std.specs.List.{list_all, range_with_len}
use Rattle.std.proofs.lemmas.List.FromFn.{length-range_with_len, get_or-range_with_len}
use Rattle.std.proofs.lemmas.Bool.{not-true, eq-eqb, ne_eqb, cases_lt}
use Rattle.std.proofs.lemmas.List.Sums.{AllPass-from_list_all, list_all-from_AllPass}
use Rattle.model.specs.Lists.{some, every, find, same}
use Rattle.model.specs.State as s
use Rattle.model.specs.State.{is_job, is_machine}
use Rattle.model.specs.Promise.{once_jobs, once_machines}
use Rattle.model.proofs.Lists.Tests.{clash, bool}
use Rattle.model.proofs.Lists.Members.{In}
use Rattle.model.proofs.Lists.Chosen.{every_at, every_from, some_from, some_not, not_some, find_none}
use Rattle.model.proofs.Lists.Apart.{Once, once_append}
use Rattle.model.proofs.Settles.{jobs_from, jobs_to, machines_from, machines_to}
use Rattle.model.proofs.Tasks.Names.{same_refl, unsame_sym}
use Rattle.jobs.specs.Rows.{at, span}
use Rattle.jobs.specs.Tables.{FoundAt, name_from_lem, job_at, job_from_lem, job_row_lem, job_rows_lem, job_slot, jobs_of, machine_at, machine_from, machine_row_lem, machine_rows_lem, machine_slot, machines_of}
use Rattle.jobs.proofs.Spans.{span_none, span_more, span_at}
use Rattle.jobs.proofs.Finds.{slot_hole, slot_full}
use Rattle.calls.specs.Sound.{first_job_lem, first_machine_lem}

in_front : {A : Type 0} (a : A) (xs ys : List A) → In a xs → In a (xs ++ ys)
in_front a [] ys i = absurd i
in_front a (x ∷ xs) ys (inl e) = inl e
in_front a (x ∷ xs) ys (inr i) = inr (in_front a xs ys i)

in_back : {A : Type 0} (a : A) (xs ys : List A) → In a ys → In a (xs ++ ys)
in_back a [] ys i = i
in_back a (x ∷ xs) ys i = inr (in_back a xs ys i)

once_cross : {A : Type 0} (e : A → A → Bool) (xs ys : List A) → Once e (xs ++ ys) → (x y : A) → In x xs → In y ys → e x y ≡ false
once_cross e [] ys o x y i k = absurd i
once_cross e (z ∷ zs) ys o x y (inl p) k = ap (λ w. e w y) p ∙ o.0 y (in_back y zs ys k)
once_cross e (z ∷ zs) ys o x y (inr i) k = once_cross e zs ys o.1 x y i k

-- a row holds one at most
once_slot : {A : Type 0} (e : A → A → Bool) (b : Bool) (x : A) → Once e (cond b [] (x ∷ []))
once_slot e true x = tt
once_slot e false x = (λ y k. absurd k, tt)

module _ {X : Type 0} (e : X → X → Bool) (turn : (a b : X) → e a b ≡ false → e b a ≡ false) (f : ℕ → List X) where
  -- what is in row i is like nothing in the rows before
  abbrev pub New : ℕ → Bool
  New i = every (λ (x : X). not (some (e x) (span f 0 i))) (f i)

  pub new_from : (i n : ℕ) → i < n → Once e (span f 0 n) → New i ≡ true
  new_from i n h o =
      let p = subst (Once e) (span_at f i n h) o in
      every_from _ (f i) (λ y k. ap not (not_some (e y) (span f 0 i) (λ x j. turn x y (once_cross e (span f 0 i) (f i ++ span f (i + 1) (n - (i + 1))) p x y j (in_front y (f i) _ k)))))

  pub new_more : (i : ℕ) → Once e (span f 0 i) → Once e (f i) → New i ≡ true → Once e (span f 0 (i + 1))
  new_more i o p t =
      subst (Once e) (sym (span_more f i))
      (once_append e (span f 0 i) (f i) o p (λ x y j k. turn y x (some_not (e y) (span f 0 i) (not-true _ (every_at (λ (z : X). not (some (e z) (span f 0 i))) (f i) t y k)) x j)))

  -- all are different just if each is new
  pub each_once : ((i : ℕ) → Once e (f i)) → (n : ℕ) (once : Bool) → (once ≡ true → Once e (span f 0 n)) → (Once e (span f 0 n) → once ≡ true) → list_all New (range_with_len 0 n) ≡ once
  each_once one n once from to =
      elim (bool (list_all New (range_with_len 0 n))) [
        | inl t ↦ t ∙ sym (to (all n (λ i h. news t i h)))
        | inr u ↦ elim (bool once) [ inl o ↦ clash _ (list_all-from_AllPass New (range_with_len 0 n) (λ k d h. let l : k < n = omega (arith, length-range_with_len 0 n) in ap New (get_or-range_with_len 0 n k d l ∙ zero-add k) ∙ new_from k n l (from o))) u | inr w ↦ u ∙ sym w ]
      ]
    where
      all : (k : ℕ) → ((i : ℕ) → i < k → New i ≡ true) → Once e (span f 0 k)
      all zero h = subst (Once e) (sym (span_none f 0)) tt
      all (suc k) h = subst (λ (m : ℕ). Once e (span f 0 m)) (add-one k) (new_more k (all k (λ i l. h i (omega arith))) (one k) (h k (omega arith)))

      news : list_all New (range_with_len 0 n) ≡ true → (i : ℕ) → i < n → New i ≡ true
      news t i h = ap New (sym (zero-add i) ∙ sym (get_or-range_with_len 0 n i 0 h)) ∙ AllPass-from_list_all New (range_with_len 0 n) t i 0 (omega (arith, length-range_with_len 0 n))

  pub new_hole : (i : ℕ) → f i ≡ [] → true ≡ New i
  unfolding every
  new_hole i p = sym (ap (every (λ (x : X). not (some (e x) (span f 0 i)))) p)

  new_one : (i : ℕ) (x : X) (b : Bool) → f i ≡ x ∷ [] → some (e x) (span f 0 i) ≡ b → not b ≡ New i
  unfolding every
  new_one i x true p q = sym (ap (every (λ (y : X). not (some (e y) (span f 0 i)))) p ∙ ap (λ (b : Bool). not b && true) q)
  new_one i x false p q = sym (ap (every (λ (y : X). not (some (e y) (span f 0 i)))) p ∙ ap (λ (b : Bool). not b && true) q)

  in_span : (i n : ℕ) (x : X) → i < n → f i ≡ x ∷ [] → In x (span f 0 n)
  in_span i n x h p = subst (In x) (sym (span_at f i n h)) (in_back x (span f 0 i) _ (in_front x (f i) _ (subst (In x) (sym p) (inl refl))))

  module _ (i n : ℕ) (x : X) (h : i < n) (p : f i ≡ x ∷ []) (r : e x x ≡ true) where
    new_some : (k : ℕ) → FoundAt (e x) f n (Some k) → eqb k i ≡ New i
    new_some k w = elim (cases_lt k i) [ inl a ↦ before a | inr b ↦ elim (cases_lt i k) [ inl a ↦ behind a | inr c ↦ itself (omega arith) ] ]
      where
        before : k < i → eqb k i ≡ New i
        before a = ne_eqb k i (λ q. omega arith) ∙ new_one i x true p (some_from (e x) (span f 0 i) w.0 (in_span k i w.0 a w.2) w.4)

        behind : i < k → eqb k i ≡ New i
        behind a = clash (e x x) r (find_none (e x) (span f 0 k) w.5 x (in_span i k x a p))

        itself : k ≡ i → eqb k i ≡ New i
        itself q = eq-eqb k i q ∙ new_one i x false p (not_some (e x) (span f 0 i) (λ y j. find_none (e x) (span f 0 i) (ap (λ (z : ℕ). find (e x) (span f 0 z)) (sym q) ∙ w.5) y j))

    -- the first that is found like it is itself, or one before
    pub new_found : (o : Option ℕ) → FoundAt (e x) f n o → option_eq eqb o (Some i) ≡ New i
    new_found (Some k) w = new_some k w
    new_found None w = clash (e x x) r (find_none (e x) (span f 0 n) w x (in_span i n x h p))

-- JOBS

abbrev pub alike_jobs : s.Job → s.Job → Bool
alike_jobs a b = same a.name b.name

turn_jobs : (a b : s.Job) → alike_jobs a b ≡ false → alike_jobs b a ≡ false
turn_jobs a b = unsame_sym a.name b.name

job_in : (home row : List ℕ) (i : ℕ) → row ≡ job_row_lem home i → (at row 0 ≡ 0 → ⊥) → job_at home i ≡ job_from_lem row ∷ []
job_in home row i q ne = ap job_slot (sym q) ∙ slot_full (at row 0) (job_from_lem row) ne

pub job_hole : (home row : List ℕ) (i : ℕ) → row ≡ job_row_lem home i → at row 0 ≡ 0 → true ≡ first_job_lem home i
job_hole home row i q z = new_hole alike_jobs turn_jobs (job_at home) i (ap job_slot (sym q) ∙ slot_hole (at row 0) (job_from_lem row) z)

module _ (home row : List ℕ) (i : ℕ) (n : s.Name) (h : i < job_rows_lem home) (q : row ≡ job_row_lem home i) (ne : at row 0 ≡ 0 → ⊥) (named : n ≡ name_from_lem (take 23 row)) where
  pub job_found : (o : Option ℕ) → FoundAt (is_job n) (job_at home) (job_rows_lem home) o → option_eq eqb o (Some i) ≡ first_job_lem home i
  job_found o w =
      new_found alike_jobs turn_jobs (job_at home) i (job_rows_lem home) (job_from_lem row) h (job_in home row i q ne) (same_refl (job_from_lem row).name) o
      (subst (λ (m : s.Name). FoundAt (is_job m) (job_at home) (job_rows_lem home) o) named w)

pub jobs_each : (home : List ℕ) (n : ℕ) → n ≡ job_rows_lem home → list_all (first_job_lem home) (range_with_len 0 n) ≡ once_jobs (jobs_of home)
jobs_each home n q =
    each_once alike_jobs turn_jobs (job_at home) (λ i. once_slot alike_jobs (eqb (at (job_row_lem home i) 0) 0) (job_from_lem (job_row_lem home i))) n (once_jobs (span (job_at home) 0 n)) (jobs_from _) (jobs_to _) ∙
    ap (λ (k : ℕ). once_jobs (span (job_at home) 0 k)) q

-- MACHINES

abbrev pub alike_machines : s.Machine → s.Machine → Bool
alike_machines a b = eqb a.num b.num

turn_machines : (a b : s.Machine) → alike_machines a b ≡ false → alike_machines b a ≡ false
turn_machines a b e = ne_eqb b.num a.num (λ q. clash (eqb a.num b.num) (eq-eqb a.num b.num (sym q)) e)

machine_in : (home row : List ℕ) (i : ℕ) → row ≡ machine_row_lem home i → (at row 0 ≡ 0 → ⊥) → machine_at home [] i ≡ machine_from row (at [] i) ∷ []
machine_in home row i q ne = ap (λ (r : List ℕ). machine_slot r (at [] i)) (sym q) ∙ slot_full (at row 0) (machine_from row (at [] i)) ne

pub machine_hole : (home row : List ℕ) (i : ℕ) → row ≡ machine_row_lem home i → at row 0 ≡ 0 → true ≡ first_machine_lem home i
machine_hole home row i q z = new_hole alike_machines turn_machines (machine_at home []) i (ap (λ (r : List ℕ). machine_slot r (at [] i)) (sym q) ∙ slot_hole (at row 0) (machine_from row (at [] i)) z)

module _ (home row : List ℕ) (i : ℕ) (h : i < machine_rows_lem home) (q : row ≡ machine_row_lem home i) (ne : at row 0 ≡ 0 → ⊥) where
  pub machine_found : (k : ℕ) → k ≡ at row 1 % 65536 → (o : Option ℕ) → FoundAt (is_machine k) (machine_at home []) (machine_rows_lem home) o → option_eq eqb o (Some i) ≡ first_machine_lem home i
  machine_found k named o w =
      new_found alike_machines turn_machines (machine_at home []) i (machine_rows_lem home) (machine_from row (at [] i)) h (machine_in home row i q ne) (eq-eqb _ _ refl) o
      (subst (λ (m : ℕ). FoundAt (is_machine m) (machine_at home []) (machine_rows_lem home) o) named w)

pub machines_each : (home : List ℕ) (n : ℕ) → n ≡ machine_rows_lem home → list_all (first_machine_lem home) (range_with_len 0 n) ≡ once_machines (machines_of home [])
machines_each home n q =
    each_once alike_machines turn_machines (machine_at home []) (λ i. once_slot alike_machines (eqb (at (machine_row_lem home i) 0) 0) (machine_from (machine_row_lem home i) (at [] i))) n (once_machines (span (machine_at home []) 0 n)) (machines_from _) (machines_to _) ∙
    ap (λ (k : ℕ). once_machines (span (machine_at home []) 0 k)) q
