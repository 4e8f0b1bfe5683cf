-- Adding a machine, case by case.
-- Assumes nothing.
use Rattle.std.proofs.Common.{◌≡◌, ℕ, ◌/◌, ◌<◌, Bool, true, false, cond, not, ◌||◌, ltb, leb, List, [], ◌∷◌, ◌++◌, length, get_or, is_some, is_ok, Some, None, Option, Ok, Err, Result, sym, refl, ap, ◌∙◌, arith}
use Rattle.std.proofs.lemmas.Bool.{le-leb, lt-leb, lt-ltb, le-ltb, ltb-true, ltb-false, true≢false}
use Rattle.model.specs.Lists.{find, none, every}
use Rattle.model.specs.State.{State, is_machine, with_machines}
use Rattle.model.specs.Calls.{AddMachine, acts, new_machine, no, small, yes'}
use Rattle.jobs.specs.Rows.{span}
use Rattle.jobs.specs.Tables.{FoundAt, machine_at, machine_rows_lem, machines_of, state_of}
use Rattle.calls.specs.declared.answer.Refusal.{Refusal}
use Rattle.calls.specs.declared.call.Added.{Added}
use Rattle.calls.specs.declared.call.Call.TheVariants.{Add}
use Rattle.calls.specs.Acted.{Acted}
use Rattle.calls.specs.Adding.{Put, too_much_lem}
use Rattle.calls.specs.Answers.{answer_to_done}
use Rattle.calls.specs.Meaning.{call_of, tags_of}
use Rattle.calls.proofs.Outcomes.{acted_kept}
use Rattle.calls.proofs.Ranges.{every_from, length_tags}

-- a row was found, or there is none
pub found_none : {X : Type 0} (p : X → Bool) (f : ℕ → List X) (n : ℕ) (o : Option ℕ) → FoundAt p f n o → none (find p (span f 0 n)) ≡ not (is_some o)
unfolding none
found_none p f n None h = ap none h
found_none p f n (Some i) h = ap none h.3

-- whether there is a machine of that number
pub unfound : (k : ℕ) (home live : List ℕ) (o : Option ℕ) → FoundAt (is_machine k) (machine_at home live) (machine_rows_lem home) o → {b : Bool} → is_some o ≡ b → none (find (is_machine k) (machines_of home live)) ≡ not b
unfound k home live o w e = found_none (is_machine k) (machine_at home live) (machine_rows_lem home) o w ∙ ap not e

-- one of the three tests that can fail, among five
one_fails : (a b c d e : Bool) → (b || c || d) ≡ true → (a || b || c || d || e) ≡ true
one_fails true b c d e h = refl
one_fails false true c d e h = refl
one_fails false false true d e h = refl
one_fails false false false true e h = refl
one_fails false false false false e h = absurd (let z : ◌≡◌ {A = ℕ} 0 1 = ap (λ (x : Bool). cond x 1 0) h in omega arith)

none_fails : (a b c d e : Bool) → a ≡ false → (b || c || d) ≡ false → e ≡ false → (a || b || c || d || e) ≡ false
none_fails a b c d e p q r = rw (p, r) (last b c d q)
  where
    last : (b c d : Bool) → (b || c || d) ≡ false → (b || c || d || false) ≡ false
    last false false false q = refl
    last false false true q = q
    last false true d q = q
    last true c d q = q

module _ (k c m : ℕ) (tags : List ℕ) (s : State) where
  abbrev pub Much : Bool → Type 0
  Much b = (ltb 1000000000 c || ltb 1000000000 m || ltb 16 (length tags)) ≡ b

  wrong : Bool
  wrong = ltb 65535 k || ltb 1000000000 c || ltb 1000000000 m || ltb 16 (length tags) || not (every small tags)

  add_is : acts (AddMachine k c m tags) s ≡ cond (not (none (find (is_machine k) s.machines))) (no 3 s) (cond wrong (no 1 s) (cond (leb 256 (length s.machines)) (no 8 s) (yes' (with_machines (s.machines ++ (new_machine k c m tags ∷ [])) s))))
  unfolding acts wrong
  add_is = refl

  pub add_present : none (find (is_machine k) s.machines) ≡ false → acts (AddMachine k c m tags) s ≡ no 3 s
  add_present h = add_is ∙ rw h

  module _ (h : none (find (is_machine k) s.machines) ≡ true) where
    pub add_much : Much true → acts (AddMachine k c m tags) s ≡ no 1 s
    unfolding wrong
    add_much t =
        let w : wrong ≡ true = one_fails (ltb 65535 k) (ltb 1000000000 c) (ltb 1000000000 m) (ltb 16 (length tags)) (not (every small tags)) t in
        add_is ∙ rw (h, w)

    module _ (t : Much false) (l : k < 65536) (f : (i : ℕ) → get_or tags i 0 < 4294967296) where
      right : wrong ≡ false
      unfolding wrong
      right = none_fails (ltb 65535 k) (ltb 1000000000 c) (ltb 1000000000 m) (ltb 16 (length tags)) (not (every small tags)) (le-ltb 65535 k (omega arith)) t (ap not (every_from small tags (λ i o. lt-ltb (get_or tags i 0) 4294967296 (f i))))

      pub add_full : ltb (length s.machines) 256 ≡ false → acts (AddMachine k c m tags) s ≡ no 8 s
      add_full n = add_is ∙ rw (h, right, le-leb 256 (length s.machines) (ltb-false (length s.machines) 256 n))

      pub adds : ltb (length s.machines) 256 ≡ true → acts (AddMachine k c m tags) s ≡ yes' (with_machines (s.machines ++ (new_machine k c m tags ∷ [])) s)
      adds n = add_is ∙ rw (h, right, lt-leb 256 (length s.machines) (ltb-true (length s.machines) 256 n))

-- the test, over the tags as they came
pub tested : (a : Added) (b : Bool) → too_much_lem a ≡ b → Much a.machine.0 a.cpu a.mem (tags_of a.tags.now) (state_of [] [] 0) b
tested a b e = ap (λ (x : ℕ). ltb 1000000000 a.cpu || ltb 1000000000 a.mem || ltb 16 x) (length_tags (length a.tags.now / 4) a.tags.now) ∙ e

-- what was done, and what was refused
module _ (a : Added) (home live home' live' : List ℕ) where
  pub put_done : (u : Unit {0}) (r : Result (Unit {0}) Refusal) → Put a home live home' live' r → is_ok r ≡ true → Put a home live home' live' (Ok u)
  put_done u (Ok x) p t = p
  put_done u (Err e) p t = absurd (true≢false (sym t))

  pub put_refused : (time : ℕ) (r : Result (Unit {0}) Refusal) → Put a home live home' live' r → is_ok r ≡ false → Acted (call_of (Add a)) home live time (answer_to_done r) home' live' time
  put_refused time (Ok x) p t = absurd (true≢false t)
  put_refused time (Err e) p t = acted_kept _ _ _ _ _ time e p.1 p.2 (p.0 time)
