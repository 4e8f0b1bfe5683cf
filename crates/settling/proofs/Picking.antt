-- Who ends, by a tally.
-- Assumes nothing.
use Rattle.std.proofs.Common.{◌≡◌, ℕ, Bool, true, false, cond, ltb, List, [], length, Some, None, Option, sym, refl, ap, ◌∙◌, subst}
use Rattle.model.specs.Lists.{last_of, head_or}
use Rattle.model.specs.State as s
use Rattle.model.specs.Settle.{mine, alive, new_ones, ready_ones, old_to_end, new_to_end}
use Rattle.jobs.specs.Rows.{span}
use Rattle.settling.specs.Scan.{LastAt, OneAt, pick_end, Tallied}
use Rattle.settling.specs.declared.tally.Tally.{Tally}

module _ (f : ℕ → List s.Task) (n : ℕ) where
  busy_at : (o : Option ℕ) (xs : List s.Task) → LastAt f n o xs → OneAt f n o (last_of xs)
  unfolding last_of
  busy_at None xs k = ap last_of k
  busy_at (Some i) xs k = k

  if_enough : (enough : Bool) (o : Option ℕ) (xs : List s.Task) → LastAt f n o xs → OneAt f n (cond enough o None) (cond enough (last_of xs) [])
  if_enough true o xs k = busy_at o xs k
  if_enough false o xs k = refl

  one_end : (idle busy : Option ℕ) (enough : Bool) (xs ys : List s.Task) → LastAt f n idle xs → LastAt f n busy ys →
      OneAt f n (pick_end enough (record { idle = idle; busy = busy })) (head_or (last_of xs) (cond enough (last_of ys) []))
  unfolding last_of head_or
  one_end None busy enough xs ys k l = rw (ap last_of k) (if_enough enough busy ys l)
  one_end (Some i) busy enough xs ys k l = (k.0, k.1, k.2, rw k.3)

module _ (j : s.Job) (st : s.State) (f : ℕ → List s.Task) (n : ℕ) (r : Tally) (is : st.tasks ≡ span f 0 n) (k : Tallied j st f n r) where
  enough_is : ltb j.least r.ready ≡ ltb j.least (length (ready_ones (mine j (span f 0 n))))
  enough_is = ap (ltb j.least) k.ready

  -- what was picked of older versions, and of the present one
  pub old_end : (enough : Bool) → enough ≡ ltb j.least r.ready → (o q : Option ℕ) → o ≡ pick_end enough r.old → o ≡ q → OneAt f n q (old_to_end j st)
  old_end enough e o q p g = subst (λ (z : Option ℕ). OneAt f n z (old_to_end j st)) (sym p ∙ g) (rw (is, sym (e ∙ enough_is)) (one_end f n r.old.idle r.old.busy enough _ _ k.old_idle k.old_busy))

  pub new_end : (enough : Bool) → enough ≡ ltb j.least r.ready → (o q : Option ℕ) → o ≡ pick_end enough r.newer → o ≡ q → OneAt f n q (new_to_end j st)
  new_end enough e o q p g = subst (λ (z : Option ℕ). OneAt f n z (new_to_end j st)) (sym p ∙ g) (rw (is, sym (e ∙ enough_is)) (one_end f n r.newer.idle r.newer.busy enough _ _ k.new_idle k.new_busy))

  -- whether there are too many of it
  pub new_many : (b m : Bool) → b ≡ ltb j.count r.new → b ≡ m → ltb j.count (length (new_ones j (alive (mine j st.tasks)))) ≡ m
  new_many b m p g = rw is (ap (ltb j.count) (sym k.new) ∙ sym p ∙ g)
