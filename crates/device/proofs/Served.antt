-- The code of a service is right.
-- Assumes nothing.
use Rattle.std.proofs.Common.{◌≡◌, ℕ, zero, suc, ◌+◌, ◌*◌, ◌<◌, ◌≤◌, Bool, true, false, ◌⊎◌, List, length, get_or, sym, refl, ap, ◌∙◌, subst, inl, inr, arith}
use Rattle.model.specs.Memory.{Memory, blank_memory, words, done, Code, Meant, Happens, Stand, asleep, awake, Run}
use Rattle.model.specs.Right.{RightBy, RunsRight, RunsFit, Darkens}
use Rattle.model.proofs.Rights.{runs_right_lem}
use Rattle.device.specs.Follows.{and_then}
use Rattle.device.specs.Halves.{held_at, reading, Same, Holds}
use Rattle.device.specs.Service.{Said, Service, keeping, waking, answering, code_of, zeros, Serves, Tells, Awake}
use Rattle.device.proofs.Goes.{Goes, goes_fits, goes_half, goes_end, goes_then, commits_go, reading_go, parts}

length_zeros : (n : ℕ) → length (zeros n) ≡ n
length_zeros zero = refl
length_zeros (suc n) = ap suc (length_zeros n)

zeros_zero : (n i : ℕ) → get_or (zeros n) i 0 ≡ 0
zeros_zero zero i = refl
zeros_zero (suc n) zero = refl
zeros_zero (suc n) (suc i) = zeros_zero n i

module _ {C R X : Type 0} (j : Meant C R) (v : Service C R X) (Stands : X → j.State → Type 0) (ok : Serves j v Stands) where
  abbrev Dark : Memory → j.State → Type 0
  Dark m s = Tells j v Stands m s

  abbrev Up : X → Memory → j.State → Type 0
  Up x m s = Awake j v Stands x m s

  -- a mind that stands, whose words are held, is told of in the dark
  goes_dark_lem : (x : X) (m : Memory) (s : j.State) → Stands x s → Holds (v.home_of x) m → Dark m (j.dark s)
  goes_dark_lem x m s a h = record { home = v.home_of x; sized = ok.sized x s a; held = h; back = ok.again x s a; stands = ok.wakes x s a }

  at_first : Dark blank_memory j.start
  at_first = record { home = zeros v.size; sized = length_zeros v.size; held = λ i lt. sym (zeros_zero v.size i); back = ok.blank; stands = ok.first }

  -- WAKING
  wakes_go : (m : Memory) (s : j.State) → Dark m s → Goes (λ n. Dark n s) (λ x n. Up x n s) (waking v) m
  unfolding Goes and_then
  wakes_go m s t =
      let size = v.size in
      let home = t.home in
      let at : ℕ = held_at size (m 0) in
      let same : Same at home m = subst (λ (k : ℕ). Same (held_at k (m 0)) home m) t.sized t.held in
      let room : at + length home ≤ words = let r = ok.room in let z = t.sized in elim (parts size (m 0)) [ inl p ↦ omega (arith, p.0) | inr p ↦ omega (arith, p.0) ] in
      let up : Up (v.wake_of home) m s = record { held = subst (λ (h : List ℕ). Holds h m) (sym t.back) t.held; stands = t.stands } in (
        omega arith,
        goes_then (λ n. Dark n s) (λ ws n. (ws ≡ home) × (n ≡ m)) (λ x n. Up x n s) (reading at size) (λ h. done (v.wake_of h)) m
            (subst (λ (k : ℕ). Goes (λ n. Dark n s) (λ ws n. (ws ≡ home) × (n ≡ m)) (reading at k) m) t.sized
            (reading_go (λ n. Dark n s) (λ ws n. (ws ≡ home) × (n ≡ m)) at home m room same t (refl, refl)))
            (λ ws n f. (subst (λ (o : Memory). Dark o s) (sym f.1) t, subst (λ (o : Memory). Up (v.wake_of ws) o s) (sym f.1) (subst (λ (h : List ℕ). Up (v.wake_of h) m s) (sym f.0) up))),
      )

  -- ANSWERING
  module _ (c : C) (x : X) (s : j.State) (a : Stands x s) where
    abbrev Cut : Memory → Type 0
    Cut n = Dark n (j.dark s) ⊎ ((r : R) × (t : j.State) × j.May c s r t × Dark n (j.dark t))

    abbrev Done : Said R X → Memory → Type 0
    Done y n = (t : j.State) × j.May c s y.reply t × Up y.mind n t

    abbrev next : Said R X
    next = v.says c x

    next_sized : length (v.home_of next.mind) ≡ v.size
    next_sized = let b = ok.answers c x s a in ok.sized next.mind b.0 b.2

    -- where the new words are held
    since : (n : Memory) → Holds (v.home_of next.mind) n → Cut n × Done next n
    since n h =
        let b = ok.answers c x s a in
        (inr (next.reply, b.0, b.1, goes_dark_lem next.mind n b.0 b.2 h), (b.0, b.1, record { held = h; stands = b.2 }))

    keeping_go : (m : Memory) (b : Bool) → v.keeps c x ≡ b → Holds (v.home_of x) m → Goes Cut (λ _ n. Holds (v.home_of next.mind) n) (keeping b (v.home_of next.mind)) m
    unfolding Goes
    keeping_go m true e h =
        let old = v.home_of x in
        let new = v.home_of next.mind in
        let b = ok.answers c x s a in
        let long : length old ≡ length new = ok.sized x s a ∙ sym next_sized in
        let room : 2 * length new < words = let r = ok.room in let z = next_sized in omega (arith, r, z) in
        commits_go Cut (λ _ n. Holds new n) old new m long room (ok.small next.mind b.0 b.2)
        (λ n k. inl (goes_dark_lem x n s a (subst (λ (l : ℕ). Same (held_at l (n 0)) old n) (sym long) k)))
        (λ n k. ((since n k).0, k))
        (subst (λ (l : ℕ). Same (held_at l (m 0)) old m) long h)
    keeping_go m false e h = let k : Holds (v.home_of next.mind) m = subst (λ (hs : List ℕ). Holds hs m) (sym (ok.still c x s a e)) h in (inl (goes_dark_lem x m s a h), k)

    does_go : (m : Memory) → Holds (v.home_of x) m → Goes Cut Done (answering v c x) m
    unfolding Goes
    does_go m h =
        goes_then Cut (λ _ n. Holds (v.home_of next.mind) n) Done (keeping (v.keeps c x) (v.home_of next.mind)) (λ _. done next) m
        (keeping_go m (v.keeps c x) refl h)
        (λ _ n k. since n k)

  pub right : RightBy j (code_of v) (Tells j v Stands) (Awake j v Stands)
  right =
      record {
        at_first_lem = at_first;
        wakes = λ m s t. let g = wakes_go m s t in (goes_fits (λ n. Dark n s) (λ x n. Up x n s) (waking v) m g, goes_end (λ n. Dark n s) (λ x n. Up x n s) (waking v) m g);
        cut_waking = λ m n s t h. goes_half (λ n. Dark n s) (λ x n. Up x n s) h (wakes_go m s t);
        answers = λ x m s c a. let g = does_go c x s a.stands m a.held in (goes_fits (Cut c x s a.stands) (Done c x s a.stands) (answering v c x) m g, goes_end (Cut c x s a.stands) (Done c x s a.stands) (answering v c x) m g);
        cut_answering = λ x m n s c a h. goes_half (Cut c x s a.stands) (Done c x s a.stands) h (does_go c x s a.stands m a.held);
        goes_dark = λ x m s a. goes_dark_lem x m s a.stands a.held;
      }

-- and so is every run of it
pub runs : {C R X : Type 0} (j : Meant C R) (v : Service C R X) (Stands : X → j.State → Type 0) → Serves j v Stands → Darkens j → RunsRight j (code_of v)
runs j v Stands ok d = runs_right_lem j (code_of v) (Tells j v Stands) (Awake j v Stands) (right j v Stands ok) d.twice d.first

-- of code that is right by two relations: wherever a run has come, some state is told of
module _ {C R : Type 0} (j : Meant C R) (e : Code C R) (T : Memory → j.State → Type 0) (A : e.Mind → Memory → j.State → Type 0) (r : RightBy j e T A) where
  abbrev Told : Stand e.Mind → Type 0
  Told (asleep m) = (s : j.State) × T m s
  Told (awake x m) = (s : j.State) × A x m s

  told_cut : {c : C} {s : j.State} {n : Memory} → T n (j.dark s) ⊎ ((q : R) × (t : j.State) × j.May c s q t × T n (j.dark t)) → Told (asleep n)
  told_cut {s = s} (inl t) = (j.dark s, t)
  told_cut (inr w) = (j.dark w.1, w.3)

  pub told : {es : List (Happens C R)} {x : Stand e.Mind} → Run e es x → Told x
  told Run.blank = (j.start, r.at_first_lem)
  told (Run.wakes {m = m} q) = let h = told q in (h.0, (r.wakes m h.0 h.1).1)
  told (Run.is_cut_waking {m = m} {n = n} q w) = let h = told q in (h.0, r.cut_waking m n h.0 h.1 w)
  told (Run.does {x = x} {m = m} c q) = let h = told q in let a = (r.answers x m h.0 c h.1).1 in (a.0, a.2)
  told (Run.is_cut {x = x} {m = m} {n = n} c q w) = let h = told q in told_cut (r.cut_answering x m n h.0 c h.1 w)
  told (Run.darkens {x = x} {m = m} q) = let h = told q in (j.dark h.0, r.goes_dark x m h.0 h.1)

  pub fits : RunsFit e
  fits es x m c q = let h = told q in (r.answers x m h.0 c h.1).0

pub runs_fit : {C R X : Type 0} (j : Meant C R) (v : Service C R X) (Stands : X → j.State → Type 0) → Serves j v Stands → RunsFit (code_of v)
runs_fit j v Stands ok = fits j (code_of v) (Tells j v Stands) (Awake j v Stands) (right j v Stands ok)
