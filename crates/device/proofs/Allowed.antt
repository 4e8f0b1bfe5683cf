-- The code of a server is right, whichever way it does a call.
-- Assumes nothing.
use Rattle.std.proofs.Common.{◌≡◌, ℕ, zero, suc, ◌+◌, ◌*◌, ◌<◌, ◌≤◌, Bool, true, false, ◌⊎◌, List, length, get_or, sym, refl, ap, ◌∙◌, subst, inl, inr, arith}
use Rattle.model.specs.Memory.{Memory, blank_memory, words, Doing, done, Meant}
use Rattle.model.specs.Ways.{RightWays, WaysRunRight}
use Rattle.model.specs.Right.{Darkens}
use Rattle.model.proofs.Ways.{ways_run_right}
use Rattle.device.specs.Follows.{and_then}
use Rattle.device.specs.Halves.{held_at, reading, Same, Holds}
use Rattle.device.specs.Service.{Said, keeping, finishing, zeros}
use Rattle.device.specs.Server.{Server, ways_of, Allows, TellsOf, AwakeOf}
use Rattle.device.proofs.Goes.{Goes, goes_fits, goes_half, goes_end, goes_then, commits_go, reading_go, parts}

pub length_zeros : (n : ℕ) → length (zeros n) ≡ n
length_zeros zero = refl
length_zeros (suc n) = ap suc (length_zeros n)

pub zeros_zero : (n i : ℕ) → get_or (zeros n) i 0 ≡ 0
zeros_zero zero i = refl
zeros_zero (suc n) zero = refl
zeros_zero (suc n) (suc i) = zeros_zero n i

module _ {C R X : Type 0} (j : Meant C R) (v : Server C R X) (Stands : X → j.State → Type 0) (ok : Allows j v Stands) where
  abbrev Dark : Memory → j.State → Type 0
  Dark m s = TellsOf j v Stands m s

  abbrev Up : X → Memory → j.State → Type 0
  Up x m s = AwakeOf j v Stands x m s

  -- a mind that stands, whose words are held, is told of in the dark
  goes_dark_lem : (x : X) (m : Memory) (s : j.State) → Stands x s → Holds (v.home_of x) m → Dark m (j.dark s)
  goes_dark_lem x m s a h = record { home = v.home_of x; sized = ok.sized x s a; held = h; back = ok.again x s a; stands = ok.wakes x s a }

  at_first : Dark blank_memory j.start
  at_first = record { home = zeros v.size; sized = length_zeros v.size; held = λ i lt. sym (zeros_zero v.size i); back = ok.blank; stands = ok.first }

  -- WAKING
  wakes_go : (m : Memory) (s : j.State) → Dark m s → Goes (λ n. Dark n s) (λ x n. Up x n s) (ways_of v).wakes m
  unfolding Goes and_then
  wakes_go m s t =
      let size = v.size in
      let home = t.home in
      let at : ℕ = held_at size (m 0) in
      let same : Same at home m = subst (λ (k : ℕ). Same (held_at k (m 0)) home m) t.sized t.held in
      let room : at + length home ≤ words = let r = ok.room in let z = t.sized in elim (parts size (m 0)) [ inl p ↦ omega (arith, p.0) | inr p ↦ omega (arith, p.0) ] in
      let up : Up (v.wake_of home) m s = record { held = subst (λ (h : List ℕ). Holds h m) (sym t.back) t.held; stands = t.stands } in (
        omega arith,
        goes_then (λ n. Dark n s) (λ ws n. (ws ≡ home) × (n ≡ m)) (λ x n. Up x n s) (reading at size) (λ h. done (v.wake_of h)) m
            (subst (λ (k : ℕ). Goes (λ n. Dark n s) (λ ws n. (ws ≡ home) × (n ≡ m)) (reading at k) m) t.sized
            (reading_go (λ n. Dark n s) (λ ws n. (ws ≡ home) × (n ≡ m)) at home m room same t (refl, refl)))
            (λ ws n f. (subst (λ (o : Memory). Dark o s) (sym f.1) t, subst (λ (o : Memory). Up (v.wake_of ws) o s) (sym f.1) (subst (λ (h : List ℕ). Up (v.wake_of h) m s) (sym f.0) up))),
      )

  -- ANSWERING
  module _ (c : C) (x : X) (s : j.State) (a : Stands x s) (next : Said R X) (k : Bool) (said : v.Says c x next k) where
    abbrev Cut : Memory → Type 0
    Cut n = Dark n (j.dark s) ⊎ ((r : R) × (t : j.State) × j.May c s r t × Dark n (j.dark t))

    abbrev Done : Said R X → Memory → Type 0
    Done y n = (t : j.State) × j.May c s y.reply t × Up y.mind n t

    next_sized : length (v.home_of next.mind) ≡ v.size
    next_sized = let b = ok.answers c x next k s a said in ok.sized next.mind b.0 b.2

    -- where the new words are held
    since : (n : Memory) → Holds (v.home_of next.mind) n → Cut n × Done next n
    since n h =
        let b = ok.answers c x next k s a said in
        (inr (next.reply, b.0, b.1, goes_dark_lem next.mind n b.0 b.2 h), (b.0, b.1, record { held = h; stands = b.2 }))

    keeping_go : (m : Memory) (b : Bool) → k ≡ b → Holds (v.home_of x) m → Goes Cut (λ _ n. Holds (v.home_of next.mind) n) (keeping b (v.home_of next.mind)) m
    unfolding Goes
    keeping_go m true e h =
        let old = v.home_of x in
        let new = v.home_of next.mind in
        let b = ok.answers c x next k s a said in
        let long : length old ≡ length new = ok.sized x s a ∙ sym next_sized in
        let room : 2 * length new < words = let r = ok.room in let z = next_sized in omega (arith, r, z) in
        commits_go Cut (λ _ n. Holds new n) old new m long room (ok.small next.mind b.0 b.2)
        (λ n q. inl (goes_dark_lem x n s a (subst (λ (l : ℕ). Same (held_at l (n 0)) old n) (sym long) q)))
        (λ n q. ((since n q).0, q))
        (subst (λ (l : ℕ). Same (held_at l (m 0)) old m) long h)
    keeping_go m false e h = let q : Holds (v.home_of next.mind) m = subst (λ (hs : List ℕ). Holds hs m) (sym (ok.still c x next s a (subst (v.Says c x next) e said))) h in (inl (goes_dark_lem x m s a h), q)

    does_go : (m : Memory) → Holds (v.home_of x) m → Goes Cut Done (finishing k (v.home_of next.mind) next) m
    unfolding Goes
    does_go m h =
        goes_then Cut (λ _ n. Holds (v.home_of next.mind) n) Done (keeping k (v.home_of next.mind)) (λ _. done next) m
        (keeping_go m k refl h)
        (λ _ n q. since n q)

  pub right : RightWays j (ways_of v) (TellsOf j v Stands) (AwakeOf j v Stands)
  right =
      record {
        at_first_lem = at_first;
        wakes = λ m s t. let g = wakes_go m s t in (goes_fits (λ n. Dark n s) (λ x n. Up x n s) (ways_of v).wakes m g, goes_end (λ n. Dark n s) (λ x n. Up x n s) (ways_of v).wakes m g);
        cut_waking = λ m n s t h. goes_half (λ n. Dark n s) (λ x n. Up x n s) h (wakes_go m s t);
        answers = λ x m s c d a o.
            let g = subst (λ (p : Doing (Said R X)). Goes (Cut c x s a.stands o.0 o.1 o.2) (Done c x s a.stands o.0 o.1 o.2) p m) (sym o.3) (does_go c x s a.stands o.0 o.1 o.2 m a.held) in
            (goes_fits (Cut c x s a.stands o.0 o.1 o.2) (Done c x s a.stands o.0 o.1 o.2) d m g, goes_end (Cut c x s a.stands o.0 o.1 o.2) (Done c x s a.stands o.0 o.1 o.2) d m g);
        cut_answering = λ x m n s c d a o h.
            goes_half (Cut c x s a.stands o.0 o.1 o.2) (Done c x s a.stands o.0 o.1 o.2) h
            (subst (λ (p : Doing (Said R X)). Goes (Cut c x s a.stands o.0 o.1 o.2) (Done c x s a.stands o.0 o.1 o.2) p m) (sym o.3) (does_go c x s a.stands o.0 o.1 o.2 m a.held));
        goes_dark = λ x m s a. goes_dark_lem x m s a.stands a.held;
      }

-- and so is every run of it
pub runs : {C R X : Type 0} (j : Meant C R) (v : Server C R X) (Stands : X → j.State → Type 0) → Allows j v Stands → Darkens j → WaysRunRight j (ways_of v)
runs j v Stands ok d = ways_run_right j (ways_of v) (TellsOf j v Stands) (AwakeOf j v Stands) (right j v Stands ok) d.twice d.first
