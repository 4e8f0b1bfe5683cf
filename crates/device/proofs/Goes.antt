-- A doing that goes well: it fits, R holds wherever it is cut, and E of what it comes to and leaves.
-- Assumes nothing.
use Rattle.std.proofs.Common.{◌≡◌, ℕ, zero, suc, ◌+◌, ◌*◌, ◌%◌, ◌<◌, ◌≤◌, true, eqb, leb, ◌⊎◌, List, [], ◌∷◌, length, get_or, Result, sym, refl, ap, ◌∙◌, subst, inl, inr, arith}
use Rattle.std.proofs.lemmas.Bool.{eqb-true, leb-true, cond-true, cond-false, cond_both, cases_Bool}
use Rattle.std.proofs.lemmas.Result.{MatchResult-weaker}
use Rattle.model.specs.Memory.{Memory, words, stored, Doing, done, load, store, comes_to, leaves, Halfway, here, after_load, after_store, Fits, fits_done, fits_load, fits_store}
use Rattle.device.specs.Follows.{Ended, Follows, and_then}
use Rattle.device.specs.Halves.{held_at, spare_at, turned, differs, copies, turning, deciding, commits, reading, Same, Holds, Whole}
use Rattle.device.specs.Budget.{unless, differing_of, differing}
use Rattle.device.proofs.Doings.{stored_same, stored_other}
use Rattle.device.proofs.Stores.{differing_same}

unfoldable pub Goes : {A : Type 0} → (Memory → Type 0) → (A → Memory → Type 0) → Doing A → Memory → Type 0
Goes R E (done a) m = R m × E a m
Goes R E (load a k) m = (a < words) × Goes R E (k (m a)) m
Goes R E (store a w p) m = R m × (a < words) × (w < 18446744073709551616) × Goes R E p (stored a w m)

module _ {A : Type 0} (R : Memory → Type 0) (E : A → Memory → Type 0) where
  pub goes_fits : (p : Doing A) (m : Memory) → Goes R E p m → Fits p m
  unfolding Goes
  goes_fits (done a) m g = fits_done
  goes_fits (load a k) m g = fits_load g.0 (goes_fits (k (m a)) m g.1)
  goes_fits (store a w p) m g = fits_store g.1 g.2 (goes_fits p (stored a w m) g.3)

  pub goes_first : (p : Doing A) (m : Memory) → Goes R E p m → R m
  unfolding Goes
  goes_first (done a) m g = g.0
  goes_first (load a k) m g = goes_first (k (m a)) m g.1
  goes_first (store a w p) m g = g.0

  pub goes_half : {p : Doing A} {m n : Memory} → Halfway p m n → Goes R E p m → R n
  unfolding Goes
  goes_half (here {p} {m}) g = goes_first p m g
  goes_half (after_load h) g = goes_half h g.1
  goes_half (after_store h) g = goes_half h g.3

  pub goes_end : (p : Doing A) (m : Memory) → Goes R E p m → E (comes_to p m) (leaves p m)
  unfolding Goes comes_to leaves
  goes_end (done a) m g = g.1
  goes_end (load a k) m g = goes_end (k (m a)) m g.1
  goes_end (store a w p) m g = goes_end p (stored a w m) g.3

pub goes_then : {A B : Type 0} (R : Memory → Type 0) (F : A → Memory → Type 0) (E : B → Memory → Type 0) (p : Doing A) (f : A → Doing B) (m : Memory) → Goes R F p m → ((a : A) (n : Memory) → F a n → Goes R E (f a) n) → Goes R E (and_then p f) m
unfolding Goes and_then
goes_then R F E (done a) f m g k = k a m g.1
goes_then R F E (load a c) f m g k = (g.0, goes_then R F E (c (m a)) f m g.1 k)
goes_then R F E (store a w p) f m g k = (g.0, g.1, g.2, goes_then R F E p f (stored a w m) g.3 k)

-- LOOKING
differs_go : (R : Memory → Type 0) (E : ℕ → Memory → Type 0) (a c : ℕ) (ws : List ℕ) (m : Memory) → R m → a + length ws ≤ words → E (c + differing a ws m) m → Goes R E (differs a c ws) m
unfolding Goes differs differing_of
differs_go R E a c [] m r le e = (r, let s : c + 0 ≡ c = omega arith in subst (λ (n : ℕ). E n m) s e)
differs_go R E a c (w ∷ ws) m r le e = (
  omega arith,
  cond_both (eqb (m a) w) (differs (a + 1) c ws) (differs (a + 1) (c + 1) ws) (λ p. Goes R E p m)
      (λ t. differs_go R E (a + 1) c ws m r (omega arith) (let z : unless (eqb (m a) w) 1 ≡ 0 = cond-true _ _ _ t in let s : c + (unless (eqb (m a) w) 1 + differing (a + 1) ws m) ≡ c + differing (a + 1) ws m = omega (arith, z) in subst (λ (n : ℕ). E n m) s e))
      (λ t. differs_go R E (a + 1) (c + 1) ws m r (omega arith) (let z : unless (eqb (m a) w) 1 ≡ 1 = cond-false _ _ _ t in let s : c + (unless (eqb (m a) w) 1 + differing (a + 1) ws m) ≡ c + 1 + differing (a + 1) ws m = omega (arith, z) in subst (λ (n : ℕ). E n m) s e)),
)

same_cons : (a w : ℕ) (ws : List ℕ) (m : Memory) → m a ≡ w → Same (a + 1) ws m → Same a (w ∷ ws) m
same_cons a w ws m e s zero lt = let z : a + 0 ≡ a = omega arith in ap m z ∙ e
same_cons a w ws m e s (suc i) lt = let z : a + suc i ≡ a + 1 + i = omega arith in ap m z ∙ s i (omega arith)

-- COPYING where nothing looks: what such stores keep holds all along
copies_go : (R : Memory → Type 0) (E : Unit {0} → Memory → Type 0) (P : Memory → Type 0) (a : ℕ) (ws : List ℕ) (m : Memory) →
    ((n : Memory) (b w : ℕ) → a ≤ b → b < a + length ws → P n → P (stored b w n)) → ((n : Memory) → P n → R n) → ((n : Memory) → P n → Same a ws n → E tt n) →
    a + length ws ≤ words → ((i : ℕ) → get_or ws i 0 < 18446744073709551616) → P m → Goes R E (copies a ws) m
unfolding Goes copies
copies_go R E P a [] m keeps r e le small p = (r m p, e m p (λ i lt. absurd (omega arith)))
copies_go R E P a (w ∷ ws) m keeps r e le small p = (
  omega arith,
  (let more : (n : Memory) → P n × (n a ≡ w) → Goes R E (copies (a + 1) ws) n =
      λ n q. copies_go R E (λ o. P o × (o a ≡ w)) (a + 1) ws n
      (λ o b v ge lt h. (keeps o b v (omega arith) (omega arith) h.0, stored_other b v o a (λ is. omega arith) ∙ h.1))
      (λ o h. r o h.0) (λ o h s. e o h.0 (same_cons a w ws o h.1 s)) (omega arith) (λ i. small (suc i)) q in
      cond_both (eqb (m a) w) (copies (a + 1) ws) (store a w (copies (a + 1) ws)) (λ q. Goes R E q m)
      (λ t. more m (p, eqb-true _ _ t))
      (λ t. (r m p, omega arith, small 0, more (stored a w m) (keeps m a w (omega arith) (omega arith) p, stored_same a w m a refl)))),
)

-- COPYING in place, where at most one word differs
none_go : (R : Memory → Type 0) (E : Unit {0} → Memory → Type 0) (a : ℕ) (ws : List ℕ) (m : Memory) → a + length ws ≤ words → differing a ws m ≡ 0 → R m → (Same a ws m → E tt m) → Goes R E (copies a ws) m
unfolding Goes copies differing_of
none_go R E a [] m le z r e = (r, e (λ i lt. absurd (omega arith)))
none_go R E a (w ∷ ws) m le z r e = (
  omega arith,
  cond_both (eqb (m a) w) (copies (a + 1) ws) (store a w (copies (a + 1) ws)) (λ q. Goes R E q m)
      (λ t. none_go R E (a + 1) ws m (omega arith) (omega (arith, z)) r (λ s. e (same_cons a w ws m (eqb-true _ _ t) s)))
      (λ t. let o : unless (eqb (m a) w) 1 ≡ 1 = cond-false _ _ _ t in absurd (omega (arith, o, z))),
)

zero_same : (a : ℕ) (ws : List ℕ) (m : Memory) → differing a ws m ≡ 0 → Same a ws m
unfolding differing_of
zero_same a [] m z = λ i lt. absurd (omega arith)
zero_same a (w ∷ ws) m z =
    let rest = zero_same (a + 1) ws m (omega (arith, z)) in
    elim (cases_Bool (eqb (m a) w)) [ inl t ↦ same_cons a w ws m (eqb-true _ _ t) rest | inr t ↦ let o : unless (eqb (m a) w) 1 ≡ 1 = cond-false _ _ _ t in absurd (omega (arith, o, z)) ]

one_goes : (R : Memory → Type 0) (E : Unit {0} → Memory → Type 0) (a : ℕ) (ws : List ℕ) (m : Memory) → a + length ws ≤ words → ((i : ℕ) → get_or ws i 0 < 18446744073709551616) → differing a ws m ≤ 1 → R m →
    ((n : Memory) → Same a ws n → ((b : ℕ) → b < a → n b ≡ m b) → R n × E tt n) → Goes R E (copies a ws) m
unfolding Goes copies differing_of
one_goes R E a [] m le small o r e = e m (λ i lt. absurd (omega arith)) (λ b lt. refl)
one_goes R E a (w ∷ ws) m le small o r e = (
  omega arith,
  cond_both (eqb (m a) w) (copies (a + 1) ws) (store a w (copies (a + 1) ws)) (λ q. Goes R E q m)
      (λ t. one_goes R E (a + 1) ws m (omega arith) (λ i. small (suc i)) (omega (arith, o)) r (λ n s f. e n (same_cons a w ws n (f a (omega arith) ∙ eqb-true _ _ t) s) (λ b lt. f b (omega arith))))
      (λ t.
      let one : unless (eqb (m a) w) 1 ≡ 1 = cond-false _ _ _ t in
      let zero' : differing (a + 1) ws m ≡ 0 = omega (arith, one, o) in
      let n : Memory = stored a w m in
      let still : differing (a + 1) ws n ≡ 0 = differing_same (λ _. true) (a + 1) ws m n (λ b ge. stored_other a w m b (λ is. omega arith)) ∙ zero' in
      let ends : Same (a + 1) ws n → R n × E tt n = λ s. e n (same_cons a w ws n (stored_same a w m a refl) s) (λ b lt. stored_other a w m b (λ is. omega arith)) in
      (r, omega arith, small 0, none_go R E (a + 1) ws n (omega arith) still (ends (zero_same (a + 1) ws n still)).0 (λ s. (ends s).1))),
)

-- A CHANGE of words that are held: R where the old ones are, R and E where the new ones are
pub parts : (size w : ℕ) → ((held_at size w ≡ 1) × (spare_at size w ≡ 1 + size) × (turned w ≡ 1)) ⊎ ((held_at size w ≡ 1 + size) × (spare_at size w ≡ 1) × (turned w ≡ 0))
parts size w = elim (cases_Bool (eqb (w % 2) 0)) [ inl t ↦ inl (cond-true _ _ _ t, cond-true _ _ _ t, cond-true _ _ _ t) | inr t ↦ inr (cond-false _ _ _ t, cond-false _ _ _ t, cond-false _ _ _ t) ]

turned_held : (size w : ℕ) → held_at size (turned w) ≡ spare_at size w
turned_held size w = elim (parts size w) [ inl t ↦ ap (held_at size) t.2 ∙ sym t.1 | inr t ↦ ap (held_at size) t.2 ∙ sym t.1 ]

module _ (R : Memory → Type 0) (E : Unit {0} → Memory → Type 0) (old new : List ℕ) (m : Memory) (long : length old ≡ length new) (room : 2 * length new < words) (small : (i : ℕ) → get_or new i 0 < 18446744073709551616)
    (before : (n : Memory) → Same (held_at (length new) (n 0)) old n → R n) (since : (n : Memory) → Same (held_at (length new) (n 0)) new n → R n × E tt n) (stands : Same (held_at (length new) (m 0)) old m) where
  abbrev b : ℕ
  b = held_at (length new) (m 0)

  abbrev s : ℕ
  s = spare_at (length new) (m 0)

  abbrev P : Memory → Type 0
  P n = (n 0 ≡ m 0) × Same b old n

  old_still : (n : Memory) → P n → Same (held_at (length new) (n 0)) old n
  old_still n p = subst (λ (x : ℕ). Same (held_at (length new) x) old n) (sym p.0) p.1

  past : (0 < b) × (0 < s)
  past = elim (parts (length new) (m 0)) [ inl t ↦ (omega (arith, t.0), omega (arith, t.1)) | inr t ↦ (omega (arith, t.0), omega (arith, t.1)) ]

  keeps : (n : Memory) (c w : ℕ) → s ≤ c → c < s + length new → P n → P (stored c w n)
  keeps n c w ge lt p = (
    stored_other c w n 0 (λ is. let q = past in omega (arith, q.1)) ∙ p.0,
    λ i lt'. stored_other c w n (b + i) (λ is. elim (parts (length new) (m 0)) [ inl t ↦ omega (arith, t.0, t.1) | inr t ↦ omega (arith, t.0, t.1) ]) ∙ p.1 i lt',
  )

  turns : Goes R E (turning (m 0) new) m
  unfolding Goes
  turns =
      let room' : s + length new ≤ words = elim (parts (length new) (m 0)) [ inl t ↦ omega (arith, t.1) | inr t ↦ omega (arith, t.1) ] in
      let low : turned (m 0) < 18446744073709551616 = elim (parts (length new) (m 0)) [ inl t ↦ omega (arith, t.2) | inr t ↦ omega (arith, t.2) ] in
      goes_then R (λ _ n. P n × Same s new n) E (copies s new) (λ _. store 0 (turned (m 0)) (done tt)) m
      (copies_go R (λ _ n. P n × Same s new n) P s new m keeps (λ n p. before n (old_still n p)) (λ n p q. (p, q)) room' small (refl, stands))
      (λ _ n q. (before n (old_still n q.0), omega arith, low, since (stored 0 (turned (m 0)) n) (λ i lt. ap (λ (x : ℕ). stored 0 (turned (m 0)) n (x + i)) (turned_held (length new) (m 0)) ∙ stored_other 0 (turned (m 0)) n (s + i) (λ is. let z = past in omega (arith, z.1)) ∙ q.1 i lt)))

  pub commits_go : Goes R E (commits new) m
  unfolding Goes
  commits_go =
      let room' : b + length new ≤ words = elim (parts (length new) (m 0)) [ inl t ↦ omega (arith, t.0) | inr t ↦ omega (arith, t.0) ] in
      let r : R m = before m stands in (
        omega arith,
        goes_then R (λ k n. Goes R E (deciding (m 0) new k) n) E (differs b 0 new) (deciding (m 0) new) m
            (differs_go R (λ k n. Goes R E (deciding (m 0) new k) n) b 0 new m r room'
            (cond_both (leb (0 + differing b new m) 1) (copies b new) (turning (m 0) new) (λ q. Goes R E q m)
            (λ t. one_goes R E b new m room' small (omega (arith, leb-true _ _ t)) r (λ n q f. since n (subst (λ (x : ℕ). Same (held_at (length new) x) new n) (sym (f 0 (let z = past in omega (arith, z.0)))) q)))
            (λ t. turns)))
            (λ k n g. g),
      )

-- all or nothing
whole_go : (old new : List ℕ) (m : Memory) → length old ≡ length new → 2 * length new < words → ((i : ℕ) → get_or new i 0 < 18446744073709551616) → Holds old m → Goes (λ o. Holds old o ⊎ Holds new o) (λ _ o. Holds new o) (commits new) m
whole_go old new m long room small h =
    commits_go (λ o. Holds old o ⊎ Holds new o) (λ _ o. Holds new o) old new m long room small
    (λ n k. inl (subst (λ (l : ℕ). Same (held_at l (n 0)) old n) (sym long) k))
    (λ n k. (inr k, k))
    (subst (λ (l : ℕ). Same (held_at l (m 0)) old m) long h)

pub whole_cut : (old new : List ℕ) (m n : Memory) → length old ≡ length new → 2 * length new < words → ((i : ℕ) → get_or new i 0 < 18446744073709551616) → Holds old m → Halfway (commits new) m n → Holds old n ⊎ Holds new n
whole_cut old new m n long room small h k = goes_half (λ o. Holds old o ⊎ Holds new o) (λ _ o. Holds new o) k (whole_go old new m long room small h)

pub whole_end : (old new : List ℕ) (m n : Memory) → length old ≡ length new → 2 * length new < words → ((i : ℕ) → get_or new i 0 < 18446744073709551616) → Holds old m → Ended (commits new) m tt n → Holds new n
whole_end old new m n long room small h k = subst (Holds new) k.left (goes_end (λ o. Holds old o ⊎ Holds new o) (λ _ o. Holds new o) (commits new) m (whole_go old new m long room small h))

pub whole : {E : Type 0} (new : List ℕ) (m n : Memory) (r : Result (Unit {0}) E) → 2 * length new < words → ((i : ℕ) → get_or new i 0 < 18446744073709551616) → Follows (commits new) m r tt n → Whole new m r n
whole new m n r room small f old long h = MatchResult-weaker r f (λ _ k. whole_end old new m n long room small h k) (λ _ k. whole_cut old new m n long room small h k)

-- READING
pub reading_go : (R : Memory → Type 0) (E : List ℕ → Memory → Type 0) (a : ℕ) (h : List ℕ) (m : Memory) → a + length h ≤ words → Same a h m → R m → E h m → Goes R E (reading a (length h)) m
unfolding Goes reading
reading_go R E a [] m le s r e = (r, e)
reading_go R E a (x ∷ h) m le s r e = (
  omega arith,
  goes_then R (λ ws n. (ws ≡ h) × (n ≡ m)) E (reading (a + 1) (length h)) (λ ws. done (m a ∷ ws)) m
      (reading_go R (λ ws n. (ws ≡ h) × (n ≡ m)) (a + 1) h m (omega arith) (λ j lt. let z : a + 1 + j ≡ a + suc j = omega arith in ap m z ∙ s (suc j) (omega arith)) r (refl, refl))
      (λ ws n f.
      let first : x ≡ m a = let z : a ≡ a + 0 = omega arith in sym (ap m z ∙ s 0 (omega arith)) in
      (subst R (sym f.1) r, subst (λ (v : ℕ). E (v ∷ ws) n) first (subst (λ (vs : List ℕ). E (x ∷ vs) n) (sym f.0) (subst (E (x ∷ h)) (sym f.1) e)))),
)
