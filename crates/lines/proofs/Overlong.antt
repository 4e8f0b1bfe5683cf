-- No line that is longer than a report of 2,048 tasks can be done.
-- Assumes nothing.
use Rattle.std.proofs.Common.{◌≡◌, ℕ, ◌+◌, ◌*◌, ◌<◌, ◌≤◌, Bool, true, false, cond, ◌&&◌, ◌||◌, eqb, ltb, [], ◌∷◌, length, get_or, take, drop, sym, refl, ap, ◌∙◌, subst, inl, inr, arith}
use Rattle.std.proofs.lemmas.Bool.{cases_Bool, and_parts, eqb-true, ne_eqb, lt-ltb, ltb-true, ltb-false, or_right}
use Rattle.std.proofs.lemmas.List.{take_all, length-drop, drop_more, get_or-drop}
use Rattle.model.specs.State.{State}
use Rattle.model.specs.Calls.{Call, Report, acts, no}
use Rattle.model.specs.Wire.{Bytes, Read, garbled, meant, byte_at, field, read_kind_lem, read_call, read_report_lem, seens_in, flags_in}
use Rattle.model.specs.Lines.{call_in}
use Rattle.calls.proofs.News.{seens_length}
use Rattle.lines.specs.Held.{room, call_room, Holds}
use Rattle.lines.specs.Overlong.{AreBytes, Undoable, LongerAs}

-- nothing that is read is no call
unread : {P : Type 0} (c : Call) → garbled ≡ meant c → P
unread c h = absurd (let z : ◌≡◌ {A = ℕ} 0 1 = cc in omega arith)

-- one kind, or another
by_kind : {P : Type 0} (k j : ℕ) (x y : Read Call) (c : Call) → (x ≡ meant c → P) → (y ≡ meant c → P) → cond (eqb k j) x y ≡ meant c → P
by_kind {P} k j x y c f g = pick (eqb k j)
  where
    pick : (b : Bool) → cond b x y ≡ meant c → P
    pick true h = f h
    pick false h = g h

-- of another length it is no call
misfit : {P : Type 0} (l n : ℕ) (b : Bool) (x c : Call) → (l ≡ n → ⊥) → cond (eqb l n && b) (meant x) garbled ≡ meant c → P
misfit l n b x c f h = let e : eqb l n ≡ false = ne_eqb l n f in unread c (rw e at h)

misfits : {P : Type 0} (l n : ℕ) (x c : Call) → (l ≡ n → ⊥) → cond (eqb l n) (meant x) garbled ≡ meant c → P
misfits l n x c f h = let e : eqb l n ≡ false = ne_eqb l n f in unread c (rw e at h)

-- too many tasks
many : (k l n : ℕ) (count : ℕ) (bs : Bytes) (s : State) → 2048 < count → acts (Report k l n (seens_in count bs)) s ≡ no 1 s
unfolding acts
many k l n count bs s h = let e : ltb 2048 (length (seens_in count bs)) ≡ true = ap (ltb 2048) (seens_length count bs) ∙ lt-ltb 2048 count h in rw (or_right (ltb 4611686018427387904 l || ltb 4611686018427387904 n) _ e)

module _ (bs : Bytes) (long : call_room ≤ length bs) (small : (i : ℕ) → i < 300 → byte_at i bs < 256) (c : Call) (s : State) where
  reported : (b : Bool) (k l n count : ℕ) (rest : Bytes) → (eqb (length bs) (20 + 9 * count) && b) ≡ true → Report k l n (seens_in count rest) ≡ c → acts c s ≡ no 1 s
  reported b k l n count rest t e =
      let p = and_parts _ _ t in let q : length bs ≡ 20 + 9 * count = eqb-true _ _ p.0 in
      subst (λ (x : Call). acts x s ≡ no 1 s) e (many k l n count rest s (omega arith))

  report : read_report_lem bs ≡ meant c → acts c s ≡ no 1 s
  report h =
      elim (cases_Bool (eqb (length bs) (20 + 9 * field 2 18 bs) && flags_in (field 2 18 bs) (drop 20 bs))) [
        | inl t ↦ let g = rw t at h in reported (flags_in (field 2 18 bs) (drop 20 bs)) (field 2 0 bs) (field 8 2 bs) (field 8 10 bs) (field 2 18 bs) (drop 20 bs) t cc
        | inr f ↦ unread c (rw f at h)
      ]

  kinds : (k : ℕ) → read_kind_lem k bs ≡ meant c → acts c s ≡ no 1 s
  kinds k =
      let a = small 0 (omega arith) in
      let b = small (byte_at 0 bs + 13) (omega arith) in
      let d = small 10 (omega arith) in
      by_kind k 1 _ _ c (misfit _ _ _ _ c (λ (e : length bs ≡ byte_at 0 bs + 4 * byte_at (byte_at 0 bs + 13) bs + 21). omega arith))
      (by_kind k 2 _ _ c (misfits _ _ _ c (λ (e : length bs ≡ 1 + byte_at 0 bs). omega arith))
      (by_kind k 3 _ _ c (misfits _ _ _ c (λ (e : length bs ≡ 11 + 4 * byte_at 10 bs). omega arith))
      (by_kind k 4 _ _ c (misfits _ _ _ c (λ (e : length bs ≡ 2). omega arith))
      (by_kind k 5 _ _ c (misfits _ _ _ c (λ (e : length bs ≡ 2). omega arith))
      (by_kind k 6 _ _ c (misfits _ _ _ c (λ (e : length bs ≡ 2). omega arith))
      (by_kind k 7 _ _ c report
      (by_kind k 8 _ _ c (misfits _ _ _ c (λ (e : length bs ≡ 8). omega arith))
      (by_kind k 9 _ _ c (misfits _ _ _ c (λ (e : length bs ≡ 1 + byte_at 0 bs). omega arith)) (unread c)))))))))

-- a line that is longer than is held
module _ (bytes : Bytes) (count : ℕ) (line : Bytes) (h : Holds bytes count line) (small : AreBytes line) where
  -- where it is longer, what is behind the frame is too long for any call
  behind : room < count → Undoable (drop 8 line)
  behind l c e s =
      let q = h.long in
      let long : room < length line = omega (arith, q) in
      let f : drop 8 line ≡ get_or line 8 0 ∷ drop 9 line = drop_more line 8 0 (omega arith) in
      kinds (drop 9 line) (let d = length-drop 9 line in omega arith)
      (λ i b. let g = get_or-drop 9 line i 0 in let k = small (9 + i) in omega arith)
      c s (get_or line 8 0) (sym (ap read_call f) ∙ e)

  pub longer : room < count → Undoable (call_in line)
  longer l = pick (ltb (length line) 8) (eqb (field 4 0 line + 4) (length line))
    where
      pick : (a b : Bool) → Undoable (cond a [] (cond b (drop 8 line) []))
      pick true b = λ c e s. unread c e
      pick false true = behind l
      pick false false = λ c e s. unread c e

-- and where it isn't, all of it is held
pub whole : (bytes : Bytes) (count : ℕ) (line : Bytes) → Holds bytes count line → count ≤ room → take call_room (call_in line) ≡ call_in line
whole bytes count line h l = pick (ltb (length line) 8) (eqb (field 4 0 line + 4) (length line))
  where
    pick : (a b : Bool) → take call_room (cond a [] (cond b (drop 8 line) [])) ≡ cond a [] (cond b (drop 8 line) [])
    pick true b = refl
    pick false true = let q = h.long in let d = length-drop 8 line in take_all call_room (drop 8 line) (omega arith)
    pick false false = refl

pub longer_as : (bytes : Bytes) (count : ℕ) (line : Bytes) → Holds bytes count line → AreBytes line → LongerAs line (ltb room count)
longer_as bytes count line h b = elim (cases_Bool (ltb room count)) [ inl t ↦ rw t (longer bytes count line h b (ltb-true room count t)) | inr f ↦ rw f (whole bytes count line h (ltb-false room count f)) ]
