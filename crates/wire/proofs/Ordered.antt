-- Orders in bytes, one by one.
-- Assumes nothing.
use Rattle.std.proofs.Common.{◌≡◌, ℕ, zero, suc, ◌+◌, ◌-◌, ◌*◌, ◌/◌, ◌<◌, ◌≤◌, Bool, true, false, ◌&&◌, eqb, List, [], ◌∷◌, ◌++◌, map, length, get_or, take, drop, Err, sym, refl, ap, ◌∙◌, append_assoc, append-nil, arith, length-drop}
use Rattle.std.proofs.lemmas.List.{take_rest, length-map}
use Rattle.std.proofs.lemmas.Bool.{eq-eqb, le-leb, le-ltb}
use Rattle.octets.proofs.Numbers.{length_take_under}
use Rattle.octets.proofs.Filling.{tags_within}
use Rattle.model.specs.Wire.{Bytes, garbled, meant, byte_at, field, tags_in_lem, spec_in_lem, Runs}
use Rattle.model.specs.Lines.{call_in}
use Rattle.model.specs.State as s
use Rattle.model.specs.Calls as m
use Rattle.model.specs.Answers.{tags_at, order_width, order_in, is_order_in, orders_in_lem, are_orders_in, read_runs}
use Rattle.wire.specs.Replies.{order_of, run_of}
use Rattle.wire.specs.Answering.{OrderRead, OrdersAs, SaysAs}
use Rattle.wire.specs.declared.unread.Unread.{Unread}
use Rattle.wire.specs.declared.unread.Unread.TheVariants.{NoAnswer, NoMemory}
use Rattle.wire.specs.declared.reply.Order.{Order}

-- the tags that were filled in
pub tags_filled : (t : ℕ) (bs out : Bytes) → 14 + 4 * t ≤ length bs → take (length (take (13 + 4 * t - 13) (drop 13 bs)) / 4) out ≡ tags_in_lem (length (take (13 + 4 * t - 13) (drop 13 bs)) / 4) (take (13 + 4 * t - 13) (drop 13 bs)) →
    take t out ≡ tags_in_lem t (drop 13 bs)
tags_filled t bs out l e =
    let k : 13 + 4 * t - 13 ≡ 4 * t = omega arith in let d = length-drop 13 bs in let w : 4 * t ≤ length (drop 13 bs) = omega (arith, l, d) in
    let m : length (take (13 + 4 * t - 13) (drop 13 bs)) / 4 ≡ t = (let a = ap (λ (n : ℕ). length (take n (drop 13 bs))) k in let b = length_take_under (4 * t) (drop 13 bs) w in omega (arith, a, b)) in
    ap (λ (n : ℕ). take n out) (sym m) ∙ e ∙ ap (λ (n : ℕ). tags_in_lem n (take (13 + 4 * t - 13) (drop 13 bs))) m ∙ ap (λ (n : ℕ). tags_in_lem t (take n (drop 13 bs))) k ∙ tags_within t (drop 13 bs) w

-- a likeness, by its parts
pub spec_read : (t : ℕ) (bs ts : Bytes) (i c m : ℕ) (a : Bool) → i ≡ field 4 0 bs → c ≡ field 4 4 bs → m ≡ field 4 8 bs → a ≡ eqb (get_or bs (13 + 4 * t) 0) 1 → ts ≡ tags_in_lem t (drop 13 bs) →
    ◌≡◌ {A = s.Spec} (record { image = i; cpu = c; mem = m; tags = ts; apart = a }) (spec_in_lem t bs)
spec_read t bs ts i c m a p q r s h = λ j. record { image = p j; cpu = q j; mem = r j; tags = h j; apart = s j }

-- an order that is there whole
pub order_fits_lem : (bs : Bytes) → order_width bs ≤ length bs → tags_at bs ≤ 8 → byte_at (21 + 4 * tags_at bs) bs ≤ 1 → is_order_in bs ≡ true
order_fits_lem bs a b c = rw (le-leb _ _ a, le-leb _ _ b, le-leb _ _ c)

pub order_read : (bs : Bytes) (i : ℕ) (a : s.Spec) → i ≡ field 8 0 bs → a ≡ spec_in_lem (tags_at bs) (take (length bs - 8) (drop 8 bs)) → ◌≡◌ {A = m.Order} (record { id = i; spec = a }) (order_in bs)
order_read bs i a p q = let h : a ≡ spec_in_lem (tags_at bs) (drop 8 bs) = q ∙ ap (spec_in_lem (tags_at bs)) (take_rest bs 8) in λ j. record { id = p j; spec = h j }

-- orders one after the other: i of n were read, and these bytes are left
pub record Reading (n : ℕ) (bs : Bytes) (i : ℕ) (rest : Bytes) (os : List m.Order) : Type 0 where
  pub fits : are_orders_in (n - i) rest ≡ are_orders_in n bs
  pub value : os ++ orders_in_lem (n - i) rest ≡ orders_in_lem n bs

module _ (n : ℕ) (bs : Bytes) (i : ℕ) (rest : Bytes) (os : List m.Order) (h : Reading n bs i rest os) (l : i < n) where
  fits_step : are_orders_in (n - i) rest ≡ (is_order_in rest && are_orders_in (n - (i + 1)) (drop (order_width rest) rest))
  unfolding are_orders_in
  fits_step = let k : n - i ≡ suc (n - (i + 1)) = omega arith in rw k

  value_step : orders_in_lem (n - i) rest ≡ order_in rest ∷ orders_in_lem (n - (i + 1)) (drop (order_width rest) rest)
  unfolding orders_in_lem
  value_step = let k : n - i ≡ suc (n - (i + 1)) = omega arith in rw k

  -- no order is next
  pub reading_bad : is_order_in rest ≡ false → are_orders_in n bs ≡ false
  reading_bad e = sym h.fits ∙ fits_step ∙ rw e

  pub reading_more : (o : Order) → OrderRead rest o → (os' : List m.Order) → os' ≡ os ++ (order_of o ∷ []) → Reading n bs (i + 1) (take (length rest - (22 + 4 * o.spec.count)) (drop (22 + 4 * o.spec.count) rest)) os'
  reading_more o r os' q = record { fits = f; value = v }
    where
      e : drop (22 + 4 * o.spec.count) rest ≡ drop (order_width rest) rest
      e = ap (λ (t : ℕ). drop (22 + 4 * t) rest) r.count

      left : take (length rest - (22 + 4 * o.spec.count)) (drop (22 + 4 * o.spec.count) rest) ≡ drop (22 + 4 * o.spec.count) rest
      left = take_rest rest (22 + 4 * o.spec.count)

      f : are_orders_in (n - (i + 1)) (take (length rest - (22 + 4 * o.spec.count)) (drop (22 + 4 * o.spec.count) rest)) ≡ are_orders_in n bs
      f = rw (left, e) (sym (sym h.fits ∙ fits_step ∙ rw r.fits))

      v : os' ++ orders_in_lem (n - (i + 1)) (take (length rest - (22 + 4 * o.spec.count)) (drop (22 + 4 * o.spec.count) rest)) ≡ orders_in_lem n bs
      v = rw (q, left, e, r.value) (append_assoc os (order_in rest ∷ []) (orders_in_lem (n - (i + 1)) (drop (order_width rest) rest)) ∙ ap (λ (ys : List m.Order). os ++ ys) (sym value_step) ∙ h.value)

module _ (n : ℕ) (bs : Bytes) (i : ℕ) (rest : Bytes) (os : List m.Order) (h : Reading n bs i rest os) (l : n ≤ i) where
  none_left : n - i ≡ 0
  none_left = omega arith

  -- bytes behind the last, or none
  pub reading_ends : (b : Bool) → b ≡ eqb (length rest) 0 → are_orders_in n bs ≡ b
  unfolding are_orders_in
  reading_ends b e = let z : are_orders_in (n - i) rest ≡ eqb (length rest) 0 = rw none_left in sym h.fits ∙ z ∙ sym e

  pub reading_all : os ≡ orders_in_lem n bs
  unfolding orders_in_lem
  reading_all = let z : orders_in_lem (n - i) rest ≡ [] = rw none_left in sym (append-nil os) ∙ ap (λ (ys : List m.Order). os ++ ys) (sym z) ∙ h.value

-- an answer to a report, by its parts
module _ (bs : Bytes) (l : 20 ≤ length bs) where
  pub runs_read : (k e n c : ℕ) (os : List m.Order) → k ≡ field 2 0 bs → e ≡ field 8 2 bs → n ≡ field 8 10 bs → c ≡ field 2 18 bs → are_orders_in c (take (length bs - 20) (drop 20 bs)) ≡ true → os ≡ orders_in_lem c (take (length bs - 20) (drop 20 bs)) →
      read_runs bs ≡ meant (Runs k e n os)
  runs_read k e n c os p q r s f v =
      let g : are_orders_in (field 2 18 bs) (drop 20 bs) ≡ true = sym (ap (λ (x : ℕ). are_orders_in x (drop 20 bs)) s) ∙ sym (ap (are_orders_in c) (take_rest bs 20)) ∙ f in
      let o : os ≡ orders_in_lem (field 2 18 bs) (drop 20 bs) = v ∙ ap (orders_in_lem c) (take_rest bs 20) ∙ ap (λ (x : ℕ). orders_in_lem x (drop 20 bs)) s in
      rw (le-leb 20 (length bs) l, g, p, q, r, o)

  pub runs_bad : (c : ℕ) → c ≡ field 2 18 bs → are_orders_in c (take (length bs - 20) (drop 20 bs)) ≡ false → read_runs bs ≡ garbled
  runs_bad c s f =
      let g : are_orders_in (field 2 18 bs) (drop 20 bs) ≡ false = sym (ap (λ (x : ℕ). are_orders_in x (drop 20 bs)) s) ∙ sym (ap (are_orders_in c) (take_rest bs 20)) ∙ f in
      rw (le-leb 20 (length bs) l, g)

-- and why it is none
pub runs_unread : (bs : Bytes) → 20 ≤ length bs → (c : ℕ) (e : Unread) → c ≡ field 2 18 bs → OrdersAs c (take (length bs - 20) (drop 20 bs)) (Err e) → SaysAs run_of (read_runs bs) (Err e)
runs_unread bs l c NoAnswer s h = runs_bad bs l c s h
runs_unread bs l c NoMemory s h = tt

-- a frame
pub frame_good : (line : Bytes) → 8 ≤ length line → field 4 0 line + 4 ≡ length line → take (length line - 8) (drop 8 line) ≡ call_in line
frame_good line l e = rw (le-ltb (length line) 8 l, eq-eqb (field 4 0 line + 4) (length line) e, take_rest line 8)

pub length_orders_in : (n : ℕ) (bs : Bytes) → length (orders_in_lem n bs) ≡ n
unfolding orders_in_lem
length_orders_in zero bs = refl
length_orders_in (suc n) bs = let h = length_orders_in n (drop (order_width bs) bs) in cc

-- as many as are said
pub orders_few : (n : ℕ) (bs : Bytes) (os : List Order) (len : ℕ) → map order_of os ≡ orders_in_lem n bs → len ≡ length os → n < 65536 → len ≤ 65535
orders_few n bs os len e l h = let a = length-map os order_of in let b = ap length e in let c = length_orders_in n bs in omega arith
