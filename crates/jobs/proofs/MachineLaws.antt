-- Machines in their rows.
-- Assumes nothing.
use Rattle.std.proofs.Common.{◌≡◌, ℕ, ◌+◌, ◌*◌, ◌<◌, ◌≤◌, min, Bool, true, false, eqb, List, [], ◌∷◌, ◌++◌, map, length, take, drop, set, sym, refl, ap, ◌∙◌, subst, inl, inr, arith}
use borrow.Rule.Slice.PartMut.{put_mid}
use mir.Val.{bool_byte}
use Rattle.std.proofs.lemmas.Bool.{cases_Bool, cases_lt}
use Rattle.std.proofs.lemmas.List.{get_or-set_same, get_or-set_other, get_or-take, get_or-drop, drop-set-lt, length-set}
use Rattle.model.specs.State as s
use Rattle.model.specs.State.{with_machines}
use Rattle.model.specs.Calls.{opened, heard_from}
use Rattle.jobs.specs.Layout.{home_words_lem, live_words}
use Rattle.jobs.specs.Rows.{at, span, Only, WordsPut, Closed}
use Rattle.jobs.specs.Tables.{flag, machine_at, machine_from, machine_slot, machine_row_lem, machine_rows_lem, machines_of, machines_with, state_of, MachinesNow}
use Rattle.jobs.proofs.Finds.{slot_hole, slot_full}
use Rattle.jobs.proofs.Words.{only_row, set_only, only_wide, only_then, only_none, set_row, row_length, put_only}
use Rattle.jobs.proofs.TableLaws.{put_list_lem, push_list, Apart, apart_only, apart_set, machines_state}
use Rattle.jobs.proofs.MoveLaws.{closed_list, part_at, put_at}

-- A ROW, WORD BY WORD

other : (r : List ℕ) (i v k : ℕ) → (k ≡ i → ⊥) → at (set r i v) k ≡ at r k
other r i v k n = get_or-set_other r i k v 0 n

byte_flag : (b : Bool) → flag (bool_byte b) ≡ b
byte_flag true = refl
byte_flag false = refl

open_slot : (r : List ℕ) (h : ℕ) (b : Bool) → 4 < length r → machine_slot (set r 4 (bool_byte b)) h ≡ map (opened b) (machine_slot r h)
open_slot r h b l =
    let v = bool_byte b in
    let a0 = other r 4 v 0 (λ e. omega arith) in let a1 = other r 4 v 1 (λ e. omega arith) in let a2 = other r 4 v 2 (λ e. omega arith) in let a3 = other r 4 v 3 (λ e. omega arith) in
    let a5 = other r 4 v 5 (λ e. omega arith) in let a6 = other r 4 v 6 (λ e. omega arith) in let a7 = other r 4 v 7 (λ e. omega arith) in
    let a4 : at (set r 4 v) 4 ≡ v = get_or-set_same r 4 v 0 l in
    let d : drop 8 (set r 4 v) ≡ drop 8 r = drop-set-lt 8 r 4 v (omega arith) in
    rw (a0, a1, a2, a3, a4, a5, a6, a7, d, byte_flag b) (elim (cases_Bool (eqb (at r 0) 0)) [ inl t ↦ rw t | inr n ↦ rw n ])

hear_slot : (r : List ℕ) (h l n t : ℕ) → 6 < length r → machine_slot (set (set r 5 l) 6 n) t ≡ map (heard_from l n t) (machine_slot r h)
hear_slot r h l n t q =
    let z : (k : ℕ) → (k ≡ 5 → ⊥) → (k ≡ 6 → ⊥) → at (set (set r 5 l) 6 n) k ≡ at r k = λ k x y. other (set r 5 l) 6 n k y ∙ other r 5 l k x in
    let a0 = z 0 (λ e. omega arith) (λ e. omega arith) in let a1 = z 1 (λ e. omega arith) (λ e. omega arith) in let a2 = z 2 (λ e. omega arith) (λ e. omega arith) in let a3 = z 3 (λ e. omega arith) (λ e. omega arith) in
    let a4 = z 4 (λ e. omega arith) (λ e. omega arith) in let a7 = z 7 (λ e. omega arith) (λ e. omega arith) in
    let a5 : at (set (set r 5 l) 6 n) 5 ≡ l = other (set r 5 l) 6 n 5 (λ e. omega arith) ∙ get_or-set_same r 5 l 0 (omega arith) in
    let a6 : at (set (set r 5 l) 6 n) 6 ≡ n = get_or-set_same (set r 5 l) 6 n 0 (let e = length-set r 5 l in omega arith) in
    let d : drop 8 (set (set r 5 l) 6 n) ≡ drop 8 r = drop-set-lt 8 (set r 5 l) 6 n (omega arith) ∙ drop-set-lt 8 r 5 l (omega arith) in
    rw (a0, a1, a2, a3, a4, a5, a6, a7, d) (elim (cases_Bool (eqb (at r 0) 0)) [ inl t' ↦ rw t' | inr n' ↦ rw n' ])

-- THE ROWS

module _ (home : List ℕ) (fits : home_words_lem ≤ length home) where
  other_row : (home' : List ℕ) (i j : ℕ) → i < 256 → Only (6664 + i * 24) (6664 + i * 24 + 24) home' home → j < 256 → (j ≡ i → ⊥) → machine_row_lem home' j ≡ machine_row_lem home j
  other_row home' i j w o h ne =
      only_row (6664 + i * 24) (6664 + i * 24 + 24) (6664 + j * 24) 24 home' home o (omega arith) (elim (cases_lt j i) [ inl lt ↦ inl (omega arith) | inr ge ↦ inr (let n : i < j = past ge ne in omega arith) ])
    where
      past : i ≤ j → (j ≡ i → ⊥) → i < j
      past g n = omega arith

  near : (home' : List ℕ) (i : ℕ) → i < 256 → Only (6664 + i * 24) (6664 + i * 24 + 24) home' home → Apart 6664 12808 2 home home'
  near home' i w o = apart_only 6664 12808 2 (6664 + i * 24) (6664 + i * 24 + 24) home home' (omega arith) (omega arith) o

  long_row : (i : ℕ) → i < 256 → length (machine_row_lem home i) ≡ 24
  long_row i w = row_length 24 (6664 + i * 24) home (omega arith)

  -- row i stands for xs now; of live its word at the most
  puts : (live home' live' : List ℕ) (i : ℕ) (xs : List s.Machine) → i < machine_rows_lem home → Only (6664 + i * 24) (6664 + i * 24 + 24) home' home → Only i (i + 1) live' live → machine_at home' live' i ≡ xs → MachinesNow (machines_with home live i xs) home live home' live'
  puts live home' live' i xs w o u e =
      let a = near home' i (omega arith) o in
      let rows : machine_rows_lem home' ≡ machine_rows_lem home = ap (λ (n : ℕ). min n 256) (o.below 2 (omega arith)) in
      record {
        state = machines_state home home' fits live live' a (λ k h. u.above k (omega arith)) (machines_with home live i xs)
            (ap (span (machine_at home' live') 0) rows ∙ put_list_lem (machine_at home live) (machine_at home' live') (machine_rows_lem home) i xs w e
            (λ j h ne. ap (λ (r : List ℕ). machine_slot r (at live' j)) (other_row home' i j (omega arith) o (omega arith) ne) ∙ ap (machine_slot (machine_row_lem home j)) (heard j ne)));
        long = o.long;
        long_live = u.long;
      }
    where
      past : (j : ℕ) → i ≤ j → (j ≡ i → ⊥) → i < j
      past j g n = omega arith

      heard : (j : ℕ) → (j ≡ i → ⊥) → at live' j ≡ at live j
      heard j ne = elim (cases_lt j i) [ inl lt ↦ u.below j lt | inr ge ↦ u.above j (let n : i < j = past j ge ne in omega arith) ]

  word : (k v : ℕ) (i : ℕ) (ws : List ℕ) → k < 24 → Only (6664 + i * 24) (6664 + i * 24 + 24) (set ws (6664 + i * 24 + k) v) ws
  word k v i ws h = only_wide (6664 + i * 24 + k) (6664 + i * 24 + k + 1) (6664 + i * 24) (6664 + i * 24 + 24) _ _ (omega arith) (omega arith) (set_only (6664 + i * 24 + k) v ws)

  pub machine_opened : (i : ℕ) (b : Bool) → i < machine_rows_lem home → (live : List ℕ) → MachinesNow (machines_with home live i (map (opened b) (machine_at home live i))) home live (set home (6664 + i * 24 + 4) (bool_byte b)) live
  machine_opened i b w live =
      let l = long_row i (omega arith) in
      puts live _ live i _ w (word 4 (bool_byte b) i home (omega arith)) (only_none i (i + 1) live)
      (ap (λ (r : List ℕ). machine_slot r (at live i)) (set_row 24 (6664 + i * 24) 4 (bool_byte b) home) ∙ open_slot (machine_row_lem home i) (at live i) b (omega arith))

  pub machine_heard : (live : List ℕ) (i l n t : ℕ) → i < machine_rows_lem home → i < length live → MachinesNow (machines_with home live i (map (heard_from l n t) (machine_at home live i))) home live (set (set home (6664 + i * 24 + 5) l) (6664 + i * 24 + 6) n) (set live i t)
  machine_heard live i l n t w q =
      let z = long_row i (omega arith) in
      puts live _ (set live i t) i _ w (only_then _ _ _ _ _ (word 6 n i _ (omega arith)) (word 5 l i home (omega arith))) (set_only i t live)
      (ap (λ (r : List ℕ). machine_slot r (at (set live i t) i)) (set_row 24 (6664 + i * 24) 6 n _ ∙ ap (λ (r : List ℕ). set r 6 n) (set_row 24 (6664 + i * 24) 5 l home)) ∙
      ap (machine_slot (set (set (machine_row_lem home i) 5 l) 6 n)) (get_or-set_same live i t 0 q) ∙ hear_slot (machine_row_lem home i) (at live i) l n t (omega arith))

  pub machine_gone : (i : ℕ) → i < machine_rows_lem home → (live : List ℕ) → MachinesNow (machines_with home live i []) home live (set home (6664 + i * 24) 0) live
  machine_gone i w live =
      let o : Only (6664 + i * 24) (6664 + i * 24 + 24) (set home (6664 + i * 24) 0) home = only_wide (6664 + i * 24) (6664 + i * 24 + 1) (6664 + i * 24) (6664 + i * 24 + 24) _ _ (omega arith) (omega arith) (set_only (6664 + i * 24) 0 home) in
      let z : at (machine_row_lem (set home (6664 + i * 24) 0) i) 0 ≡ 0 = get_or-take 24 (drop (6664 + i * 24) (set home (6664 + i * 24) 0)) 0 0 (omega arith) ∙ get_or-drop (6664 + i * 24) (set home (6664 + i * 24) 0) 0 0 ∙ (let e : 6664 + i * 24 + 0 ≡ 6664 + i * 24 = omega arith in ap (at (set home (6664 + i * 24) 0)) e) ∙ get_or-set_same home (6664 + i * 24) 0 0 (omega arith) in
      puts live (set home (6664 + i * 24) 0) live i [] w o (only_none i (i + 1) live) (slot_hole (at (machine_row_lem (set home (6664 + i * 24) 0) i) 0) (machine_from (machine_row_lem (set home (6664 + i * 24) 0) i) (at live i)) z)

  rows_word : (mid : List ℕ) (v i : ℕ) → length mid ≡ length home → i < 256 → machine_row_lem (set mid 2 v) i ≡ machine_row_lem mid i
  rows_word mid v i l w = only_row 2 3 (6664 + i * 24) 24 (set mid 2 v) mid (set_only 2 v mid) (omega arith) (inr (omega arith))

  pub machine_pushed : (live mid r : List ℕ) (n : ℕ) (x : s.Machine) → n ≡ machine_rows_lem home → n < 256 → n < length live → length r ≡ 24 → machine_from r 0 ≡ x → at r 0 ≡ 1 → WordsPut (6664 + n * 24) r home mid → MachinesNow (machines_of home live ++ x ∷ []) home live (set mid 2 (n + 1)) (set live n 0)
  machine_pushed live mid r n x is w q l e one' p =
      let o : Only (6664 + n * 24) (6664 + n * 24 + 24) mid home = subst (λ (k : ℕ). Only (6664 + n * 24) (6664 + n * 24 + k) mid home) l p.only in
      let here : machine_row_lem mid n ≡ r = ap (λ (k : ℕ). take k (drop (6664 + n * 24) mid)) (sym l) ∙ p.here in
      let long = o.long in
      let a = apart_set 6664 12808 2 (n + 1) home mid (omega arith) (omega arith) (near mid n w o) in
      let h' = set mid 2 (n + 1) in
      let l' = set live n 0 in
      let two : at (set mid 2 (n + 1)) 2 ≡ n + 1 = get_or-set_same mid 2 (n + 1) 0 (omega arith) in
      let rows : machine_rows_lem (set mid 2 (n + 1)) ≡ n + 1 = ap (λ (k : ℕ). min k 256) two ∙ omega arith in
      let new' : machine_at h' l' n ≡ x ∷ [] = ap (λ (y : List ℕ). machine_slot y (at l' n)) (rows_word mid (n + 1) n long w ∙ here) ∙ ap (machine_slot r) (get_or-set_same live n 0 0 q) ∙ slot_full (at r 0) (machine_from r 0) (λ z. omega arith) ∙ ap (λ (y : s.Machine). y ∷ []) e in
      let old' : (j : ℕ) → j < n → machine_at h' l' j ≡ machine_at home live j = λ j h. ap (λ (y : List ℕ). machine_slot y (at l' j)) (rows_word mid (n + 1) j long (omega arith) ∙ other_row mid n j w o (omega arith) (λ z. omega arith)) ∙ ap (machine_slot (machine_row_lem home j)) (get_or-set_other live n j 0 0 (λ z. omega arith)) in
      let list : machines_of h' l' ≡ machines_of home live ++ x ∷ [] = ap (span (machine_at h' l') 0) rows ∙ push_list (machine_at home live) (machine_at h' l') n (x ∷ []) new' old' ∙ ap (λ (k : ℕ). span (machine_at home live) 0 k ++ x ∷ []) is in
      record { state = machines_state home h' fits live l' a (λ k h. get_or-set_other live n k 0 0 (λ z. omega arith)) (machines_of home live ++ x ∷ []) list; long = a.long; long_live = length-set live n 0 }

  pub machines_closed : (live mid fs' : List ℕ) (n to : ℕ) → live_words ≤ length live → n ≡ machine_rows_lem home → Closed 6664 24 n home (take 256 live) mid fs' to → MachinesNow (machines_of home live) home live (set mid 2 to) (put_mid 0 256 live fs') × (machine_rows_lem (set mid 2 to) ≡ length (machines_of home live))
  machines_closed live mid fs' n to lw is c =
      let low = c.low in
      let long = c.only.long in
      let lf : length fs' ≡ 256 = c.long ∙ row_length 256 0 live (omega arith) in
      let h' = set mid 2 to in
      let l' = put_mid 0 256 live fs' in
      let a = apart_set 6664 12808 2 to home mid (omega arith) (omega arith) (apart_only 6664 12808 2 6664 (6664 + n * 24) home mid (omega arith) (omega arith) c.only) in
      let u = put_only 0 256 live fs' (omega arith) lf in
      let two : at h' 2 ≡ to = get_or-set_same mid 2 to 0 (omega arith) in
      let rows : machine_rows_lem h' ≡ to = ap (λ (k : ℕ). min k 256) two ∙ omega arith in
      let zero' : (i : ℕ) → 0 + i ≡ i = λ i. omega arith in
      let q = closed_list machine_from 6664 24 home (take 256 live) mid fs' (machine_at home live) (machine_at h' l') n to c
      (λ i h. ap (machine_slot (machine_row_lem home i)) (sym (part_at 0 256 live i (omega arith) ∙ ap (at live) (zero' i))))
      (λ i h. ap (λ (r : List ℕ). machine_slot r (at l' i)) (rows_word mid to i long (omega arith)) ∙ ap (machine_slot (machine_row_lem mid i)) (ap (at l') (sym (zero' i)) ∙ put_at 0 256 live fs' i (omega arith) (omega arith) lf)) in
      let all : span (machine_at home live) 0 n ≡ machines_of home live = ap (span (machine_at home live) 0) is in (
        record { state = machines_state home h' fits live l' a (λ k h. u.above k (omega arith)) (machines_of home live) (ap (span (machine_at h' l') 0) rows ∙ q.0 ∙ all); long = a.long; long_live = u.long },
        rows ∙ sym (ap length (sym all) ∙ q.1),
      )

pub machines_then : (home live mid midl home' live' : List ℕ) (x : s.Machine) → MachinesNow (machines_of home live) home live mid midl → MachinesNow (machines_of mid midl ++ x ∷ []) mid midl home' live' → MachinesNow (machines_of home live ++ x ∷ []) home live home' live'
machines_then home live mid midl home' live' x a b =
    let ms : machines_of mid midl ≡ machines_of home live = ap (λ (u : s.State). u.machines) (a.state 0) in
    record {
      state = λ time. b.state time ∙ ap (λ (zs : List s.Machine). with_machines (zs ++ x ∷ []) (state_of mid midl time)) ms ∙ ap (with_machines (machines_of home live ++ x ∷ [])) (a.state time);
      long = b.long ∙ a.long;
      long_live = b.long_live ∙ a.long_live;
    }
